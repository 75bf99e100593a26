-- Texts of segments between slashes: the paths of assets, and the names of files on a disk.
use Rattle.std.specs.Prelude.{ℕ, ◌+◌, ◌-◌, Bool, true, false, ◌&&◌, not, if◌then◌else◌, ◌==◌, nat_lt, nat_le, min, List, [], ◌∷◌, length, Option, Some, None, Result, Ok, Err, is_ok}
use Rattle.std.specs.List.{prefix_len}
use Rattle.std.specs.Str.Lossy.{utf8_valid_len}
use Rattle.nx_base.specs.declared.name_err.NameErr.{NameErr}
use Rattle.nx_base.specs.declared.name_err.NameErr.TheVariants.{Empty, TooLong, BadByte, BadSegment}
use Rattle.nx_base.specs.NameErr.{refusal_behind}

-- a byte that may stand in a path
abbrev pub is_path_byte : ℕ → Bool
is_path_byte b = nat_le 32 b && not (b == 127)

-- how many bytes in front may stand in a path and are UTF-8
unfoldable pub good_len : List ℕ → ℕ
good_len text = min (prefix_len is_path_byte text) (utf8_valid_len text)

-- the segments with one more byte in front of the first
abbrev pub onto_first : ℕ → List (List ℕ) → List (List ℕ)
onto_first b [] = (b ∷ []) ∷ []
onto_first b (segment ∷ segments) = (b ∷ segment) ∷ segments

-- what stands between the slashes: one segment more than there are slashes
unfoldable pub segments_of : List ℕ → List (List ℕ)
segments_of [] = [] ∷ []
segments_of (b ∷ text) = if b == 47 then [] ∷ segments_of text else onto_first b (segments_of text)

-- whether a segment is empty, `.` or `..`
abbrev pub is_bad_segment : List ℕ → Bool
is_bad_segment [] = true
is_bad_segment (a ∷ []) = a == 46
is_bad_segment (a ∷ b ∷ []) = a == 46 && b == 46
is_bad_segment (a ∷ b ∷ c ∷ rest) = false

-- the place of the first bad segment, where the first segment stands at this place
unfoldable pub bad_place : ℕ → List (List ℕ) → Option ℕ
bad_place at [] = None
bad_place at (segment ∷ segments) =
    if is_bad_segment segment then Some at else bad_place (at + length segment + 1) segments

-- the text, unless a segment is bad
abbrev pub unless_bad : List ℕ → Option ℕ → Result (List ℕ) NameErr
unless_bad text None = Ok text
unless_bad text (Some at) = Err (BadSegment at)

-- the text itself, if it has 1 to `most` bytes, each of them one of a path, and no bad segment; else why not
unfoldable pub slashed_of : ℕ → List ℕ → Result (List ℕ) NameErr
slashed_of most text =
    if length text == 0 then Err Empty
    else if nat_lt most (length text) then Err (TooLong (length text))
    else if nat_lt (good_len text) (length text) then Err (BadByte (good_len text))
    else unless_bad text (bad_place 0 (segments_of text))

-- the text without one leading slash
abbrev pub after_slash : List ℕ → List ℕ
after_slash [] = []
after_slash (b ∷ text) = if b == 47 then text else b ∷ text

-- the answer for what stands behind that many bytes, with its place in the whole
abbrev pub behind : ℕ → Result (List ℕ) NameErr → Result (List ℕ) NameErr
behind prefix (Ok text) = Ok text
behind prefix (Err e) = Err (refusal_behind prefix e)

-- the path of an asset that a text gives, or why it gives none
abbrev pub path_of : List ℕ → Result (List ℕ) NameErr
path_of text = behind (length text - length (after_slash text)) (slashed_of 512 (after_slash text))

-- whether a text is the path of an asset, without a leading slash
abbrev pub is_path : List ℕ → Bool
is_path text = is_ok (slashed_of 512 text)

-- the name of a file that a text gives, or why it gives none
abbrev pub file_name_of : List ℕ → Result (List ℕ) NameErr
file_name_of text = slashed_of 1000 text

-- whether a text is the name of a file
abbrev pub is_file_name : List ℕ → Bool
is_file_name text = is_ok (file_name_of text)
