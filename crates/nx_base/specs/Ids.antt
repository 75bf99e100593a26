-- The ids of blobs: sixteen bytes, those of a UUID of version 7 (RFC 9562, section 5.7), and their texts.
use Rattle.std.specs.Prelude.{ℕ, ◌+◌, ◌/◌, ◌%◌, ◌^◌, ◌==◌, ◌&&◌, ◌||◌, nat_le, nat_lt, Bool, if◌then◌else◌, List, [], ◌∷◌, length, slice_index, Option, Some, None, option_map}
use Rattle.uuid.specs.Text.{hyphenated_text, lower, is_hyphen_place}
use Rattle.nx_base.specs.declared.name_err.NameErr.{NameErr}
use Rattle.nx_base.specs.declared.name_err.NameErr.TheVariants.{Empty, TooLong, BadByte}

-- the id made from a timestamp below 2 ^ 48, most significant byte first, and ten random bytes
abbrev pub id_made : ℕ → List ℕ → List ℕ
id_made timestamp random =
    (timestamp / 2 ^ 40 % 256) ∷ (timestamp / 2 ^ 32 % 256) ∷ (timestamp / 2 ^ 24 % 256) ∷ (timestamp / 2 ^ 16 % 256) ∷ (timestamp / 2 ^ 8 % 256) ∷ (timestamp % 256)
    ∷ (0x70 + slice_index random 0 % 16) ∷ slice_index random 1
    ∷ (0x80 + slice_index random 2 % 64) ∷ slice_index random 3
    ∷ slice_index random 4 ∷ slice_index random 5 ∷ slice_index random 6 ∷ slice_index random 7 ∷ slice_index random 8 ∷ slice_index random 9 ∷ []

-- the text of an id: its digits of sixteen in lower case, in groups of 8, 4, 4, 4 and 12 joined by hyphens
abbrev pub id_text : List ℕ → List ℕ
id_text id = hyphenated_text lower id

-- a digit of sixteen in lower case
abbrev pub is_lower_digit : ℕ → Bool
is_lower_digit b = (nat_le 48 b && nat_le b 57) || (nat_le 97 b && nat_le b 102)

-- whether the byte may stand at place k of the text
abbrev pub is_id_byte : ℕ → ℕ → Bool
is_id_byte k b = if is_hyphen_place k then b == 45 else is_lower_digit b

-- the first place, from k on, at which no byte or a wrong one stands
unfoldable pub bad_id_place : ℕ → List ℕ → Option ℕ
bad_id_place k [] = if k == 36 then None else Some k
bad_id_place k (b ∷ rest) = if is_id_byte k b then bad_id_place (k + 1) rest else Some k

-- why a text is no id
abbrev pub id_refusal : List ℕ → Option NameErr
id_refusal text =
    if length text == 0 then Some Empty
    else if nat_lt 36 (length text) then Some (TooLong (length text))
    else option_map (λ at. BadByte at) (bad_id_place 0 text)
