-- What the values of the nine keys mean.
use Rattle.std.specs.Prelude.{ℕ, ◌^◌, ◌&&◌, nat_le, nat_lt, Bool, if◌then◌else◌, List, length, Option, Some, None, codes}
use Rattle.std.specs.Result.{result_ok}
use Rattle.std.specs.Char.{is_ascii_digit}
use Rattle.std.specs.List.{list_all}
use Rattle.std.specs.Str.{str_eq_ignore_ascii_case}
use Rattle.std.specs.Str.Parse.{digits_value}
use Rattle.hex.specs.Hex.{decode_sized}
use Rattle.nx_base.specs.Names.{name_of}
use Rattle.nx_base.specs.Paths.{path_of}
use Rattle.nx_base.specs.ContentTypes.{content_type_of}

-- the number below `end` that 1 to `most` decimal digits write, with or without leading zeros
unfoldable pub number_of : ℕ → ℕ → List ℕ → Option ℕ
number_of most end text =
    if nat_lt 0 (length text) && nat_le (length text) most && list_all is_ascii_digit text && nat_lt (digits_value 10 text) end
    then Some (digits_value 10 text) else None

-- a time in milliseconds: of a timestamp, or of a mark
abbrev pub time_of : List ℕ → Option ℕ
time_of text = number_of 15 (2 ^ 48) text

abbrev pub size_of : List ℕ → Option ℕ
size_of text = number_of 19 (2 ^ 63) text

-- the twenty bytes that forty hexadecimal digits of either case write
abbrev pub sha1_of : List ℕ → Option (List ℕ)
sha1_of text = result_ok (decode_sized text 20)

abbrev pub path_in : List ℕ → Option (List ℕ)
path_in text = result_ok (path_of text)

abbrev pub type_in : List ℕ → Option (List ℕ)
type_in text = result_ok (content_type_of text)

abbrev pub repo_in : List ℕ → Option (List ℕ)
repo_in text = result_ok (name_of text)

-- `true`, in any case of its letters
abbrev pub says_true : List ℕ → Bool
says_true text = str_eq_ignore_ascii_case text (codes "true")
