-- The fields of a head by their names (RFC 9110, section 5).
use Rattle.std.specs.Prelude.{ℕ, ◌&&◌, nat_le, Bool, if◌then◌else◌, List, length, map, Option, Some, None, bytes_eq, codes}
use Rattle.std.specs.List.{filter, list_all}
use Rattle.std.specs.Char.{to_ascii_lowercase, is_ascii_digit}
use Rattle.std.specs.Str.Parse.{digits_value}

-- a field: its name, and its value without the spaces and tabs around it
abbrev pub Pair : Type 0
Pair = List ℕ × List ℕ

-- two texts are the same but for the case of letters
abbrev pub same_word : List ℕ → List ℕ → Bool
same_word text word = bytes_eq (map to_ascii_lowercase text) (map to_ascii_lowercase word)

-- the values under a name, in their order
unfoldable pub values_of : List ℕ → List Pair → List (List ℕ)
values_of name fields = map (λ (field : Pair). field.1) (filter (λ (field : Pair). same_word field.0 name) fields)

-- the values of the five names that count
pub record Values : Type 0 where
  pub lengths : List (List ℕ)
  pub codings : List (List ℕ)
  pub types : List (List ℕ)
  pub expectations : List (List ℕ)
  pub options : List (List ℕ)

abbrev pub values_in : List Pair → Values
values_in fields = record {
  lengths = values_of (codes "content-length") fields;
  codings = values_of (codes "transfer-encoding") fields;
  types = values_of (codes "content-type") fields;
  expectations = values_of (codes "expect") fields;
  options = values_of (codes "connection") fields;
}

-- the number that 1 to 19 decimal digits write
unfoldable pub decimal_of : List ℕ → Option ℕ
decimal_of text =
    if (nat_le 1 (length text) && nat_le (length text) 19) && list_all is_ascii_digit text
    then Some (digits_value 10 text) else None
