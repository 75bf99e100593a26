-- The fields of a head in the map that keeps them.
use Rattle.std.specs.Prelude.{◌≡◌, ℕ, List, [], ◌∷◌, map, codes}
use Rattle.std.specs.Char.{to_ascii_lowercase}
use Rattle.http_header.specs.FieldName.{IsFieldName}
use Rattle.http_header.specs.FieldValue.{FieldValue, IsFieldValue}
use Rattle.http_header.specs.HeaderMap.{Entries, get_all}
use Rattle.http_heads.specs.declared.kept.Given.{Given}
use Rattle.http_heads.specs.declared.kept.Given.TheVariants.{Nothing, One, Several}
use Rattle.http_heads.specs.Fields.{Pair, Values, values_of}

-- the values under a name that is in lower case
abbrev pub values_under : List ℕ → Entries FieldValue → List (List ℕ)
values_under name kept = map (λ value. value.bytes) (get_all kept name)

-- the values of the five names that count
abbrev pub values_kept : Entries FieldValue → Values
values_kept kept = record {
  lengths = values_under (codes "content-length") kept;
  codings = values_under (codes "transfer-encoding") kept;
  types = values_under (codes "content-type") kept;
  expectations = values_under (codes "expect") kept;
  options = values_under (codes "connection") kept;
}

-- a field that the map can keep
abbrev pub IsKeepable : Pair → Type 0
IsKeepable field = IsFieldName field.0 × IsFieldValue field.1

-- the map keeps these fields and no others, each name's values in their order
abbrev pub KeepsFields : Entries FieldValue → List Pair → Type 0
KeepsFields kept fields = (name : List ℕ) → map to_ascii_lowercase name ≡ name → values_under name kept ≡ values_of name fields

-- how many values there are
abbrev pub IsGiven : List (List ℕ) → Given → Type 0
IsGiven values Nothing = values ≡ []
IsGiven values (One text) = values ≡ text.now ∷ []
IsGiven values Several = (first : List ℕ) × (second : List ℕ) × (others : List (List ℕ)) × (values ≡ first ∷ second ∷ others)
