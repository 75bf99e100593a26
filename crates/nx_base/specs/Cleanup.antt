-- Which rows a cleanup policy takes: those that meet each of its criteria.
use Rattle.std.specs.Prelude.{ℕ, ◌-◌, ◌*◌, ◌++◌, Bool, true, false, ◌&&◌, nat_le, List, codes, chars, Option, unwrap_or, is_some}
use Rattle.std.specs.Option.{option_map_or}
use Rattle.regex_syntax.specs.Grammar.{read}
use Rattle.regex.specs.Patterns.{default_config, find_str}
use Rattle.nx_base.specs.Given.{given}
use Rattle.nx_base.specs.declared.key.Key.{Key}
use Rattle.nx_base.specs.declared.asset.Asset.{Asset}

-- a criterion that isn't set bars nothing. Ages are in days; the path is the text of a pattern.
pub record Criteria : Type 0 where
  pub age : Option ℕ
  pub usage : Option ℕ
  pub path : Option (List ℕ)

-- a day in milliseconds
abbrev pub day : ℕ
day = 86400000

-- whether that many days have gone by
abbrev pub has_passed : ℕ → ℕ → ℕ → Bool
has_passed days since now = nat_le (days * day) (now - since)

-- when the content was last asked for, or else made
abbrev pub last_used : Asset → ℕ
last_used asset = unwrap_or asset.downloaded asset.blob.timestamp

-- the pattern that holds of a text where the given one holds of the whole of it
abbrev pub whole_pattern : List ℕ → List ℕ
whole_pattern pattern = codes "\\A(?:" ++ pattern ++ codes ")\\z"

-- whether all of a text matches a pattern of the crate `regex`. What is no pattern matches nothing.
unfoldable pub is_hit : List ℕ → List ℕ → Bool
is_hit pattern text =
    option_map_or (λ read. is_some (find_str read.0.value text 0)) (read default_config (chars (whole_pattern pattern))) false

-- whether each criterion that is set holds of the row at that time
abbrev pub matches : Criteria → Key → Asset → ℕ → Bool
matches criteria key asset now =
    given criteria.age true (λ days. has_passed days asset.blob.timestamp now)
    && given criteria.usage true (λ days. has_passed days (last_used asset) now)
    && given criteria.path true (λ pattern. is_hit pattern key.path)
