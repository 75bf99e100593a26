-- Which cleanup policy takes a row.
use Rattle.std.specs.Prelude.{ℕ, Bool, false, List, find, Option, None}
use Rattle.std.specs.FinMap as map
use Rattle.nx_base.specs.Given.{given}
use Rattle.nx_base.specs.Order.{name_cmp}
use Rattle.nx_base.specs.Cleanup.{Criteria, matches}
use Rattle.nx_base.specs.declared.key.Key.{Key}
use Rattle.nx_base.specs.declared.asset.Asset.{Asset}
use Rattle.repo_model.specs.Config.{Config, repo_of}

-- whether the policy of that name matches the row at that time. One that isn't declared matches none.
abbrev pub takes_row_by : List (List ℕ × Criteria) → Key → Asset → ℕ → List ℕ → Bool
takes_row_by policies key asset now name = given (map.find name_cmp name policies) false (λ criteria. matches criteria key asset now)

-- the first policy of the key's repository that matches
abbrev pub first_match : Config → Key → Asset → ℕ → Option (List ℕ)
first_match config key asset now = given (repo_of config key.repo) None (λ repo. find (takes_row_by config.policies key asset now) repo.cleanup)
