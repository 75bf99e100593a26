-- Which repositories may be written to, and how uploads are counted.
use Rattle.std.specs.Prelude.{ℕ, ◌+◌, ◌%◌, ◌^◌, Bool, true, false, ◌&&◌, ◌||◌, not, List, is_some, unwrap_or}
use Rattle.std.specs.FinMap as map
use Rattle.nx_base.specs.declared.key.Key.{Key}
use Rattle.repo_model.specs.declared.call.Kind.{Kind}
use Rattle.repo_model.specs.declared.call.Kind.TheVariants as kind
use Rattle.repo_model.specs.Config.{Repo, is_hosted, is_read_only, is_no_redeploy}
use Rattle.repo_model.specs.State.{State, row_of}

abbrev pub is_put : Kind → Bool
is_put kind.Put = true
is_put kind.Fetch = false

-- whether clients may put nothing into a repository: a proxy, or a read-only one
abbrev pub bars_put : Repo → Bool
bars_put repo = not (is_hosted repo.kind) || is_read_only repo.policy

-- whether clients may delete nothing of it
abbrev pub bars_delete : Repo → Bool
bars_delete repo = is_hosted repo.kind && is_read_only repo.policy

-- whether what the key has may not be replaced
abbrev pub keeps_row : Repo → State → Key → Bool
keeps_row repo state key = is_no_redeploy repo.policy && is_some (row_of state key)

-- the uploads begun in a store or group
abbrev pub count_of : State → List ℕ → ℕ
count_of state store = unwrap_or (map.get state.counts store) 0

-- one more upload, from 2 ^ 64 - 1 to 0
abbrev pub counted : State → List ℕ → State
counted state store = record state { counts = map.insert state.counts store ((count_of state store + 1) % 2 ^ 64) }
