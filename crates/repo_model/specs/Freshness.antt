-- When the remote of a proxy needn't be asked. Differences of times stop at 0.
use Rattle.std.specs.Prelude.{ℕ, ◌-◌, ◌*◌, Bool, true, false, ◌||◌, nat_lt, Option}
use Rattle.std.specs.FinMap as map
use Rattle.nx_base.specs.Given.{given}
use Rattle.nx_base.specs.declared.key.Key.{Key}
use Rattle.repo_model.specs.Config.{Repo, is_hosted}
use Rattle.repo_model.specs.State.{State}

-- a minute in milliseconds
abbrev pub minute : ℕ
minute = 60000

-- whether an asset that was verified then is younger than the greatest age, in minutes. Without one it always is.
abbrev pub fresh : ℕ → Option ℕ → ℕ → Bool
fresh verified max_age now = given max_age true (λ minutes. nat_lt (now - verified) (minutes * minute))

-- whether a note made then still counts
abbrev pub note_young : ℕ → ℕ → ℕ → Bool
note_young at minutes now = nat_lt (now - at) (minutes * minute)

-- whether the remote lately said that it has nothing of the key
abbrev pub is_noted : Repo → State → Key → ℕ → Bool
is_noted repo state key now = given (map.get state.notes key) false (λ at. note_young at repo.not_found now)

-- whether what is stored of the key, be it nothing, is the answer
abbrev pub is_settled : Repo → State → Key → ℕ → Bool
is_settled repo state key now = is_hosted repo.kind || is_noted repo state key now
