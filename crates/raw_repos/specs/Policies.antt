-- Whether a path of a hosted repository may be written to.
use Rattle.std.specs.Prelude.{◌≡◌, Bool, true, false, is_some, Result, Ok, Err}
use Rattle.nx_base.specs.declared.key.Key.{Key}
use Rattle.nx_base.specs.declared.policy.Policy.{Policy}
use Rattle.nx_base.specs.declared.policy.Policy.TheVariants.{Redeploy, NoRedeploy, ReadOnly}
use Rattle.repo_model.specs.Config.{Repo}
use Rattle.repo_model.specs.State.{State, row_of}
use Rattle.repo_model.specs.Writing.{bars_put, keeps_row}

-- A read-only repository takes nothing. One without redeployment takes nothing where something is there.
abbrev pub write_answer : Policy → Bool → Result (Unit {0}) Policy
write_answer Redeploy there = Ok tt
write_answer NoRedeploy true = Err NoRedeploy
write_answer NoRedeploy false = Ok tt
write_answer ReadOnly there = Err ReadOnly

-- A hosted repository answers so exactly where the one-thread repository does: the policy bars every put, or it keeps what the key has.
abbrev pub AnswersAsTheModel : Repo → State → Key → Type 0
AnswersAsTheModel repo state key =
    ((bars_put repo ≡ true) → write_answer repo.policy (is_some (row_of state key)) ≡ Err ReadOnly)
    × ((bars_put repo ≡ false) → (keeps_row repo state key ≡ true) → write_answer repo.policy (is_some (row_of state key)) ≡ Err NoRedeploy)
    × ((bars_put repo ≡ false) → (keeps_row repo state key ≡ false) → write_answer repo.policy (is_some (row_of state key)) ≡ Ok tt)
