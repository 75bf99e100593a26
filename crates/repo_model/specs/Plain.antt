-- What the plain repository stands for.
use Rattle.std.specs.Prelude.{ℕ, List, [], map, Option, Some, None, Result, Ok, Err}
use Rattle.std.specs.Option.{option_map}
use Rattle.nx_base.specs.Cleanup.{Criteria}
use Rattle.nx_base.specs.Given.{given}
use Rattle.nx_base.specs.declared.asset.Asset.{Asset}
use Rattle.repo_model.specs.declared.reply.Refusal.{Refusal}
use Rattle.repo_model.specs.declared.reply.Reply.{Reply}
use Rattle.repo_model.specs.declared.plain.config.PlainConfig.{PlainConfig}
use Rattle.repo_model.specs.declared.plain.policies.PlainPolicy.{PlainPolicy}
use Rattle.repo_model.specs.declared.plain.state.PlainState.{PlainState}
use Rattle.repo_model.specs.Config.{Config}
use Rattle.repo_model.specs.State.{State}
use Rattle.repo_model.specs.Outcome.{Outcome}
use Rattle.repo_model.specs.Storing.{Stored}

-- without cleanup policies
abbrev pub config_of : PlainConfig → Config
config_of c = record { repos = c.repos.items; groups = c.groups.items; policies = []; compact_age = c.compact_age }

-- what a policy asks, where the text of a built pattern is known
abbrev pub criteria_in : {M : Type 0} → (M → List ℕ) → PlainPolicy M → Criteria
criteria_in text policy = record { age = policy.age; usage = policy.usage; path = option_map text policy.path }

abbrev pub policies_in : {M : Type 0} → (M → List ℕ) → List (List ℕ × PlainPolicy M) → List (List ℕ × Criteria)
policies_in text policies = map (λ policy. (policy.0, criteria_in text policy.1)) policies

-- the configuration with those cleanup policies
abbrev pub with_policies : {M : Type 0} → (M → List ℕ) → List (List ℕ × PlainPolicy M) → Config → Config
with_policies text policies config = record config { policies = policies_in text policies }

abbrev pub state_of : PlainState → State
state_of s = record { rows = s.rows; trash = s.trash; loose = s.loose; taken = s.taken; notes = s.notes; last = s.last; counts = s.counts; broken = s.broken }

-- the outcome that the plain repository came to
abbrev pub outcome_of : Option Reply → PlainState → Option Outcome
outcome_of answer new = given answer None (λ said. Some (record { reply = said; new = state_of new }))

-- what became of a content that was to be stored
abbrev pub stored_of : Result Asset Refusal → PlainState → Result Stored Refusal
stored_of (Ok asset) new = Ok (record { asset = asset; new = state_of new })
stored_of (Err why) new = Err why
