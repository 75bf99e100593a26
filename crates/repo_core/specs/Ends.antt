-- How the work of a call ends.
use Rattle.std.specs.Prelude.{◌≡◌, ℕ, List, [], Result, Ok, Err, Some}
use Rattle.nx_base.specs.declared.key.Key.{Key}
use Rattle.nx_base.specs.declared.asset.Asset.{Asset}
use Rattle.repo_model.specs.declared.call.Call.{Call}
use Rattle.repo_model.specs.declared.call.Call.TheVariants as call
use Rattle.repo_model.specs.declared.reply.Reply.{Reply}
use Rattle.repo_model.specs.declared.reply.Reply.TheVariants as reply
use Rattle.repo_model.specs.Config.{Config}
use Rattle.repo_model.specs.State.{State, row_of}
use Rattle.repo_model.specs.Deleting.{gone}
use Rattle.repo_model.specs.Outcome.{answered}
use Rattle.repo_model.specs.Step.{Step, outcome}
use Rattle.repo_model.specs.History.{Follows}
use Rattle.repo_core.specs.declared.denial.Denial.{Denial}
use Rattle.repo_core.specs.declared.stop.Stop.{Stop}
use Rattle.repo_core.specs.declared.stop.Stop.TheVariants as stop
use Rattle.repo_core.specs.Faults.{refusal_for}
use Rattle.repo_core.specs.Standing.{AnswersAt}

-- the state allows this denial, as any entry's, and stays
abbrev pub Denies : Config → State → Call → Denial → Type 0
Denies config s c why = (number caller : ℕ) → Follows config number s (record { caller = caller; call = c; reply = reply.Refused (refusal_for why) }) s

-- The work is done, and a step leads to a state that agrees; or it is denied, and the state stays. After a fault halfway nothing
-- is asked.
abbrev pub Ends : {A : Type 0} → Config → State → Call → (A → Reply) → (State → Type 0) → Result A Stop → Type 0
Ends config s c says agrees (Ok value) = (new : State) × Step config s c (says value) new × agrees new
Ends config s c says agrees (Err (stop.Denied why)) = Denies config s c why × agrees s
Ends config s c says agrees (Err (stop.Broke what)) = Unit {0}

-- the state allows this denial of an upload in that store: by the step of it, unless the denial tells of a fault
abbrev pub DeniesAt : Config → State → List ℕ → Call → Denial → Type 0
DeniesAt config s store c why = Denies config s c why × AnswersAt config s store c (reply.Refused (refusal_for why)) s

-- the work on an upload in that store ends in the same ways, and is done by the step of it
abbrev pub EndsAt : {A : Type 0} → Config → State → List ℕ → Call → (A → Reply) → (State → Type 0) → Result A Stop → Type 0
EndsAt config s store c says agrees (Ok value) = (new : State) × (outcome config s store c ≡ answered new (says value)) × agrees new
EndsAt config s store c says agrees (Err (stop.Denied why)) = DeniesAt config s store c why × agrees s
EndsAt config s store c says agrees (Err (stop.Broke what)) = Unit {0}

-- the row that a deletion takes, or why it takes none
abbrev pub MayDelete : Config → State → Key → ℕ → Result Asset Denial → Type 0
MayDelete config s key now (Ok asset) = (row_of s key ≡ Some asset) × (outcome config s [] (call.Delete key now) ≡ gone s key now asset)
MayDelete config s key now (Err why) = Denies config s (call.Delete key now) why
