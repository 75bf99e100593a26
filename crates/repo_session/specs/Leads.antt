-- What one call makes of a state.
use Rattle.std.specs.Prelude.{◌≡◌, ◌⊎◌, ℕ, ◌≤◌, ◌<◌, List, [], ◌∷◌}
use Rattle.repo_model.specs.declared.call.Call.{Call}
use Rattle.repo_model.specs.declared.entry.Entry.{Entry}
use Rattle.repo_model.specs.declared.reply.Reply.{Reply}
use Rattle.repo_model.specs.Config.{Config}
use Rattle.repo_model.specs.State.{State}
use Rattle.http_front.specs.Answers.{full}
use Rattle.http_front.specs.Turns.{FollowsAt}

-- The entries of a call that was answered so, where the journal has so many entries before it and takes so many: one; or none where it
-- was full, and then that is the answer.
abbrev pub IsEntryOf : ℕ → ℕ → Call → Reply → List Entry → Type 0
IsEntryOf room number c said entries =
    ((number < room) × (entries ≡ record { caller = 0; call = c; reply = said } ∷ [])) ⊎ ((room ≤ number) × (entries ≡ []) × (said ≡ full))

-- by the entries, of which there is one at most, the state leads to the new one
abbrev pub LeadsBy : Config → ℕ → State → List ℕ → List Entry → State → Type 0
LeadsBy config number state store [] new = new ≡ state
LeadsBy config number state store (entry ∷ entries) new = FollowsAt config number state store entry new × (entries ≡ [])
