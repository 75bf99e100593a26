-- What a call leaves in the journal, and how its work becomes its answer.
use Rattle.std.specs.Prelude.{ℕ, ◌<◌, ◌≤◌, Bool, true, false, [], ◌∷◌, ◌++◌, length, Option, Some, None, Result, Ok, Err}
use Rattle.repo_model.specs.declared.call.Call.{Call}
use Rattle.repo_model.specs.declared.entry.Entry.{Entry}
use Rattle.repo_model.specs.declared.reply.Cause.{Cause}
use Rattle.repo_model.specs.declared.reply.Refusal.{Refusal}
use Rattle.repo_model.specs.declared.reply.Reply.{Reply}
use Rattle.repo_model.specs.declared.reply.Reply.TheVariants as reply
use Rattle.repo_model.specs.Journal.{JournalView}
use Rattle.repo_core.specs.declared.denial.Denial.{Denial}
use Rattle.repo_core.specs.declared.stop.Stop.{Stop}
use Rattle.repo_core.specs.declared.stop.Stop.TheVariants as stop
use Rattle.repo_core.specs.Faults.{refusal_of_fault, refusal_for}

-- the journal has no room for an entry
abbrev pub IsFull : JournalView → Type 0
IsFull journal = journal.room ≤ length journal.entries

-- it has
abbrev pub HasRoom : JournalView → Type 0
HasRoom journal = length journal.entries < journal.room

-- the journal with one entry more
abbrev pub with_entry : JournalView → Entry → JournalView
with_entry journal entry = record journal { entries = journal.entries ++ entry ∷ [] }

-- the reply that says what a call answers
abbrev pub reply_of : {A : Type 0} → (A → Reply) → Result A Refusal → Reply
reply_of says (Ok value) = says value
reply_of says (Err why) = reply.Refused why

abbrev pub entry_of : {A : Type 0} → ℕ → Call → (A → Reply) → Result A Refusal → Entry
entry_of caller c says result = record { caller = caller; call = c; reply = reply_of says result }

-- what the work of a call answers: a denial and a fault by their refusals
abbrev pub answer_of : {A : Type 0} → Result A Stop → Result A Refusal
answer_of (Ok value) = Ok value
answer_of (Err (stop.Denied why)) = Err (refusal_for why)
answer_of (Err (stop.Broke what)) = Err (refusal_of_fault what)

-- and what the repository is broken by after it, as the entry of that number
abbrev pub cause_of : {A : Type 0} → ℕ → Result A Stop → Option Cause
cause_of number (Ok value) = None
cause_of number (Err (stop.Denied why)) = None
cause_of number (Err (stop.Broke what)) = Some (record { fault = what; entry = number })

-- whether the work was denied, so that nothing was changed
abbrev pub is_denied : {A : Type 0} → Result A Stop → Bool
is_denied (Ok value) = false
is_denied (Err (stop.Denied why)) = true
is_denied (Err (stop.Broke what)) = false

-- whether a fault stopped it halfway
abbrev pub is_broke : {A : Type 0} → Result A Stop → Bool
is_broke (Ok value) = false
is_broke (Err (stop.Denied why)) = false
is_broke (Err (stop.Broke what)) = true

-- how a work ends that is never stopped halfway
abbrev pub stopped : {A : Type 0} → Result A Denial → Result A Stop
stopped (Ok value) = Ok value
stopped (Err why) = Err (stop.Denied why)
