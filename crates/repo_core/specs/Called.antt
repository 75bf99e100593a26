-- What each call of a core does. A call cites `Called` and `Survives`, and says beside them only what is its own.
use Rattle.std.specs.Prelude.{◌≡◌, ℕ, List, [], ◌∷◌, ◌++◌, length, Option, Some, None, IsSome, Result, Err}
use Rattle.nx_io.specs.Causes.{HasCauseWhere, Rose}
use Rattle.repo_model.specs.declared.entry.Entry.{Entry}
use Rattle.repo_model.specs.declared.reply.Cause.{Cause}
use Rattle.repo_model.specs.declared.reply.Fault.TheVariants as fault
use Rattle.repo_model.specs.declared.reply.Refusal.{Refusal}
use Rattle.repo_model.specs.declared.reply.Refusal.TheVariants as refusal
use Rattle.repo_model.specs.Config.{Config}
use Rattle.repo_model.specs.State.{State}
use Rattle.repo_model.specs.History.{Follows}
use Rattle.repo_model.specs.Journal.{JournalView}
use Rattle.repo_model.specs.Plain.{config_of}
use Rattle.asset_keeper.specs.Told.{Lasts}
use Rattle.repo_core.specs.Answers.{IsFull, HasRoom}
use Rattle.repo_core.specs.Asks.{Ask}
use Rattle.repo_core.specs.Devices.{Devices}
use Rattle.repo_core.specs.Faults.{IsDisk, IsKeeper, RefusedBy}
use Rattle.repo_core.specs.Parts.{Parts, HasShown}
use Rattle.repo_core.specs.Standing.{Tracks, AnswersAt}
use Rattle.repo_core.specs.View.{CoreView}

-- the parts on which the work of a call goes
abbrev pub parts_of : {D T : Type 0} → CoreView D T → Parts D T
parts_of core = record { disk = core.disk; table = core.table; own = core.own }

-- the journal with these entries more
abbrev pub with_entries : JournalView → List Entry → JournalView
with_entries journal entries = record journal { entries = journal.entries ++ entries }

-- By these entries, of which the first has that number and there is one at most, the state leads to the new one; where one ends an upload
-- and tells of no fault, by the step of the upload in that store.
abbrev pub LeadsBy : Config → ℕ → Option (List ℕ) → State → List Entry → State → Type 0
LeadsBy config number store s [] new = new ≡ s
LeadsBy config number None s (entry ∷ entries) new = Follows config number s entry new × (entries ≡ [])
LeadsBy config number (Some store) s (entry ∷ entries) new = Follows config number s entry new × (entries ≡ []) × AnswersAt config s store entry.call entry.reply new

module _ {D T : Type 0} (on : Devices D T) where
  -- these entries lead from the state to one that the new core stands for
  pub record Moved (store : Option (List ℕ)) (old new : CoreView D T) (entries : List Entry) (s : State) : Type 0 where
    pub next : State
    pub leads : LeadsBy (config_of old.config) (length old.journal.entries) store s entries next
    pub tracks : Tracks on.tree on.table new next

  -- The cause by which a call breaks the core names the call's number in the journal, and a device only where its count rose; and it came
  -- behind the first visible step, or by it.
  pub record Breaks (old new : CoreView D T) (cause : Cause) : Type 0 where
    pub number : cause.entry ≡ length old.journal.entries
    pub disk : cause.fault ≡ fault.Disk → Rose (on.disk_faults old.disk) (on.disk_faults new.disk)
    pub keeper : cause.fault ≡ fault.Keeper → Rose (on.keeper_faults old.table) (on.keeper_faults new.table)
    pub behind : HasShown on (parts_of old) (parts_of new)

  module _ {A : Type 0} (ask : Ask D A) (old new : CoreView D T) (result : Result A Refusal) where
    -- The call wasn't made, for that reason: all but the journal stays, and what was handed in is given up.
    pub record IsBarred (why : Refusal) : Type 0 where
      pub answer : result ≡ Err why
      pub rest : new ≡ record old { disk = new.disk; journal = new.journal }
      pub given_up : ask.gives_up old.disk new.disk

    -- What a call did.
    pub record Called : Type 0 where
      -- The journal grew by these entries. Where it has room they are those of the call with this answer.
      pub entries : List Entry
      pub journal : new.journal ≡ with_entries old.journal entries
      pub enters : HasRoom old.journal → ask.enters result entries
      -- A full journal, and no other, bars the call, and gets no entry.
      pub full : IsFull old.journal → IsBarred refusal.JournalFull × (entries ≡ [])
      pub only_full : result ≡ Err refusal.JournalFull → IsFull old.journal
      -- Where there is room, a broken core, and no other, bars it by its cause.
      pub broken : (cause : Cause) → HasRoom old.journal → old.broken ≡ Some cause → IsBarred (refusal.Broken cause)
      pub only_broken : (cause : Cause) → result ≡ Err (refusal.Broken cause) → old.broken ≡ Some cause
      -- From each state that the core stands for, the entries lead to one that the new core stands for.
      pub moves : on.told → IsSome (on.table new.table) → HasRoom old.journal → ask.premise → (s : State) → Tracks on.tree on.table old s → Moved ask.store old new entries s
      -- A table that is told was told before, and a keeper of a kind that lasts goes on telling.
      pub tells : IsSome (on.table new.table) → IsSome (on.table old.table)
      pub lasting : Lasts on.lasts (on.table old.table) (on.table new.table)
      -- The configuration stays.
      pub config : new.config ≡ old.config
      -- A fault of a device is answered only where its count rose. No count falls.
      pub disk_cause : HasCauseWhere (RefusedBy IsDisk) (on.disk_faults old.disk) (on.disk_faults new.disk) result
      pub keeper_cause : HasCauseWhere (RefusedBy IsKeeper) (on.keeper_faults old.table) (on.keeper_faults new.table) result
      -- A core that it breaks is broken by a cause of this call.
      pub breaks : (cause : Cause) → old.broken ≡ None → new.broken ≡ Some cause → Breaks old new cause
