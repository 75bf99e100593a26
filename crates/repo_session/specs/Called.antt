-- What one call makes of a core.
use Rattle.std.specs.Prelude.{◌≡◌, ℕ, ◌≤◌, List, ◌++◌, length, Some, None, IsSome}
use Rattle.nx_io.specs.Causes.{Rose}
use Rattle.repo_model.specs.declared.call.Call.{Call}
use Rattle.repo_model.specs.declared.entry.Entry.{Entry}
use Rattle.repo_model.specs.declared.reply.Reply.{Reply}
use Rattle.repo_model.specs.declared.reply.Reply.TheVariants as reply
use Rattle.repo_model.specs.declared.reply.Refusal.TheVariants as refusal
use Rattle.repo_model.specs.declared.reply.Fault.TheVariants as fault
use Rattle.repo_model.specs.declared.reply.Cause.{Cause}
use Rattle.repo_model.specs.State.{State}
use Rattle.repo_model.specs.Plain.{config_of}
use Rattle.http_front.specs.Contents.{Contents}
use Rattle.repo_core.specs.Standing.{IsDurable, Tracks}
use Rattle.repo_session.specs.Others.{OthersStay}
use Rattle.repo_core.specs.View.{CoreView}
use Rattle.repo_core.specs.Devices.{Devices}
use Rattle.repo_session.specs.Standing.{Stands}
use Rattle.repo_session.specs.Leads.{IsEntryOf, LeadsBy}

-- From one core to another these entries joined the journal. The configuration stays, counts of faults never fall, a table that is told
-- was told before, a core that was broken stays so by the same cause, and one that broke did so by a device whose count rose, or for memory.
-- A disk on which everything is settled is settled again, unless the core broke; and, told, files that are no blob's stay.
pub record Since {D T : Type 0} (devices : Devices D T) (old new : CoreView D T) (entries : List Entry) : Type 0 where
  pub journal : new.journal ≡ record old.journal { entries = old.journal.entries ++ entries }
  pub config : new.config ≡ old.config
  pub tells : IsSome (devices.table new.table) → IsSome (devices.table old.table)
  pub disk_later : devices.disk_faults old.disk ≤ devices.disk_faults new.disk
  pub keeper_later : devices.keeper_faults old.table ≤ devices.keeper_faults new.table
  pub broken : (cause : Cause) → old.broken ≡ Some cause → new.broken ≡ Some cause
  pub disk_broke : (cause : Cause) → old.broken ≡ None → new.broken ≡ Some cause → cause.fault ≡ fault.Disk → Rose (devices.disk_faults old.disk) (devices.disk_faults new.disk)
  pub keeper_broke : (cause : Cause) → old.broken ≡ None → new.broken ≡ Some cause → cause.fault ≡ fault.Keeper → Rose (devices.keeper_faults old.table) (devices.keeper_faults new.table)
  pub durable : devices.told → new.broken ≡ None → IsDurable devices.tree devices.clock devices.lists old.disk → IsDurable devices.tree devices.clock devices.lists new.disk
  pub others : devices.told → IsSome (devices.table new.table) → (state : State) → Tracks devices.tree devices.table old state
      → (next : State) × Tracks devices.tree devices.table new next × OthersStay (devices.tree old.disk) (devices.tree new.disk)

-- an answer that says that a device failed comes only where its count rose
pub record HasDeviceCause {D T : Type 0} (devices : Devices D T) (old new : CoreView D T) (said : Reply) : Type 0 where
  pub disk : said ≡ reply.Refused refusal.DiskFault → Rose (devices.disk_faults old.disk) (devices.disk_faults new.disk)
  pub keeper : said ≡ reply.Refused refusal.KeeperFault → Rose (devices.keeper_faults old.table) (devices.keeper_faults new.table)

-- The call was answered so. `store` is that of the upload that it puts, if it puts one, and `after` what it makes of the contents.
pub record Called {D T : Type 0} (devices : Devices D T) (old new : CoreView D T) (c : Call) (store : List ℕ) (said : Reply) (after : Contents → Contents) : Type 0 where
  pub entries : List Entry
  pub made : IsEntryOf old.journal.room (length old.journal.entries) c said entries
  pub since : Since devices old new entries
  pub cause : HasDeviceCause devices old new said
  pub leads : devices.told → IsSome (devices.table new.table) → (state : State) (contents : Contents) → Stands devices old state contents
      → (next : State) × LeadsBy (config_of old.config) (length old.journal.entries) state store entries next × Stands devices new next (after contents)
