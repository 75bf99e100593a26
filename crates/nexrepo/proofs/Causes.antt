-- A status tells of a fault only where the count of that device rose.
use Rattle.std.proofs.Common.{◌≡◌, ℕ, List, Option, Some, None, refl}
use Rattle.repo_model.specs.declared.entry.Entry.{Entry}
use Rattle.repo_model.specs.declared.reply.Cause.{Cause}
use Rattle.repo_model.specs.declared.reply.Fault.{Fault}
use Rattle.repo_model.specs.declared.reply.Fault.TheVariants as fault
use Rattle.http_front.specs.declared.end.End.{End}
use Rattle.http_front.specs.declared.end.End.TheVariants as ends
use Rattle.http_front.specs.Sessions.{HasEndCause}
use Rattle.repo_core.specs.View.{CoreView}
use Rattle.repo_session.specs.Called.{Since}
use Rattle.repo_core.specs.Devices.{Devices}
use Rattle.nexrepo.specs.Ends.{Counts, HasStatusCause, fault_status, ordinary_status, status_of}

module _ {D T : Type 0} (devices : Devices D T) (core new : CoreView D T) (entries : List Entry) (sound : core.broken ≡ None) (since : Since devices core new entries) (reads reads' writes writes' : ℕ) where
  abbrev before : Counts
  before = record { reads = reads; writes = writes; disk = devices.disk_faults core.disk; keeper = devices.keeper_faults core.table }

  abbrev after : Counts
  after = record { reads = reads'; writes = writes'; disk = devices.disk_faults new.disk; keeper = devices.keeper_faults new.table }

  of_fault : (cause : Cause) → new.broken ≡ Some cause → (what : Fault) → cause.fault ≡ what → HasStatusCause before after (fault_status what)
  of_fault cause is fault.Disk by = since.disk_broke cause sound is by
  of_fault cause is fault.Keeper by = since.keeper_broke cause sound is by
  of_fault cause is fault.Memory by = tt

  ordinary : (broken : Option Cause) → new.broken ≡ broken → HasStatusCause before after (ordinary_status broken)
  ordinary None is = tt
  ordinary (Some cause) is = of_fault cause is cause.fault refl

  pub status_cause : (end : End) → HasEndCause end reads reads' writes writes' → HasStatusCause before after (status_of end new.broken)
  status_cause ends.Clean h = ordinary new.broken refl
  status_cause ends.Closed h = ordinary new.broken refl
  status_cause ends.Cut h = tt
  status_cause ends.ReadFault h = h
  status_cause ends.WriteFault h = h
  status_cause ends.DownloadFault h = tt
  status_cause ends.InputTooLong h = tt
  status_cause ends.NoMemory h = tt
