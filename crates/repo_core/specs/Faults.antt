-- What the refusals of devices are to the caller, and which answers tell of a fault.
use Rattle.disk_model.specs.declared.disk_err.DiskErr.{DiskErr}
use Rattle.disk_model.specs.declared.disk_err.DiskErr.TheVariants as disk
use Rattle.asset_keeper.specs.declared.keep_err.KeepErr.{KeepErr}
use Rattle.asset_keeper.specs.declared.keep_err.KeepErr.TheVariants as keep
use Rattle.repo_model.specs.declared.reply.Fault.{Fault}
use Rattle.repo_model.specs.declared.reply.Fault.TheVariants as fault
use Rattle.repo_model.specs.declared.reply.Refusal.{Refusal}
use Rattle.repo_model.specs.declared.reply.Refusal.TheVariants as refusal
use Rattle.repo_model.specs.Refusals.{class_of, IsOfFault}
use Rattle.repo_core.specs.declared.denial.Denial.{Denial}
use Rattle.repo_core.specs.declared.denial.Denial.TheVariants as denial
use Rattle.repo_core.specs.declared.stop.Stop.{Stop}
use Rattle.repo_core.specs.declared.stop.Stop.TheVariants as stop

abbrev pub of_disk : DiskErr → Fault
of_disk disk.Failed = fault.Disk
of_disk disk.NoMemory = fault.Memory

abbrev pub of_keeper : KeepErr → Fault
of_keeper keep.Failed = fault.Keeper
of_keeper keep.NoMemory = fault.Memory

abbrev pub refusal_of_fault : Fault → Refusal
refusal_of_fault fault.Disk = refusal.DiskFault
refusal_of_fault fault.Keeper = refusal.KeeperFault
refusal_of_fault fault.Memory = refusal.NoMemory

-- how a denial is told
abbrev pub refusal_for : Denial → Refusal
refusal_for denial.NotFound = refusal.NotFound
refusal_for denial.UnknownRepo = refusal.UnknownRepo
refusal_for (denial.WriteDenied policy) = refusal.WriteDenied policy
refusal_for denial.NoWritable = refusal.NoWritable
refusal_for (denial.IdTaken id) = refusal.IdTaken id
refusal_for denial.StampsUsed = refusal.StampsUsed
refusal_for (denial.Damaged size found) = refusal.Damaged size found
refusal_for (denial.Failed what) = refusal_of_fault what

-- and how a stop is told
abbrev pub refusal_of_stop : Stop → Refusal
refusal_of_stop (stop.Denied why) = refusal_for why
refusal_of_stop (stop.Broke what) = refusal_of_fault what

-- the device that failed, of a fault, a denial, a stop, and a refusal
abbrev pub IsDisk : Fault → Type 0
IsDisk fault.Disk = Unit {0}
IsDisk fault.Keeper = ⊥
IsDisk fault.Memory = ⊥

abbrev pub IsKeeper : Fault → Type 0
IsKeeper fault.Disk = ⊥
IsKeeper fault.Keeper = Unit {0}
IsKeeper fault.Memory = ⊥

abbrev pub DeniedBy : (Fault → Type 0) → Denial → Type 0
DeniedBy Is denial.NotFound = ⊥
DeniedBy Is denial.UnknownRepo = ⊥
DeniedBy Is (denial.WriteDenied policy) = ⊥
DeniedBy Is denial.NoWritable = ⊥
DeniedBy Is (denial.IdTaken id) = ⊥
DeniedBy Is denial.StampsUsed = ⊥
DeniedBy Is (denial.Damaged size found) = ⊥
DeniedBy Is (denial.Failed what) = Is what

abbrev pub StoppedBy : (Fault → Type 0) → Stop → Type 0
StoppedBy Is (stop.Denied why) = DeniedBy Is why
StoppedBy Is (stop.Broke what) = Is what

abbrev pub RefusedBy : (Fault → Type 0) → Refusal → Type 0
RefusedBy Is why = IsOfFault Is (class_of why)
