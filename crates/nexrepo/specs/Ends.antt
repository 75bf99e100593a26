-- The statuses of ends.
use Rattle.std.specs.Prelude.{ℕ, Option, Some, None}
use Rattle.nx_io.specs.Causes.{Rose}
use Rattle.repo_model.specs.declared.reply.Fault.{Fault}
use Rattle.repo_model.specs.declared.reply.Fault.TheVariants as fault
use Rattle.repo_model.specs.declared.reply.Cause.{Cause}
use Rattle.http_front.specs.declared.end.End.{End}
use Rattle.http_front.specs.declared.end.End.TheVariants as ends
use Rattle.nexrepo.specs.declared.status.Status.{Status}
use Rattle.nexrepo.specs.declared.status.Status.TheVariants as status

-- of a repository that is broken
abbrev pub fault_status : Fault → Status
fault_status fault.Disk = status.DiskFault
fault_status fault.Keeper = status.KeeperFault
fault_status fault.Memory = status.NoMemory

-- of a session in good order, over a repository that was broken by this cause or by none
abbrev pub ordinary_status : Option Cause → Status
ordinary_status None = status.Ok
ordinary_status (Some cause) = fault_status cause.fault

-- of a session's end
abbrev pub status_of : End → Option Cause → Status
status_of ends.Clean broken = ordinary_status broken
status_of ends.Closed broken = ordinary_status broken
status_of ends.Cut broken = status.Cut
status_of ends.ReadFault broken = status.ReadFault
status_of ends.WriteFault broken = status.WriteFault
status_of ends.DownloadFault broken = status.DownloadFault
status_of ends.InputTooLong broken = status.InputTooLong
status_of ends.NoMemory broken = status.NoMemory

-- a status of a run that ends before its session
abbrev pub IsEarly : Status → Type 0
IsEarly status.Ok = ⊥
IsEarly status.Usage = Unit {0}
IsEarly (status.BadConfig key) = Unit {0}
IsEarly status.ReadFault = ⊥
IsEarly status.WriteFault = ⊥
IsEarly status.InputTooLong = ⊥
IsEarly status.DiskFault = Unit {0}
IsEarly status.KeeperFault = ⊥
IsEarly status.Cut = ⊥
IsEarly status.DownloadFault = ⊥
IsEarly status.NoMemory = Unit {0}

-- how often the source, the sink, the disk and the keeper failed
pub record Counts : Type 0 where
  pub reads : ℕ
  pub writes : ℕ
  pub disk : ℕ
  pub keeper : ℕ

-- a fault of a device only where its count rose. That a download failed, a disk that doesn't tell its files may say without.
abbrev pub HasStatusCause : Counts → Counts → Status → Type 0
HasStatusCause old new status.Ok = Unit {0}
HasStatusCause old new status.Usage = Unit {0}
HasStatusCause old new (status.BadConfig key) = Unit {0}
HasStatusCause old new status.ReadFault = Rose old.reads new.reads
HasStatusCause old new status.WriteFault = Rose old.writes new.writes
HasStatusCause old new status.InputTooLong = Unit {0}
HasStatusCause old new status.DiskFault = Rose old.disk new.disk
HasStatusCause old new status.KeeperFault = Rose old.keeper new.keeper
HasStatusCause old new status.Cut = Unit {0}
HasStatusCause old new status.DownloadFault = Unit {0}
HasStatusCause old new status.NoMemory = Unit {0}
