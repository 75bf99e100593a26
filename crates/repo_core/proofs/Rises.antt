-- Counts of faults over several calls.
use Rattle.std.proofs.Common.{◌≡◌, ◌≤◌, ℕ, Err, sym, subst, arith}
use Rattle.nx_io.specs.Causes.{Rose, HasCauseWhere}
use Rattle.disk_model.specs.Disk.{IsFault}
use Rattle.disk_model.specs.declared.disk_err.DiskErr.{DiskErr}
use Rattle.disk_model.specs.declared.disk_err.DiskErr.TheVariants as disk
use Rattle.repo_model.specs.declared.reply.Fault.{Fault}
use Rattle.repo_core.specs.declared.stop.Stop.TheVariants as stop
use Rattle.repo_core.specs.Faults.{of_disk, IsDisk, IsKeeper, StoppedBy}

rose_before : (before mid now : ℕ) → before ≤ mid → Rose mid now → Rose before now
rose_before before mid now le rose = grind (arith, le, rose)

-- the disk stopped the work after other calls
pub stopped_by_disk : {T : Type 0} (before mid now : ℕ) (refusal : DiskErr) (what : Fault) → what ≡ of_disk refusal → before ≤ mid → HasCauseWhere {T = Unit {0}} IsFault mid now (Err refusal)
    → HasCauseWhere {T = T} (StoppedBy IsDisk) before now (Err (stop.Broke what))
stopped_by_disk {T} before mid now refusal what is le cause =
    subst (λ (w : Fault). HasCauseWhere {T = T} (StoppedBy IsDisk) before now (Err (stop.Broke w))) (sym is)
    (record { later = omega (arith, le, cause.later); failed = failed refusal cause.failed })
  where
    failed : (e : DiskErr) → (IsFault e → Rose mid now) → StoppedBy IsDisk (stop.Broke (of_disk e)) → Rose before now
    failed disk.Failed f is_disk = rose_before before mid now le (f is_disk)
    failed disk.NoMemory f is_disk = absurd is_disk

-- and no keeper did
pub not_by_keeper : {T : Type 0} (before now : ℕ) (refusal : DiskErr) (what : Fault) → what ≡ of_disk refusal → before ≤ now
    → HasCauseWhere {T = T} (StoppedBy IsKeeper) before now (Err (stop.Broke what))
not_by_keeper {T} before now refusal what is le =
    subst (λ (w : Fault). HasCauseWhere {T = T} (StoppedBy IsKeeper) before now (Err (stop.Broke w))) (sym is)
    (record { later = le; failed = failed refusal })
  where
    failed : (e : DiskErr) → StoppedBy IsKeeper (stop.Broke (of_disk e)) → Rose before now
    failed disk.Failed never = absurd never
    failed disk.NoMemory never = absurd never
