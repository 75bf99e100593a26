-- What it makes of a core that a writer or a reader is given back to its disk.
use Rattle.std.specs.Prelude.{◌≡◌, ℕ}
use Rattle.disk_model.specs.Disk.{TakesBack}
use Rattle.repo_model.specs.State.{State}
use Rattle.repo_core.specs.Devices.{Devices}
use Rattle.repo_core.specs.Parts.{IsQuiet}
use Rattle.repo_core.specs.Standing.{Tracks, IsDurable}
use Rattle.repo_core.specs.View.{CoreView}

-- It can't be refused, and makes no entry. `faults` are those of the part, which the disk counts from then on.
pub record GaveBack {D T : Type 0} (on : Devices D T) (old new : CoreView D T) (faults : ℕ) : Type 0 where
  -- Disk and holds apart, everything stays.
  pub rest : new ≡ record old { disk = new.disk; holds = new.holds }
  -- Nothing can be seen of it in the files.
  pub quiet : IsQuiet on old.disk new.disk
  pub durable : on.told → IsDurable on.tree on.clock on.lists old.disk → IsDurable on.tree on.clock on.lists new.disk
  pub cause : TakesBack (on.disk_faults old.disk) (on.disk_faults new.disk) faults
  pub look : on.last_look new.disk ≡ on.last_look old.disk
  -- The core stands for each state for which it stood.
  pub stands : on.told → (s : State) → Tracks on.tree on.table old s → Tracks on.tree on.table new s
