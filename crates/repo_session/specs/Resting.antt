-- What it makes of a core that a part of a file is given back to its disk.
use Rattle.std.specs.Prelude.{◌≡◌, ◌≤◌}
use Rattle.repo_model.specs.State.{State}
use Rattle.http_front.specs.Contents.{Contents}
use Rattle.disk_model.specs.Disk.{Same}
use Rattle.repo_core.specs.Standing.{IsDurable, Tracks}
use Rattle.repo_core.specs.View.{CoreView}
use Rattle.repo_core.specs.Devices.{Devices}
use Rattle.repo_session.specs.Standing.{Stands}

-- The core is the same but for its disk and for who holds what, it stands for the same, and nothing can be seen of it in the files.
pub record Rests {D T : Type 0} (devices : Devices D T) (old new : CoreView D T) : Type 0 where
  pub same : new ≡ record old { disk = new.disk; holds = new.holds }
  pub later : devices.disk_faults old.disk ≤ devices.disk_faults new.disk
  pub durable : devices.told → IsDurable devices.tree devices.clock devices.lists old.disk → IsDurable devices.tree devices.clock devices.lists new.disk
  pub files : devices.told → Same (devices.tree old.disk) (devices.tree new.disk)
  pub tracks : devices.told → (state : State) → Tracks devices.tree devices.table old state → Tracks devices.tree devices.table new state
  pub stands : devices.told → (state : State) (contents : Contents) → Stands devices old state contents → Stands devices new state contents
