-- A session over a core.
use Rattle.std.specs.Prelude.{◌≡◌, ℕ, Bool, List, Option}
use Rattle.http_front.specs.declared.end.End.{End}
use Rattle.http_front.specs.Sessions.{EndsAs}
use Rattle.nx_base.specs.declared.moment.Moment.{Moment}
use Rattle.repo_core.specs.View.{CoreView}
use Rattle.repo_core.specs.Devices.{Devices}
use Rattle.repo_session.specs.Serving.{HasTurns, HasTurnsPast}
use Rattle.repo_session.specs.Turned.{DownloadFails}
use Rattle.nexrepo.specs.declared.run.Ran.{Ran}
use Rattle.nexrepo.specs.Ends.{status_of}

-- A session led from the core to another, whose devices and journal are left.
pub record HasServed {D T : Type 0} (devices : Devices D T) (core : CoreView D T) (moments : List Moment) (left left' : Option (List ℕ)) (ended : Bool) (taken taken' : Option (List ℕ)) (ran : Ran D T) : Type 0 where
  pub new : CoreView D T
  pub end : End
  pub over : Bool
  pub leaves : ran ≡ record { status = status_of end new.broken; disk = new.disk; table = new.table; journal = new.journal }
  pub ends : EndsAs (HasTurns devices core new over moments) (HasTurnsPast devices core moments) (DownloadFails devices core new) over end left left' ended taken taken'
