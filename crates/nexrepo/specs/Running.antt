-- What a run of the program makes of its devices.
use Rattle.std.specs.Prelude.{◌≡◌, ℕ, ◌+◌, Bool, List, [], Option, None, IsSome}
use Rattle.std.specs.FinMap as map
use Rattle.sha1.specs.Sha1.{sha1}
use Rattle.nx_io.specs.Causes.{Rose, RoseBy}
use Rattle.nx_base.specs.declared.moment.Moment.{Moment}
use Rattle.repo_model.specs.declared.entry.Entry.{Entry}
use Rattle.repo_model.specs.declared.reply.Cause.{Cause}
use Rattle.repo_model.specs.Config.{Config}
use Rattle.repo_model.specs.History.{Legal}
use Rattle.repo_model.specs.State.{State, empty_state}
use Rattle.repo_config.specs.Model.{model_of}
use Rattle.repo_config.specs.Settings.{Settings}
use Rattle.http_requests.specs.Requests.{Item}
use Rattle.http_front.specs.declared.end.End.{End}
use Rattle.http_front.specs.Contents.{Contents}
use Rattle.http_front.specs.Output.{output_of}
use Rattle.http_front.specs.Sessions.{EndsAs}
use Rattle.http_front.specs.Sound.{AreSound}
use Rattle.http_front.specs.TurnLaws.{IsOutput}
use Rattle.http_front.specs.Turns.{Setting, Turn, AreTurns, entries_of, requests_of, turns_said}
use Rattle.repo_core.specs.Fresh.{HasNoBlob}
use Rattle.repo_core.specs.Agree.{FilesAgree}
use Rattle.repo_core.specs.Rows.{rows_in}
use Rattle.repo_core.specs.Devices.{Devices}
use Rattle.repo_core.specs.Standing.{IsDurable}
use Rattle.repo_session.specs.Others.{OthersStay}
use Rattle.repo_session.specs.Drawing.{draw_of}
use Rattle.repo_session.specs.Turned.{disk_faults_in, keeper_faults_in}
use Rattle.repo_session.specs.Serving.{LastEnds, all_stop_faults}
use Rattle.nexrepo.specs.declared.run.Ran.{Ran}
use Rattle.nexrepo.specs.Commands.{IsStdio}
use Rattle.nexrepo.specs.Configs.{FileGives}
use Rattle.nexrepo.specs.Ends.{IsEarly, status_of}
use Rattle.nexrepo.specs.Statuses.{config_file}

-- the words are those of no command
abbrev pub AreNone : List (List ℕ) → Type 0
AreNone words = (folder : List ℕ) → ¬ (IsStdio words folder)

-- under what the session of a run is held: contents are digested by SHA-1, and the moments are drawn one for each request
abbrev pub setting_with : Settings → List Moment → Setting
setting_with settings moments =
    record { caller = 0; config = model_of settings; digest = sha1; draws = draw_of moments; room = settings.journal }

-- Nothing was stored yet: the disk tells its files, of which none is a blob's, and the keeper its table, which has no rows. It tells it to
-- the end.
pub record IsFresh {D T : Type 0} (devices : Devices D T) (disk : D) (table table' : T) : Type 0 where
  pub told : devices.told
  pub tells : IsSome (devices.table table')
  pub empty : HasNoBlob (devices.tree disk)
  pub rowless : rows_in (devices.table table) ≡ map.empty

-- The files are what the state says: its rows and the live blobs name each other, its trash has just the marked blobs. The table has these rows.
pub record StandFor {D T : Type 0} (devices : Devices D T) (config : Config) (disk : D) (table : T) (state : State) : Type 0 where
  pub agree : FilesAgree config (devices.tree disk) state
  pub rows : rows_in (devices.table table) ≡ state.rows

-- From the repository in which nothing was stored the turns lead on, and what is said in them is what was written. The session ends behind
-- the last one, or not. Unless the repository broke, the devices stand for the state at the end. Where nothing failed in a turn, all this is
-- the output of the one-thread repository.
pub record LeadOn {D T : Type 0} (devices : Devices D T) (setting : Setting) (over : Bool) (broken : Option Cause) (disk : D) (table : T) (turns : List Turn) (written : List ℕ) : Type 0 where
  pub state : State
  pub contents : Contents
  pub are : AreTurns setting 0 0 empty_state [] turns state contents
  pub said : written ≡ turns_said [] turns
  pub ends : LastEnds over [] turns
  pub broken_is : state.broken ≡ broken
  pub stand : broken ≡ None → StandFor devices setting.config disk table state
  pub output : AreSound turns → IsOutput (output_of setting 0 0 empty_state [] (requests_of turns)) [] turns state contents

-- The requests were answered with these bytes by turns of the repository: their entries are the journal, and the disk and the keeper failed
-- at least as often as they tell. Over fresh devices they lead on from the repository in which nothing was stored, and the files that are no
-- blob's stay. A disk on which everything is settled is settled again, unless the repository broke.
pub record HasAnswered {D T : Type 0} (devices : Devices D T) (settings : Settings) (moments : List Moment) (over : Bool) (broken : Option Cause) (disk : D) (table : T) (ran : Ran D T) (requests : List Item) (written : List ℕ) : Type 0 where
  pub turns : List Turn
  pub asked : requests_of turns ≡ requests
  pub journal : ran.journal ≡ record { entries = entries_of turns; room = settings.journal }
  pub disk_failed : RoseBy (disk_faults_in (entries_of turns) + all_stop_faults turns) (devices.disk_faults disk) (devices.disk_faults ran.disk)
  pub keeper_failed : RoseBy (keeper_faults_in (entries_of turns)) (devices.keeper_faults table) (devices.keeper_faults ran.table)
  pub leads : IsFresh devices disk table ran.table → LeadOn devices (setting_with settings moments) over broken ran.disk ran.table turns written
  pub durable : devices.told → broken ≡ None → IsDurable devices.tree devices.clock devices.lists disk → IsDurable devices.tree devices.clock devices.lists ran.disk
  pub others : IsFresh devices disk table ran.table → OthersStay (devices.tree disk) (devices.tree ran.disk)

-- A session was held with the settings that the configuration's file gives, and ended so. A download failed, over fresh devices, only where
-- the disk's count rose.
pub record HoldsSession {D T : Type 0} (devices : Devices D T) (moments : List Moment) (disk : D) (table : T) (left left' : Option (List ℕ)) (ended : Bool) (taken taken' : Option (List ℕ)) (ran : Ran D T) : Type 0 where
  pub settings : Settings
  pub given : devices.told → FileGives (devices.tree disk config_file) settings
  pub end : End
  pub over : Bool
  pub broken : Option Cause
  pub status : ran.status ≡ status_of end broken
  pub ends : EndsAs (HasAnswered devices settings moments over broken disk table ran) (λ requests written count. Unit {0})
      (IsFresh devices disk table ran.table → Rose (devices.disk_faults disk) (devices.disk_faults ran.disk)) over end left left' ended taken taken'

-- No session was held: nothing was read or written, no file and no row changed, and no call was made.
pub record EndsEarly {D T S K : Type 0} (devices : Devices D T) (disk : D) (table : T) (input input' : S) (output output' : K) (ran : Ran D T) : Type 0 where
  pub status : IsEarly ran.status
  pub unread : input' ≡ input
  pub unwritten : output' ≡ output
  pub files : devices.told → devices.tree ran.disk ≡ devices.tree disk
  pub rows : ran.table ≡ table
  pub journal : ran.journal ≡ record { entries = []; room = 0 }

-- The entries are a history of the one-thread repository from its beginning on, and unless they broke it the devices stand for the state
-- behind them.
pub record StandsBehind {D T : Type 0} (devices : Devices D T) (config : Config) (entries : List Entry) (disk : D) (table : T) : Type 0 where
  pub state : State
  pub legal : Legal config empty_state entries state
  pub stand : state.broken ≡ None → StandFor devices config disk table state
