-- What one request makes of a core.
use Rattle.std.specs.Prelude.{◌≡◌, ℕ, ◌+◌, Bool, false, List, [], length, count_by, Option, Some, None, IsSome}
use Rattle.sha1.specs.Sha1.{sha1}
use Rattle.nx_io.specs.Causes.{Rose, RoseBy}
use Rattle.nx_base.specs.declared.moment.Moment.{Moment}
use Rattle.repo_model.specs.declared.entry.Entry.{Entry}
use Rattle.repo_model.specs.declared.reply.Reply.{Reply}
use Rattle.repo_model.specs.declared.reply.Refusal.{Refusal}
use Rattle.repo_model.specs.State.{State}
use Rattle.repo_model.specs.Plain.{config_of}
use Rattle.repo_model.specs.Refusals.{class_of, is_of_fault, is_disk, is_keeper, on_refused}
use Rattle.http_requests.specs.Requests.{Item}
use Rattle.http_front.specs.declared.stop.Stop.{Stop}
use Rattle.http_front.specs.declared.stop.Stop.TheVariants as stops
use Rattle.http_front.specs.Answers.{Answer, last_reply}
use Rattle.http_front.specs.Contents.{Contents}
use Rattle.http_front.specs.Served.{Serves}
use Rattle.http_front.specs.Turns.{Setting, Turn, Makes, MayStop, contents_after, turn_answer}
use Rattle.repo_core.specs.View.{CoreView}
use Rattle.repo_core.specs.Devices.{Devices}
use Rattle.repo_session.specs.Standing.{Stands}
use Rattle.repo_session.specs.Called.{Since}

-- under what a session over the core runs
abbrev pub setting_of : {D T : Type 0} → CoreView D T → (ℕ → Moment) → Setting
setting_of core draws = record { caller = 0; config = config_of core.config; digest = sha1; draws = draws; room = core.journal.room }

-- whether a refusal says that the disk failed, or the keeper
abbrev pub says_disk : Refusal → Bool
says_disk why = is_of_fault is_disk (class_of why)

abbrev pub says_keeper : Refusal → Bool
says_keeper why = is_of_fault is_keeper (class_of why)

-- whether the reply is a refusal that does
abbrev pub refuses_by : (Refusal → Bool) → Reply → Bool
refuses_by says = on_refused false says

-- how many of the entries say that the disk failed, or the keeper
abbrev pub disk_faults_in : List Entry → ℕ
disk_faults_in entries = count_by (λ e. refuses_by says_disk e.reply) entries

abbrev pub keeper_faults_in : List Entry → ℕ
keeper_faults_in entries = count_by (λ e. refuses_by says_keeper e.reply) entries

-- one, where the stop says that the disk failed
abbrev pub stop_faults : Option Stop → ℕ
stop_faults None = 0
stop_faults (Some stops.DiskFault) = 1
stop_faults (Some stops.NoMemory) = 0

-- the turn leads from the state and the contents to those that the new core stands for
pub record TurnLeads {D T : Type 0} (devices : Devices D T) (old new : CoreView D T) (moment : Moment) (turn : Turn) (draws : ℕ → Moment) (state : State) (contents : Contents) : Type 0 where
  pub next : State
  pub makes : Makes (setting_of old draws) moment turn.request turn.stop [] (length old.journal.entries) state turn.entries next
  pub served : Serves (contents_after turn contents) (last_reply turn.entries)
  pub stands : Stands devices new next (contents_after turn contents)

-- From one core to another the turn was made: its entries joined the journal, it was stopped only where it could be, and the devices'
-- counts rose by as many faults as the entries and the stop tell of. Told, it leads on from each state and contents that the old core stands for.
pub record TurnMade {D T : Type 0} (devices : Devices D T) (old new : CoreView D T) (moment : Moment) (turn : Turn) : Type 0 where
  pub since : Since devices old new turn.entries
  pub stops : MayStop turn.request turn.stop turn.entries
  pub disk : RoseBy (disk_faults_in turn.entries + stop_faults turn.stop) (devices.disk_faults old.disk) (devices.disk_faults new.disk)
  pub keeper : RoseBy (keeper_faults_in turn.entries) (devices.keeper_faults old.table) (devices.keeper_faults new.table)
  pub leads : devices.told → IsSome (devices.table new.table) → (draws : ℕ → Moment) (state : State) (contents : Contents) → Stands devices old state contents
      → TurnLeads devices old new moment turn draws state contents

-- those bytes, and the session's end behind them or not, are the answer
pub record IsAnswer (answer : Answer) (bytes : List ℕ) (ends : Bool) : Type 0 where
  pub bytes_are : bytes ≡ answer.bytes
  pub ends_are : ends ≡ answer.ends

-- A turn of the request was made, and told, those bytes are its answer.
pub record Turned {D T : Type 0} (devices : Devices D T) (old new : CoreView D T) (moment : Moment) (request : Item) (bytes : List ℕ) (ends : Bool) : Type 0 where
  pub stop : Option Stop
  pub entries : List Entry
  pub made : TurnMade devices old new moment (record { request = request; stop = stop; entries = entries })
  pub says : devices.told → IsSome (devices.table new.table) → (state : State) (contents : Contents) → Stands devices old state contents
      → IsAnswer (turn_answer contents (record { request = request; stop = stop; entries = entries })) bytes ends

-- A download failed: told, only where the disk's count rose. A table that is told was told before.
abbrev pub DownloadFails : {D T : Type 0} → Devices D T → CoreView D T → CoreView D T → Type 0
DownloadFails devices old new =
    devices.told → IsSome (devices.table new.table)
    → IsSome (devices.table old.table)
    × ((state : State) (contents : Contents) → Stands devices old state contents → Rose (devices.disk_faults old.disk) (devices.disk_faults new.disk))
