-- What a session makes of a core.
use Rattle.std.specs.Prelude.{◌≡◌, ℕ, ◌+◌, ◌≤◌, Bool, false, List, [], ◌∷◌, ◌++◌, length, sum_by, IsSome}
use Rattle.nx_io.specs.Causes.{RoseBy}
use Rattle.nx_base.specs.declared.moment.Moment.{Moment}
use Rattle.repo_model.specs.State.{State}
use Rattle.http_requests.specs.Requests.{Item}
use Rattle.http_front.specs.Contents.{Contents}
use Rattle.http_front.specs.Turns.{Turn, AreTurns, contents_after, turn_answer, requests_of, entries_of, turns_said}
use Rattle.repo_core.specs.View.{CoreView}
use Rattle.repo_core.specs.Devices.{Devices}
use Rattle.repo_session.specs.Standing.{Stands}
use Rattle.repo_session.specs.Called.{Since}
use Rattle.repo_session.specs.Drawing.{draw_of}
use Rattle.repo_session.specs.Turned.{setting_of, disk_faults_in, keeper_faults_in, stop_faults}

-- how many of the turns were stopped by a fault of the disk
abbrev pub all_stop_faults : List Turn → ℕ
all_stop_faults turns = sum_by (λ turn. stop_faults turn.stop) turns

-- the session ends behind the last of the turns, or not
abbrev pub LastEnds : Bool → Contents → List Turn → Type 0
LastEnds over contents [] = Unit {0}
LastEnds over contents (turn ∷ []) = (turn_answer contents turn).ends ≡ over
LastEnds over contents (turn ∷ next ∷ turns) = LastEnds over (contents_after turn contents) (next ∷ turns)

-- By the moments from the n-th on the turns lead from the state and the contents to those that the new core stands for. Those bytes are
-- what is said in them.
pub record TurnsLead {D T : Type 0} (devices : Devices D T) (old new : CoreView D T) (over : Bool) (moments : List Moment) (n : ℕ) (turns : List Turn) (written : List ℕ) (state : State) (contents : Contents) : Type 0 where
  pub next : State
  pub after : Contents
  pub are : AreTurns (setting_of old (draw_of moments)) n (length old.journal.entries) state contents turns next after
  pub stands : Stands devices new next after
  pub said : written ≡ turns_said contents turns
  pub ends : LastEnds over contents turns

-- From one core to another the turns were made one after another: their entries joined the journal, and the devices' counts rose by as
-- many faults as they and their stops tell of. Told, they lead on from each state and contents that the old core stands for.
pub record RunsFrom {D T : Type 0} (devices : Devices D T) (old new : CoreView D T) (over : Bool) (moments : List Moment) (n : ℕ) (turns : List Turn) (written : List ℕ) : Type 0 where
  pub since : Since devices old new (entries_of turns)
  pub disk : RoseBy (disk_faults_in (entries_of turns) + all_stop_faults turns) (devices.disk_faults old.disk) (devices.disk_faults new.disk)
  pub keeper : RoseBy (keeper_faults_in (entries_of turns)) (devices.keeper_faults old.table) (devices.keeper_faults new.table)
  pub leads : devices.told → IsSome (devices.table new.table) → (state : State) (contents : Contents) → Stands devices old state contents
      → TurnsLead devices old new over moments n turns written state contents

-- those requests were answered with those bytes, by turns
abbrev pub HasTurnsFrom : {D T : Type 0} → Devices D T → CoreView D T → CoreView D T → Bool → List Moment → ℕ → List Item → List ℕ → Type 0
HasTurnsFrom devices old new over moments n requests written =
    (turns : List Turn) × (requests_of turns ≡ requests) × RunsFrom devices old new over moments n turns written

-- by the moments from the first on; and behind the last answer the session is over, or not
abbrev pub HasTurns : {D T : Type 0} → Devices D T → CoreView D T → CoreView D T → Bool → List Moment → List Item → List ℕ → Type 0
HasTurns devices old new over moments requests written = HasTurnsFrom devices old new over moments 0 requests written

-- So many bytes hold all the answers but the last, which were made by turns that didn't end the session.
pub record HasTurnsPast {D T : Type 0} (devices : Devices D T) (old : CoreView D T) (moments : List Moment) (requests : List Item) (written : List ℕ) (count : ℕ) : Type 0 where
  pub prefix : List Item
  pub last : Item
  pub before : List ℕ
  pub answer : List ℕ
  pub mid : CoreView D T
  pub requests_are : requests ≡ prefix ++ last ∷ []
  pub parts : written ≡ before ++ answer
  pub made : HasTurns devices old mid false moments prefix before
  pub past : length before ≤ count
