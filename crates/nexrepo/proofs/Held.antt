-- A session of a run, and what stands behind it.
use Rattle.std.proofs.Common.{◌≡◌, ℕ, Bool, List, [], Option, Some, None, refl, sym, ◌∙◌, ap, subst}
use Rattle.nx_io.specs.Causes.{Rose}
use Rattle.nx_base.specs.declared.moment.Moment.{Moment}
use Rattle.repo_model.specs.State.{empty_state}
use Rattle.repo_config.specs.Model.{model_of}
use Rattle.repo_config.specs.Settings.{Settings}
use Rattle.disk_model.specs.Disk.{Tree}
use Rattle.http_front.proofs.EndsMap.{ends_map}
use Rattle.repo_core.specs.Agree.{FilesAgree}
use Rattle.repo_core.specs.Rows.{rows_in}
use Rattle.repo_core.specs.View.{CoreView}
use Rattle.repo_core.proofs.Beginnings.{empty_files}
use Rattle.repo_core.specs.Devices.{Devices}
use Rattle.repo_session.specs.Serving.{HasTurns, HasTurnsPast}
use Rattle.repo_session.specs.Turned.{DownloadFails}
use Rattle.nexrepo.specs.declared.run.Ran.{Ran}
use Rattle.nexrepo.specs.Configs.{FileGives}
use Rattle.nexrepo.specs.Opening.{IsOpened}
use Rattle.nexrepo.specs.Running.{IsFresh, HasAnswered, HoldsSession, StandsBehind}
use Rattle.nexrepo.specs.Sessions.{HasServed}
use Rattle.nexrepo.specs.Statuses.{config_file}
use Rattle.nexrepo.proofs.SomeMade.{some_made}
use Rattle.nexrepo.proofs.Answered.{answered, download_failed, stands_behind}

module _ {D T : Type 0} (devices : Devices D T) (moments : List Moment) (disk : D) (table : T) (left left' : Option (List ℕ)) (ended : Bool) (taken taken' : Option (List ℕ)) (ran : Ran D T) where
  -- a session over a core that was just opened is one of a run
  pub holds_session : (core : CoreView D T) → IsOpened devices disk table core → HasServed devices core moments left left' ended taken taken' ran → HoldsSession devices moments disk table left left' ended taken taken' ran
  holds_session core opened served =
      let disk_is : ran.disk ≡ served.new.disk = ap (λ (r : Ran D T). r.disk) served.leaves in
      let table_is : ran.table ≡ served.new.table = ap (λ (r : Ran D T). r.table) served.leaves in
      let journal_is : ran.journal ≡ served.new.journal = ap (λ (r : Ran D T). r.journal) served.leaves in
      record {
        settings = opened.settings;
        given = opened.given;
        end = served.end;
        over = served.over;
        broken = served.new.broken;
        status = ap (λ (r : Ran D T). r.status) served.leaves;
        ends = ends_map (HasTurns devices core served.new served.over moments) (HasAnswered devices opened.settings moments served.over served.new.broken disk table ran)
            (HasTurnsPast devices core moments) (λ requests written count. Unit {0})
            (DownloadFails devices core served.new) (IsFresh devices disk table ran.table → Rose (devices.disk_faults disk) (devices.disk_faults ran.disk))
            served.over served.end left left' taken taken' ended
            (answered devices moments disk table core opened served.new served.over ran disk_is table_is journal_is)
            (λ requests written count past. tt)
            (download_failed devices moments disk table core opened served.new served.over ran disk_is table_is journal_is)
            served.ends;
      }

  one_settings : (file : Option (List ℕ)) (a b : Settings) → FileGives file a → FileGives file b → a ≡ b
  one_settings None a b f g = absurd f
  one_settings (Some text) a b f g = cc

  -- what stands behind it
  pub session_stands : HoldsSession devices moments disk table left left' ended taken taken' ran → (settings : Settings) → FileGives (devices.tree disk config_file) settings → IsFresh devices disk table ran.table
      → StandsBehind devices (model_of settings) ran.journal.entries ran.disk ran.table
  session_stands held settings given fresh =
      let some = some_made (HasAnswered devices held.settings moments held.over held.broken disk table ran) (λ requests written count. Unit {0})
      (IsFresh devices disk table ran.table → Rose (devices.disk_faults disk) (devices.disk_faults ran.disk)) held.over held.end left left' taken taken' ended held.ends in
      let behind = stands_behind devices held.settings moments held.over held.broken disk table ran some.0 some.1 some.2 fresh in
      subst (λ (s : Settings). StandsBehind devices (model_of s) ran.journal.entries ran.disk ran.table)
      (one_settings (devices.tree disk config_file) held.settings settings (held.given fresh.told) given) behind

-- where nothing was done
pub nothing_stands : {D T : Type 0} (devices : Devices D T) (disk left : D) (table rows : T) → (devices.told → devices.tree left ≡ devices.tree disk) → rows ≡ table
    → (settings : Settings) → IsFresh devices disk table rows → StandsBehind devices (model_of settings) [] left rows
nothing_stands {D} {T} devices disk left table rows files same settings fresh =
    let empty : FilesAgree (model_of settings) (devices.tree disk) empty_state = empty_files (model_of settings) (devices.tree disk) fresh.empty in
    record {
      state = empty_state;
      legal = refl;
      stand = λ sound. record {
        agree = subst (λ (t : Tree). FilesAgree (model_of settings) t empty_state) (sym (files fresh.told)) empty;
        rows = ap (λ (t : T). rows_in (devices.table t)) same ∙ fresh.rowless;
      };
    }
