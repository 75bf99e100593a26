-- From a session over a core that was just opened to a run.
use Rattle.std.proofs.Common.{◌≡◌, ℕ, ◌+◌, ◌≤◌, Bool, true, false, List, [], ◌++◌, length, Option, None, IsSome, sym, ◌∙◌, ap, subst, arith}
use Rattle.std.specs.FinMap as map
use Rattle.sha1.specs.Sha1.{sha1}
use Rattle.nx_base.specs.Order.{key_cmp}
use Rattle.nx_base.specs.declared.asset.Asset.{Asset}
use Rattle.nx_base.specs.declared.moment.Moment.{Moment}
use Rattle.nx_io.specs.Causes.{Rose, RoseBy}
use Rattle.repo_model.specs.declared.entry.Entry.{Entry}
use Rattle.repo_model.specs.Config.{Config}
use Rattle.repo_model.specs.declared.reply.Cause.{Cause}
use Rattle.repo_model.specs.History.{LegalFrom}
use Rattle.repo_model.specs.Journal.{JournalView}
use Rattle.repo_model.specs.Plain.{config_of}
use Rattle.repo_model.specs.State.{State, empty_state}
use Rattle.repo_config.specs.Model.{model_of}
use Rattle.repo_config.specs.Settings.{Settings}
use Rattle.http_requests.specs.Requests.{Item}
use Rattle.http_front.specs.Turns.{Setting, Turn, AreTurns, entries_of}
use Rattle.http_front.proofs.SoundTurns.{sound_output}
use Rattle.http_front.proofs.Histories.{turns_legal}
use Rattle.disk_model.specs.Disk.{Tree, Lists}
use Rattle.disk_model.specs.Moments.{Settled}
use Rattle.repo_session.specs.Others.{OthersStay}
use Rattle.repo_core.specs.Agree.{FilesAgree}
use Rattle.repo_core.specs.Standing.{Tracks, IsDurable}
use Rattle.repo_core.specs.View.{CoreView}
use Rattle.repo_core.specs.Devices.{Devices}
use Rattle.repo_session.specs.Standing.{Stands}
use Rattle.repo_session.specs.Drawing.{draw_of}
use Rattle.repo_session.specs.Turned.{setting_of, disk_faults_in, keeper_faults_in, DownloadFails}
use Rattle.repo_session.specs.Serving.{all_stop_faults, HasTurns, TurnsLead}
use Rattle.nexrepo.specs.declared.run.Ran.{Ran}
use Rattle.nexrepo.specs.Opening.{IsOpened}
use Rattle.nexrepo.specs.Running.{IsFresh, StandFor, LeadOn, HasAnswered, StandsBehind, setting_with}

none_there : false ≡ true → ⊥
none_there e = cc

rose_since : (n first before now : ℕ) → first ≤ before → RoseBy n before now → RoseBy n first now
rose_since n first before now le rose = omega (arith, le, rose)

module _ {D T : Type 0} (devices : Devices D T) (moments : List Moment) (disk : D) (table : T) (core : CoreView D T) (opened : IsOpened devices disk table core) where
  -- the parts of a core that was just opened
  same_table : core.table ≡ table
  same_table = ap (λ (c : CoreView D T). c.table) opened.fresh

  same_journal : core.journal ≡ record { entries = []; room = opened.settings.journal }
  same_journal = ap (λ (c : CoreView D T). c.journal) opened.fresh

  pub not_broken : core.broken ≡ None
  not_broken = ap (λ (c : CoreView D T). c.broken) opened.fresh

  setting_is : setting_of core (draw_of moments) ≡ setting_with opened.settings moments
  setting_is = λ i. record { caller = 0; config = opened.config i; digest = sha1; draws = draw_of moments; room = (same_journal i).room }

  -- over fresh devices it stands for the repository in which nothing was stored
  stands_first : (table' : T) → IsFresh devices disk table table' → Stands devices core empty_state []
  stands_first table' fresh = record {
    tracks = opened.stands fresh.told fresh.empty fresh.rowless;
    held = λ sound key asset is. let none : map.get {R = key_cmp} map.empty key ≡ None = map.get-empty {X = Asset} key_cmp key in absurd cc;
    older = λ blob has. absurd (none_there has);
  }

  -- the opening settled nothing and unsettled nothing
  still_durable : devices.told → IsDurable devices.tree devices.clock devices.lists disk → IsDurable devices.tree devices.clock devices.lists core.disk
  still_durable told is =
      subst (λ (t : Tree). Settled t (devices.lists core.disk (devices.clock core.disk))) (sym (opened.files told))
      (subst (λ (l : Lists). Settled (devices.tree disk) l) (sym (opened.crash told)) is)

  module _ (new : CoreView D T) (over : Bool) (ran : Ran D T) (disk_is : ran.disk ≡ new.disk) (table_is : ran.table ≡ new.table) (journal_is : ran.journal ≡ new.journal) where
    stand_for : (state : State) → new.config ≡ core.config → Tracks devices.tree devices.table new state → new.broken ≡ None → StandFor devices (model_of opened.settings) new.disk new.table state
    stand_for state config tracks sound =
        let agrees = tracks.agrees sound in
        let same : config_of new.config ≡ model_of opened.settings = ap config_of config ∙ opened.config in
        record {
          agree = subst (λ (c : Config). FilesAgree c (devices.tree new.disk) state) same agrees.files;
          rows = agrees.rows_are;
        }

    lead_on : (turns : List Turn) (written : List ℕ) → new.config ≡ core.config → TurnsLead devices core new over moments 0 turns written empty_state []
        → LeadOn devices (setting_with opened.settings moments) over new.broken new.disk new.table turns written
    lead_on turns written config lead =
        let number : length core.journal.entries ≡ 0 = ap (λ (j : JournalView). length j.entries) same_journal in
        let are : AreTurns (setting_with opened.settings moments) 0 0 empty_state [] turns lead.next lead.after =
        subst (λ (s : Setting). AreTurns s 0 0 empty_state [] turns lead.next lead.after) setting_is
        (subst (λ (n : ℕ). AreTurns (setting_of core (draw_of moments)) 0 n empty_state [] turns lead.next lead.after) number lead.are) in
        record {
          state = lead.next;
          contents = lead.after;
          are = are;
          said = lead.said;
          ends = lead.ends;
          broken_is = lead.stands.tracks.broken;
          stand = λ sound. stand_for lead.next config lead.stands.tracks sound;
          output = λ sound. sound_output turns (setting_with opened.settings moments) 0 0 empty_state lead.next [] lead.after are sound;
        }

    pub answered : (requests : List Item) (written : List ℕ) → HasTurns devices core new over moments requests written → HasAnswered devices opened.settings moments over new.broken disk table ran requests written
    answered requests written (turns, asked, runs) =
        let journal : ran.journal ≡ record { entries = entries_of turns; room = opened.settings.journal } =
        journal_is ∙ runs.since.journal ∙ (λ i. record { entries = (same_journal i).entries ++ entries_of turns; room = (same_journal i).room }) in
        record {
          turns = turns;
          asked = asked;
          journal = journal;
          disk_failed = subst (λ (d : D). RoseBy (disk_faults_in (entries_of turns) + all_stop_faults turns) (devices.disk_faults disk) (devices.disk_faults d)) (sym disk_is) (rose_since _ _ _ _ opened.later runs.disk);
          keeper_failed =
              subst (λ (t : T). RoseBy (keeper_faults_in (entries_of turns)) (devices.keeper_faults table) (devices.keeper_faults t)) (sym table_is)
              (subst (λ (t : T). RoseBy (keeper_faults_in (entries_of turns)) (devices.keeper_faults t) (devices.keeper_faults new.table)) same_table runs.keeper);
          leads = λ fresh.
              let tells : IsSome (devices.table new.table) = subst (λ (t : T). IsSome (devices.table t)) table_is fresh.tells in
              let lead = lead_on turns written runs.since.config (runs.leads fresh.told tells empty_state [] (stands_first ran.table fresh)) in
              subst (λ (d : D). LeadOn devices (setting_with opened.settings moments) over new.broken d ran.table turns written) (sym disk_is)
              (subst (λ (t : T). LeadOn devices (setting_with opened.settings moments) over new.broken new.disk t turns written) (sym table_is) lead);
          durable = λ told sound is. subst (λ (d : D). IsDurable devices.tree devices.clock devices.lists d) (sym disk_is) (runs.since.durable told sound (still_durable told is));
          others = λ fresh.
              let tells : IsSome (devices.table new.table) = subst (λ (t : T). IsSome (devices.table t)) table_is fresh.tells in
              let stay = (runs.since.others fresh.told tells empty_state (stands_first ran.table fresh).tracks).2 in
              subst (λ (d : D). OthersStay (devices.tree disk) (devices.tree d)) (sym disk_is)
              (subst (λ (t : Tree). OthersStay t (devices.tree new.disk)) (opened.files fresh.told) stay);
        }

    -- a download failed only where the disk's count rose
    pub download_failed : DownloadFails devices core new → IsFresh devices disk table ran.table → Rose (devices.disk_faults disk) (devices.disk_faults ran.disk)
    download_failed fails fresh =
        let tells : IsSome (devices.table new.table) = subst (λ (t : T). IsSome (devices.table t)) table_is fresh.tells in
        let rose : Rose (devices.disk_faults core.disk) (devices.disk_faults new.disk) = (fails fresh.told tells).1 empty_state [] (stands_first ran.table fresh) in
        subst (λ (d : D). Rose (devices.disk_faults disk) (devices.disk_faults d)) (sym disk_is) (rose_since 1 _ _ _ opened.later rose)

-- what stands behind a run in which requests were answered
pub stands_behind : {D T : Type 0} (devices : Devices D T) (settings : Settings) (moments : List Moment) (over : Bool) (broken : Option Cause) (disk : D) (table : T) (ran : Ran D T) (requests : List Item) (written : List ℕ)
    → HasAnswered devices settings moments over broken disk table ran requests written → IsFresh devices disk table ran.table → StandsBehind devices (model_of settings) ran.journal.entries ran.disk ran.table
stands_behind devices settings moments over broken disk table ran requests written said fresh =
    let lead = said.leads fresh in
    record {
      state = lead.state;
      legal = subst (λ (es : List Entry). LegalFrom (model_of settings) 0 empty_state es lead.state) (sym (ap (λ (j : JournalView). j.entries) said.journal))
          (turns_legal said.turns (setting_with settings moments) 0 0 empty_state lead.state [] lead.contents lead.are);
      stand = λ sound. lead.stand (sym lead.broken_is ∙ sound);
    }
