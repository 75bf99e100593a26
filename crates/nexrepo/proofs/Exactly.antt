-- A run in which nothing failed says exactly what the one-thread repository does.
use Rattle.std.proofs.Common.{◌≡◌, ◌≢◌, ◌⊎◌, inl, inr, ℕ, zero, suc, ◌+◌, ◌-◌, ◌^◌, ◌≤◌, min, Bool, List, [], Option, Some, None, refl, sym, ◌∙◌, ap, subst, arith}
use Rattle.nx_io.specs.Causes.{Rose, RoseBy}
use Rattle.nx_base.specs.declared.moment.Moment.{Moment}
use Rattle.repo_model.specs.declared.entry.Entry.{Entry}
use Rattle.repo_model.specs.declared.reply.Cause.{Cause}
use Rattle.repo_model.specs.Journal.{JournalView}
use Rattle.repo_model.specs.State.{empty_state}
use Rattle.repo_config.specs.Settings.{Settings}
use Rattle.http_requests.specs.Requests.{Item}
use Rattle.http_front.specs.declared.end.End.{End}
use Rattle.http_front.specs.declared.end.End.TheVariants as ends
use Rattle.http_front.specs.Output.{output_of}
use Rattle.http_front.specs.Sessions.{EndsAs}
use Rattle.http_front.specs.Sound.{AreSound, NoneWanted}
use Rattle.http_front.specs.TurnLaws.{IsOutput}
use Rattle.http_front.specs.Turns.{entries_of, requests_of}
use Rattle.http_front.proofs.EndsMap.{ends_map}
use Rattle.repo_core.specs.Devices.{Devices}
use Rattle.repo_session.specs.Turned.{disk_faults_in, keeper_faults_in}
use Rattle.repo_session.specs.Serving.{all_stop_faults}
use Rattle.nexrepo.specs.declared.run.Ran.{Ran}
use Rattle.nexrepo.specs.declared.status.Status.{Status}
use Rattle.nexrepo.specs.declared.status.Status.TheVariants as status
use Rattle.nexrepo.specs.Ends.{Counts, HasStatusCause, IsEarly, status_of}
use Rattle.nexrepo.specs.Exact.{NoneRose, IsHeldStatus, IsExact, IsWholeEnd, HeldExactly}
use Rattle.nexrepo.specs.Running.{IsFresh, HasAnswered, HoldsSession, EndsEarly, setting_with}
use Rattle.nexrepo.proofs.Unfailed.{turns_sound}

-- a count that didn't rise rose by none
none_rose : (n before now : ℕ) → RoseBy n before now → (Rose before now → ⊥) → n ≡ 0
none_rose zero before now rose not = refl
none_rose (suc n) before now rose not = absurd (not (omega (arith, rose)))

module _ {D T : Type 0} (devices : Devices D T) (moments : List Moment) (disk : D) (table : T) (left left' : Option (List ℕ)) (ended : Bool) (taken taken' : Option (List ℕ)) (ran : Ran D T) (reads reads' writes writes' : ℕ) where
  abbrev before : Counts
  before = record { reads = reads; writes = writes; disk = devices.disk_faults disk; keeper = devices.keeper_faults table }

  abbrev after : Counts
  after = record { reads = reads'; writes = writes'; disk = devices.disk_faults ran.disk; keeper = devices.keeper_faults ran.table }

  -- what was answered was answered exactly
  answered_so : (settings : Settings) (over : Bool) (broken : Option Cause) → IsFresh devices disk table ran.table → NoneRose before after
      → (requests : List Item) (written : List ℕ) → HasAnswered devices settings moments over broken disk table ran requests written → IsExact settings moments ran requests written
  answered_so settings over broken fresh none requests written answered =
      let lead = answered.leads fresh in
      let no_disk = none_rose (disk_faults_in (entries_of answered.turns) + all_stop_faults answered.turns) _ _ answered.disk_failed none.disk in
      let no_keeper = none_rose (keeper_faults_in (entries_of answered.turns)) _ _ answered.keeper_failed none.keeper in
      let output : NoneWanted answered.turns → IsOutput (output_of (setting_with settings moments) 0 0 empty_state [] requests) [] answered.turns lead.state lead.contents =
      λ wanted. subst (λ (rs : List Item). IsOutput (output_of (setting_with settings moments) 0 0 empty_state [] rs) [] answered.turns lead.state lead.contents) answered.asked
      (lead.output (turns_sound answered.turns (setting_with settings moments) 0 0 empty_state lead.state [] lead.contents lead.are no_disk no_keeper wanted)) in
      record {
        turns = answered.turns;
        asked = answered.asked;
        said = lead.said;
        journal = answered.journal;
        bytes = λ wanted. lead.said ∙ sym (output wanted).bytes;
        entries = λ wanted. ap (λ (j : JournalView). j.entries) answered.journal ∙ sym (output wanted).entries;
      }

  -- no fault of a device is the status
  module _ (cause : HasStatusCause before after ran.status) (none : NoneRose before after) (held : IsHeldStatus ran.status) (fresh : IsFresh devices disk table ran.table) where
    abbrev Made : HoldsSession devices moments disk table left left' ended taken taken' ran → List Item → List ℕ → Type 0
    Made session = HasAnswered devices session.settings moments session.over session.broken disk table ran

    by_end : (session : HoldsSession devices moments disk table left left' ended taken taken' ran) (end : End) → session.end ≡ end → IsWholeEnd end
    by_end session ends.Clean is = tt
    by_end session ends.Closed is = tt
    by_end session ends.Cut is = tt
    by_end session ends.ReadFault is =
        absurd (none.reads (subst (λ (s : Status). HasStatusCause before after s) (session.status ∙ ap (λ (e : End). status_of e session.broken) is) cause))
    by_end session ends.WriteFault is =
        absurd (none.writes (subst (λ (s : Status). HasStatusCause before after s) (session.status ∙ ap (λ (e : End). status_of e session.broken) is) cause))
    by_end session ends.DownloadFault is =
        let said = subst (λ (e : End). EndsAs (Made session) (λ requests written count. Unit {0}) (IsFresh devices disk table ran.table → Rose (devices.disk_faults disk) (devices.disk_faults ran.disk)) session.over e left left' ended taken taken') is session.ends in
        absurd (none.disk (said.2 fresh))
    by_end session ends.InputTooLong is = absurd (held.short (session.status ∙ ap (λ (e : End). status_of e session.broken) is))
    by_end session ends.NoMemory is = absurd (held.memory (session.status ∙ ap (λ (e : End). status_of e session.broken) is))

    at_whole : (session : HoldsSession devices moments disk table left left' ended taken taken' ran) (end : End) → IsWholeEnd end
        → EndsAs (Made session) (λ requests written count. Unit {0}) (IsFresh devices disk table ran.table → Rose (devices.disk_faults disk) (devices.disk_faults ran.disk)) session.over end left left' ended taken taken'
        → EndsAs (Made session) (λ requests written count. ⊥) ⊥ session.over end left left' ended taken taken'
    at_whole session ends.Clean is said = said
    at_whole session ends.Closed is said = said
    at_whole session ends.Cut is said = said
    at_whole session ends.ReadFault is said = absurd is
    at_whole session ends.WriteFault is said = absurd is
    at_whole session ends.DownloadFault is said = absurd is
    at_whole session ends.InputTooLong is said = absurd is
    at_whole session ends.NoMemory is said = absurd is

    held_exactly : HoldsSession devices moments disk table left left' ended taken taken' ran → HeldExactly devices moments disk left left' ended taken taken' ran
    held_exactly session =
        let is = by_end session session.end refl in
        record {
          settings = session.settings;
          given = session.given;
          end = session.end;
          over = session.over;
          whole = is;
          ends = ends_map (Made session) (IsExact session.settings moments ran) (λ requests written count. ⊥) (λ requests written count. ⊥) ⊥ ⊥ session.over session.end left left' taken taken' ended
              (answered_so session.settings session.over session.broken fresh none) (λ requests written count past. past) (λ fails. fails)
              (at_whole session session.end is session.ends);
        }

    no_early : (s : Status) → ran.status ≡ s → IsEarly s → ⊥
    no_early status.Ok is early = early
    no_early status.Usage is early = held.command is
    no_early (status.BadConfig key) is early = held.configured key is
    no_early status.ReadFault is early = early
    no_early status.WriteFault is early = early
    no_early status.InputTooLong is early = early
    no_early status.DiskFault is early = none.disk (subst (λ (s : Status). HasStatusCause before after s) is cause)
    no_early status.KeeperFault is early = early
    no_early status.Cut is early = early
    no_early status.DownloadFault is early = early
    no_early status.NoMemory is early = held.memory is

    pub run_exactly : {S K : Type 0} (input input' : S) (output output' : K)
        → EndsEarly devices disk table input input' output output' ran ⊎ HoldsSession devices moments disk table left left' ended taken taken' ran
        → HeldExactly devices moments disk left left' ended taken taken' ran
    run_exactly input input' output output' (inl early) = absurd (no_early ran.status refl early.status)
    run_exactly input input' output output' (inr session) = held_exactly session
