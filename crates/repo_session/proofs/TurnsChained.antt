-- Turns that were made one after another.
use Rattle.std.proofs.Common.{◌≡◌, ◌⊎◌, inl, inr, ℕ, ◌+◌, Bool, false, List, [], ◌∷◌, ◌++◌, length, cond, Some, None, IsSome, refl, sym, ap, ◌∙◌, subst, arith, append-nil, length-append}
use Rattle.std.proofs.lemmas.List.Sums.{sum_by-append, sum_by-cons}
use Rattle.nx_io.specs.Causes.{RoseBy}
use Rattle.nx_base.specs.declared.moment.Moment.{Moment}
use Rattle.repo_model.specs.declared.entry.Entry.{Entry}
use Rattle.repo_model.specs.Journal.{JournalView}
use Rattle.repo_model.specs.Plain.{config_of}
use Rattle.repo_model.specs.State.{State}
use Rattle.http_front.specs.Contents.{Contents}
use Rattle.http_front.specs.Turns.{Setting, Turn, Makes, AreTurns, contents_after, turn_answer, entries_of}
use Rattle.repo_core.specs.View.{CoreView}
use Rattle.repo_core.specs.Devices.{Devices}
use Rattle.repo_session.specs.Standing.{Stands}
use Rattle.repo_session.specs.Called.{Since}
use Rattle.repo_session.specs.Drawing.{draw_of}
use Rattle.repo_session.specs.Turned.{setting_of, disk_faults_in, keeper_faults_in, stop_faults, refuses_by, says_disk, says_keeper, TurnMade, TurnLeads, IsAnswer}
use Rattle.repo_session.specs.Serving.{all_stop_faults, LastEnds, TurnsLead, RunsFrom}
use Rattle.repo_session.proofs.TurnsMade.{rose_none, rose_by_both}
use Rattle.repo_session.proofs.Puttings.{since_both}

-- the faults of entries one behind another

disk_of_both : (first second : List Entry) → disk_faults_in (first ++ second) ≡ disk_faults_in first + disk_faults_in second
disk_of_both first second = sum_by-append (λ (e : Entry). cond (refuses_by says_disk e.reply) 1 0) first second

keeper_of_both : (first second : List Entry) → keeper_faults_in (first ++ second) ≡ keeper_faults_in first + keeper_faults_in second
keeper_of_both first second = sum_by-append (λ (e : Entry). cond (refuses_by says_keeper e.reply) 1 0) first second

stops_of_more : (turn : Turn) (turns : List Turn) → all_stop_faults (turn ∷ turns) ≡ stop_faults turn.stop + all_stop_faults turns
stops_of_more turn turns = sum_by-cons (λ (t : Turn). stop_faults t.stop) turn turns

-- a core since itself
since_none : {D T : Type 0} (devices : Devices D T) (core : CoreView D T) → Since devices core core []
since_none devices core = record {
  journal = ap (λ (l : List Entry). record core.journal { entries = l }) (sym (append-nil core.journal.entries));
  config = refl;
  tells = λ is. is;
  disk_later = omega arith;
  keeper_later = omega arith;
  broken = λ cause is. is;
  disk_broke = λ cause was is says. absurd (some_is_none (sym is ∙ was));
  keeper_broke = λ cause was is says. absurd (some_is_none (sym is ∙ was));
  durable = λ told sound is. is;
  others = λ told some state tracks. (state, tracks, λ n out no. refl);
}
  where
    some_is_none : {A : Type 0} {x : A} → Some x ≡ None → ⊥
    some_is_none e = absurd (cc)

-- no turn
pub runs_none : {D T : Type 0} (devices : Devices D T) (core : CoreView D T) (over : Bool) (moments : List Moment) (n : ℕ) → RunsFrom devices core core over moments n [] []
runs_none devices core over moments n = record {
  since = since_none devices core;
  disk = rose_none _ _ (omega arith);
  keeper = rose_none _ _ (omega arith);
  leads = λ told is state contents stands. record { next = state; after = contents; are = (refl, refl); stands = stands; said = refl; ends = tt };
}

-- the last of several turns is that of those behind the first
last_of_more : (over ends : Bool) (contents : Contents) (turn : Turn) (turns : List Turn) → ends ≡ (turn_answer contents turn).ends → (turns ≡ [] → ends ≡ over)
    → LastEnds over (contents_after turn contents) turns → LastEnds over contents (turn ∷ turns)
last_of_more over ends contents turn [] are last behind = sym are ∙ last refl
last_of_more over ends contents turn (next ∷ turns) are last behind = behind

-- One turn, and those behind it. The session ends behind the first only where it is the last.
pub runs_more : {D T : Type 0} (devices : Devices D T) (old mid new : CoreView D T) (ends over : Bool) (moments : List Moment) (n : ℕ) (moment : Moment) (turn : Turn) (turns : List Turn) (answer rest : List ℕ)
    → moment ≡ draw_of moments n → TurnMade devices old mid moment turn
    → (devices.told → IsSome (devices.table mid.table) → (state : State) (contents : Contents) → Stands devices old state contents → IsAnswer (turn_answer contents turn) answer ends)
    → (ends ≡ false) ⊎ (turns ≡ []) → (turns ≡ [] → ends ≡ over) → RunsFrom devices mid new over moments (n + 1) turns rest
    → RunsFrom devices old new over moments n (turn ∷ turns) (answer ++ rest)
runs_more {D} {T} devices old mid new ends over moments n moment turn turns answer rest drawn made says goes last runs = record {
  since = since_both devices old mid new turn.entries (entries_of turns) made.since runs.since;
  disk = subst (λ (k : ℕ). RoseBy k (devices.disk_faults old.disk) (devices.disk_faults new.disk)) (sym disk_count) (rose_by_both _ _ _ _ _ made.disk runs.disk);
  keeper = subst (λ (k : ℕ). RoseBy k (devices.keeper_faults old.table) (devices.keeper_faults new.table)) (sym (keeper_of_both turn.entries (entries_of turns)))
      (rose_by_both _ _ _ _ _ made.keeper runs.keeper);
  leads = leads;
}
  where
    disk_count : disk_faults_in (turn.entries ++ entries_of turns) + all_stop_faults (turn ∷ turns) ≡ (disk_faults_in turn.entries + stop_faults turn.stop) + (disk_faults_in (entries_of turns) + all_stop_faults turns)
    disk_count =
        let entries = disk_of_both turn.entries (entries_of turns) in
        let stops = stops_of_more turn turns in
        omega (arith, entries, stops)

    number : length mid.journal.entries ≡ length old.journal.entries + length turn.entries
    number = ap (λ (j : JournalView). length j.entries) made.since.journal ∙ length-append old.journal.entries turn.entries

    setting : setting_of mid (draw_of moments) ≡ setting_of old (draw_of moments)
    setting = λ i. record (setting_of old (draw_of moments)) { config = config_of (made.since.config i); room = (made.since.journal i).room }

    goes_on : (contents : Contents) → ends ≡ (turn_answer contents turn).ends → (ends ≡ false) ⊎ (turns ≡ []) → ((turn_answer contents turn).ends ≡ false) ⊎ (turns ≡ [])
    goes_on contents are (inl not) = inl (sym are ∙ not)
    goes_on contents are (inr none) = inr none

    leads : devices.told → IsSome (devices.table new.table) → (state : State) (contents : Contents) → Stands devices old state contents
        → TurnsLead devices old new over moments n (turn ∷ turns) (answer ++ rest) state contents
    leads told is state contents stands =
        let tells : IsSome (devices.table mid.table) = runs.since.tells is in
        let one : TurnLeads devices old mid moment turn (draw_of moments) state contents = made.leads told tells (draw_of moments) state contents stands in
        let two : TurnsLead devices mid new over moments (n + 1) turns rest one.next (contents_after turn contents) = runs.leads told is one.next (contents_after turn contents) one.stands in
        let said : IsAnswer (turn_answer contents turn) answer ends = says told tells state contents stands in
        let makes : Makes (setting_of old (draw_of moments)) (draw_of moments n) turn.request turn.stop [] (length old.journal.entries) state turn.entries one.next
        = subst (λ (m : Moment). Makes (setting_of old (draw_of moments)) m turn.request turn.stop [] (length old.journal.entries) state turn.entries one.next) drawn one.makes in
        let behind : AreTurns (setting_of old (draw_of moments)) (n + 1) (length old.journal.entries + length turn.entries) one.next (contents_after turn contents) turns two.next two.after
        = subst (λ (k : ℕ). AreTurns (setting_of old (draw_of moments)) (n + 1) k one.next (contents_after turn contents) turns two.next two.after) number
        (subst (λ (s : Setting). AreTurns s (n + 1) (length mid.journal.entries) one.next (contents_after turn contents) turns two.next two.after) setting two.are) in
        record {
          next = two.next;
          after = two.after;
          are = (one.next, record { makes = makes; stops = made.stops; served = one.served }, goes_on contents said.ends_are goes, behind);
          stands = two.stands;
          said = ap (λ (l : List ℕ). l ++ rest) said.bytes_are ∙ ap (λ (l : List ℕ). (turn_answer contents turn).bytes ++ l) two.said;
          ends = last_of_more over ends contents turn turns said.ends_are last two.ends;
        }
