-- How a call that was made keeps what each call keeps (specs/Called.antt, specs/Survives.antt), by its work.
use Rattle.std.proofs.Common.{◌≡◌, ◌⊎◌, inl, inr, ℕ, List, [], ◌∷◌, length, IsSome, Option, None, Result, refl, sym, ◌∙◌, subst, arith}
use Rattle.nx_io.specs.Causes.{Rose}
use Rattle.repo_model.specs.declared.entry.Entry.{Entry}
use Rattle.repo_model.specs.declared.reply.Cause.{Cause}
use Rattle.repo_model.specs.declared.reply.Refusal.{Refusal}
use Rattle.repo_model.specs.State.{State}
use Rattle.repo_model.specs.Plain.{config_of}
use Rattle.repo_model.specs.Journal.{JournalView}
use Rattle.repo_core.specs.declared.hold.Hold.{Hold}
use Rattle.repo_core.specs.declared.own.Own.{Own}
use Rattle.repo_core.specs.declared.stop.Stop.{Stop}
use Rattle.repo_core.specs.Answers.{IsFull, HasRoom, with_entry, cause_of}
use Rattle.repo_core.specs.Asks.{Ask}
use Rattle.repo_core.specs.Barred.{BarredBy}
use Rattle.repo_core.specs.Called.{LeadsBy, Moved, Called, parts_of}
use Rattle.repo_core.specs.Devices.{Devices}
use Rattle.repo_core.specs.Faults.{IsDisk, IsKeeper}
use Rattle.repo_core.specs.Parts.{StandFor, AreUntouched}
use Rattle.repo_core.specs.Survives.{Survives}
use Rattle.repo_core.specs.View.{CoreView}
use Rattle.repo_core.specs.Worked.{IsAnswerOf, Worked}
use Rattle.repo_core.proofs.Breaks.{broke_number, broke_disk, broke_keeper}
use Rattle.repo_core.proofs.Finishings.{not_broke}
use Rattle.repo_core.proofs.WorkAnswers.{some_none, was_broke, if_not_denied, on_done, answered_cause, never_full, never_broken, if_denied}

pub full_or_room : (P : Type 0) (journal : JournalView) → IsFull journal → HasRoom journal → P
full_or_room P journal full room = absurd (omega (arith, full, room))

-- what a call that was made leaves: the parts that its work left, the entry, and the cause by which the core is broken, if it is
abbrev pub left_by : {D T : Type 0} → CoreView D T → D → T → Own → List (Option Hold) → Entry → Option Cause → CoreView D T
left_by old disk table own holds entry cause =
    record old { disk = disk; table = table; own = own; holds = holds; journal = with_entry old.journal entry; broken = cause }

-- the state to which the entry leads, and for which what is left stands
pub record Next {D T : Type 0} (on : Devices D T) (store : Option (List ℕ)) (old : CoreView D T) (entry : Entry) (s : State) (left : CoreView D T) : Type 0 where
  pub state : State
  pub leads : LeadsBy (config_of old.config) (length old.journal.entries) store s (entry ∷ []) state
  pub broken : state.broken ≡ left.broken
  pub agrees : left.broken ≡ None → StandFor on (config_of left.config) (parts_of left) state

moved_by : {D T : Type 0} (on : Devices D T) (store : Option (List ℕ)) (old left : CoreView D T) (entry : Entry) (s : State) → Next on store old entry s left → Moved on store old left (entry ∷ []) s
moved_by on store old left entry s next = record { next = next.state; leads = next.leads; tracks = record { broken = next.broken; agrees = next.agrees } }

module _ {D T A : Type 0} (on : Devices D T) (ask : Ask D A) (old new : CoreView D T) (result : Result A Refusal) (entry : Entry) where
  -- A call whose work was done: what it left of the core, with the entry, and the cause by which it is broken, if it is.
  module _ {X : Type 0} (says : X → A) (done : Result X Stop) (number : ℕ) (is : IsAnswerOf says done result) (free : BarredBy old None) (numbered : number ≡ length old.journal.entries)
      (disk : D) (table : T) (own : Own) (holds : List (Option Hold)) (cause : Option Cause) (behind : new ≡ left_by old disk table own holds entry cause) (caused : cause ≡ cause_of number done)
      (enters : ask.enters result (entry ∷ [])) (work : Worked on ask (config_of old.config) (parts_of old) (parts_of (left_by old disk table own holds entry cause)) done) where
    room : HasRoom old.journal
    room = free.0

    sound : old.broken ≡ None
    sound = free.1

    abbrev pub left : CoreView D T
    left = left_by old disk table own holds entry cause

    pub called_done : (on.told → IsSome (on.table table) → ask.premise → (s : State) → StandFor on (config_of old.config) (parts_of old) s → Next on ask.store old entry s left) → Called on ask old new result
    called_done next = subst (λ (core : CoreView D T). Called on ask old core result) (sym behind) (record {
      entries = entry ∷ [];
      journal = refl;
      enters = λ _. enters;
      full = λ full. full_or_room _ old.journal full room;
      only_full = λ is_full. absurd (never_full says done result is is_full);
      broken = λ what _ was. absurd (some_none old.broken what sound was);
      only_broken = λ what told. absurd (never_broken says what done result is told);
      moves = λ told some _ premise s tracks. moved_by on ask.store old left entry s (next told some premise s (tracks.agrees sound));
      tells = work.tells;
      lasting = work.lasting;
      config = refl;
      disk_cause = record {
        later = work.disk_cause.later;
        failed = answered_cause says IsDisk (Rose (on.disk_faults old.disk) (on.disk_faults disk)) done result is work.disk_cause.failed;
      };
      keeper_cause = record {
        later = work.keeper_cause.later;
        failed = answered_cause says IsKeeper (Rose (on.keeper_faults old.table) (on.keeper_faults table)) done result is work.keeper_cause.failed;
      };
      breaks = λ what none broke. record {
        number = broke_number done number cause caused what broke ∙ numbered;
        disk = broke_disk done number cause caused what broke (on.disk_faults old.disk) (on.disk_faults disk) work.disk_cause;
        keeper = broke_keeper done number cause caused what broke (on.keeper_faults old.table) (on.keeper_faults table) work.keeper_cause;
        behind = work.behind (was_broke done number cause caused what broke);
      };
    })

    pub survives_done : Survives on ask old new result
    survives_done = subst (λ (core : CoreView D T). Survives on ask old core result) (sym behind) (record {
      crash = λ told some premise s tracks none settled. work.crash told some premise s (tracks.agrees none) settled;
      durable = λ told none settled. work.durable told (not_broke number done cause caused none) settled;
      stays = λ told none. work.stays told;
      rest = λ told some premise s tracks none. work.rest told some premise s (tracks.agrees none);
      table = work.table;
      own = if_not_denied ((own ≡ old.own) ⊎ ask.keeps old.own own) done (λ denied. inl (work.clean denied).own) (λ made. inr (work.own made));
      own_done = on_done says (ask.keeps old.own own) done result is (λ made. work.own made);
      halfway = λ told some premise s tracks none what broke. work.halfway told some premise s (tracks.agrees none) (was_broke done number cause caused what broke);
      stuck = λ what was. absurd (some_none old.broken what sound was);
      clean = λ none. if_denied says (AreUntouched on (parts_of old) (parts_of left)) number done result cause is caused none work.clean;
    })
