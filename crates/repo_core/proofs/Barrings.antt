-- How a call that a core didn't take keeps what each call keeps (specs/Called.antt, specs/Survives.antt).
use Rattle.std.proofs.Common.{◌≡◌, ◌⊎◌, inl, inr, ℕ, List, [], ◌∷◌, length, IsSome, OnOk, OnErr, IfErr, Option, Some, None, Result, Err, refl, sym, ◌∙◌, ap, subst, arith, append-nil}
use Rattle.std.proofs.lemmas.Bool.{cases_lt}
use Rattle.nx_io.specs.Causes.{HasCauseWhere, Rose}
use Rattle.repo_model.specs.declared.call.Call.{Call}
use Rattle.repo_model.specs.declared.entry.Entry.{Entry}
use Rattle.repo_model.specs.declared.reply.Cause.{Cause}
use Rattle.repo_model.specs.declared.reply.Fault.{Fault}
use Rattle.repo_model.specs.declared.reply.Refusal.{Refusal}
use Rattle.repo_model.specs.declared.reply.Refusal.TheVariants as refusal
use Rattle.repo_model.specs.declared.reply.Reply.{Reply}
use Rattle.repo_model.specs.declared.reply.Reply.TheVariants as reply
use Rattle.repo_model.specs.Config.{Config}
use Rattle.repo_model.specs.State.{State}
use Rattle.repo_model.specs.History.{Follows}
use Rattle.repo_model.specs.Plain.{config_of}
use Rattle.repo_model.specs.Journal.{JournalView}
use Rattle.disk_model.specs.Disk.{Tree}
use Rattle.asset_keeper.specs.Table.{Table}
use Rattle.asset_keeper.specs.Told.{Tells}
use Rattle.tree_content.specs.Contents.{HasContents}
use Rattle.repo_core.specs.declared.own.Own.{Own}
use Rattle.repo_core.specs.Rows.{contents_in}
use Rattle.repo_core.specs.Answers.{IsFull, HasRoom, with_entry}
use Rattle.repo_core.specs.Asks.{Ask, TookBack, asks, asks_to_store}
use Rattle.repo_core.specs.Barred.{BarredBy}
use Rattle.repo_core.specs.Called.{LeadsBy, Moved, IsBarred, Called, parts_of}
use Rattle.repo_core.specs.Devices.{Devices}
use Rattle.repo_core.specs.Faults.{IsDisk, IsKeeper, RefusedBy}
use Rattle.repo_core.specs.Parts.{AreUntouched}
use Rattle.repo_core.specs.Standing.{Tracks, AnswersAt}
use Rattle.repo_core.specs.Stores.{homes_of}
use Rattle.repo_core.specs.Survives.{Survives}
use Rattle.repo_core.specs.View.{CoreView}
use Rattle.repo_core.proofs.CallsMade.{full_or_room}
use Rattle.repo_core.proofs.Finishings.{follows_broken, outcome_broken}
use Rattle.repo_core.proofs.Rests.{rest_quiet, tells_still}
use Rattle.repo_core.proofs.Runs.{nothing_ran}
use Rattle.repo_core.proofs.WorkAnswers.{some_none, err_same}
use Rattle.repo_core.proofs.Works.{crash_before, durable_quiet, stays_quiet}

some_same : {A : Type 0} (o : Option A) (a b : A) → o ≡ Some a → o ≡ Some b → a ≡ b
some_same o a b first second = cc

broken_not_full : (cause : Cause) → refusal.Broken cause ≡ refusal.JournalFull → ⊥
broken_not_full cause e = cc

broken_same : (a b : Cause) → refusal.Broken a ≡ refusal.Broken b → a ≡ b
broken_same a b e = cc

-- an entry by which the state leads on, also at the store of its upload
pub leads_one : (store : Option (List ℕ)) (config : Config) (number : ℕ) (s : State) (entry : Entry) (new : State) → Follows config number s entry new
    → ((at : List ℕ) → AnswersAt config s at entry.call entry.reply new) → LeadsBy config number store s (entry ∷ []) new
leads_one None config number s entry new follows step = (follows, refl)
leads_one (Some at) config number s entry new follows step = (follows, refl, step at)

-- what is left where a call was turned away: the core but for its disk, and the entry, where there is room
pub record WasTurnedAway {D T : Type 0} (old new : CoreView D T) (entry : Entry) : Type 0 where
  pub full : IsFull old.journal → new ≡ record old { disk = new.disk }
  pub room : HasRoom old.journal → new ≡ record old { disk = new.disk; journal = with_entry old.journal entry }

-- Something was given up to the disk before.
pub away_after : {D T : Type 0} (old mid new : CoreView D T) (entry : Entry) → mid ≡ record old { disk = mid.disk } → (IsFull mid.journal → new ≡ mid)
    → (HasRoom mid.journal → new ≡ record mid { journal = with_entry mid.journal entry }) → WasTurnedAway old new entry
away_after {D} {T} old mid new entry is full room = record {
  full = λ f. λ i. record ((full (subst (λ (j : JournalView). IsFull j) (sym journal) f) ∙ is) i) { disk = new.disk };
  room = λ r. λ i. record ((room (subst (λ (j : JournalView). HasRoom j) (sym journal) r) ∙ ap (λ (core : CoreView D T). record core { journal = with_entry core.journal entry }) is) i) { disk = new.disk };
}
  where
    journal : mid.journal ≡ old.journal
    journal = ap (λ (core : CoreView D T). core.journal) is

-- the disk is that from before
pub same_disk : {D T : Type 0} (old new : CoreView D T) (entry : Entry) → (IsFull old.journal → new ≡ old) → (HasRoom old.journal → new ≡ record old { journal = with_entry old.journal entry }) → new.disk ≡ old.disk
same_disk {D} {T} old new entry full room = elim (cases_lt (length old.journal.entries) old.journal.room) [
  | inl r ↦ ap (λ (core : CoreView D T). core.disk) (room r)
  | inr f ↦ ap (λ (core : CoreView D T). core.disk) (full f)
]

module _ {D T A : Type 0} (on : Devices D T) (ask : Ask D A) (old new : CoreView D T) (result : Result A Refusal) (entry : Entry) where
  -- A call that was barred, and of which what was handed in is given up.
  module _ (caller : ℕ) (c : Call) (why : Refusal) (by : BarredBy old (Some why)) (answer : result ≡ Err why)
      (entry_is : entry ≡ record { caller = caller; call = c; reply = reply.Refused why }) (away : WasTurnedAway old new entry) (enters : ask.enters result (entry ∷ [])) (given_up : ask.gives_up old.disk new.disk) (back : TookBack on old.disk new.disk) where
    rest : new ≡ record old { disk = new.disk; journal = new.journal }
    rest = elim (cases_lt (length old.journal.entries) old.journal.room) [
      | inl room ↦ λ i. record (away.room room i) { disk = new.disk; journal = new.journal }
      | inr full ↦ λ i. record (away.full full i) { disk = new.disk; journal = new.journal }
    ]

    journal_full : IsFull old.journal → new.journal ≡ old.journal
    journal_full full = ap (λ (core : CoreView D T). core.journal) (away.full full)

    journal_room : HasRoom old.journal → new.journal ≡ with_entry old.journal entry
    journal_room room = ap (λ (core : CoreView D T). core.journal) (away.room room)

    same_table : new.table ≡ old.table
    same_table = ap (λ (core : CoreView D T). core.table) rest

    same_broken : new.broken ≡ old.broken
    same_broken = ap (λ (core : CoreView D T). core.broken) rest

    barred : IsBarred on ask old new result why
    barred = record { answer = answer; rest = rest; given_up = given_up }

    quiet : (Is : Fault → Type 0) (before now : ℕ) → now ≡ before → (RefusedBy Is why → ⊥) → HasCauseWhere (RefusedBy Is) before now result
    quiet Is before now same never = record {
      later = omega (arith, same);
      failed = subst (λ (r : Result A Refusal). IfErr r (λ e. RefusedBy Is e → Rose before now)) (sym answer) (λ is. absurd (never is));
    }

    no_fault : (Is : Fault → Type 0) → RefusedBy Is why → ⊥
    no_fault Is refused = elim by [
      | inl full ↦ subst (λ (w : Refusal). RefusedBy Is w) full.1 refused
      | inr it ↦ subst (λ (w : Refusal). RefusedBy Is w) it.3 refused
    ]

    -- where it has room the core is broken, and stays so
    goes_on : HasRoom old.journal → (s : State) → Tracks on.tree on.table old s → Moved on ask.store old new (entry ∷ []) s
    goes_on room s tracks = elim by [
      | inl full ↦ full_or_room _ old.journal full.0 room
      | inr it ↦
          let cause : Cause = it.1 in
          let is : old.broken ≡ Some cause = it.2 in
          let follows : Follows (config_of old.config) (length old.journal.entries) s entry s =
          subst (λ (e : Entry). Follows (config_of old.config) (length old.journal.entries) s e s) (sym (entry_is ∙ ap (λ (w : Refusal). record { caller = caller; call = c; reply = reply.Refused w }) it.3))
          (follows_broken (config_of old.config) (length old.journal.entries) caller s c cause (tracks.broken ∙ is)) in
          let step : (store : List ℕ) → AnswersAt (config_of old.config) s store entry.call entry.reply s =
          λ store. subst (λ (e : Entry). AnswersAt (config_of old.config) s store e.call e.reply s) (sym (entry_is ∙ ap (λ (w : Refusal). record { caller = caller; call = c; reply = reply.Refused w }) it.3))
          (λ steady. outcome_broken (config_of old.config) s store c cause (tracks.broken ∙ is)) in
          record {
            next = s;
            leads = leads_one ask.store (config_of old.config) (length old.journal.entries) s entry s follows step;
            tracks = record { broken = tracks.broken ∙ sym same_broken; agrees = λ none. absurd (some_none new.broken cause none (same_broken ∙ is)) };
          }
    ]

    pub called_barred : Called on ask old new result
    called_barred = elim (cases_lt (length old.journal.entries) old.journal.room) [
      | inl room ↦ record {
        entries = entry ∷ [];
        journal = journal_room room;
        enters = λ _. enters;
        full = λ full. full_or_room _ old.journal full room;
        only_full = λ is. elim by [
          | inl full ↦ full.0
          | inr it ↦ absurd (broken_not_full it.1 (sym it.3 ∙ err_same result why refusal.JournalFull answer is))
        ];
        broken = λ cause _ was. elim by [
          | inl full ↦ full_or_room _ old.journal full.0 room
          | inr it ↦ subst (λ (w : Refusal). IsBarred on ask old new result w) (it.3 ∙ ap (λ (k : Cause). refusal.Broken k) (some_same old.broken it.1 cause it.2 was)) barred
        ];
        only_broken = λ cause told. elim by [
          | inl full ↦ absurd (broken_not_full cause (sym (err_same result why (refusal.Broken cause) answer told) ∙ full.1))
          | inr it ↦ it.2 ∙ ap (λ (k : Cause). Some k) (broken_same it.1 cause (sym it.3 ∙ err_same result why (refusal.Broken cause) answer told))
        ];
        moves = λ told some fits premise s tracks. goes_on fits s tracks;
        tells = λ some. subst (λ (t : T). IsSome (on.table t)) same_table some;
        lasting = λ lasts some. subst (λ (t : T). IsSome (on.table t)) (sym same_table) some;
        config = ap (λ (core : CoreView D T). core.config) rest;
        disk_cause = quiet IsDisk (on.disk_faults old.disk) (on.disk_faults new.disk) back.faults (no_fault IsDisk);
        keeper_cause = quiet IsKeeper (on.keeper_faults old.table) (on.keeper_faults new.table) (ap on.keeper_faults same_table) (no_fault IsKeeper);
        breaks = λ cause none broke. absurd (some_none old.broken cause none (sym same_broken ∙ broke));
      }
      | inr full ↦ record {
        entries = [];
        journal = journal_full full ∙ ap (λ (l : List Entry). record old.journal { entries = l }) (sym (append-nil old.journal.entries));
        enters = λ room. full_or_room _ old.journal full room;
        full = λ _. elim by [
          | inl is ↦ (subst (λ (w : Refusal). IsBarred on ask old new result w) is.1 barred, refl)
          | inr it ↦ full_or_room _ old.journal full it.0
        ];
        only_full = λ _. full;
        broken = λ cause room was. full_or_room _ old.journal full room;
        only_broken = λ cause told. elim by [
          | inl is ↦ absurd (broken_not_full cause (sym (err_same result why (refusal.Broken cause) answer told) ∙ is.1))
          | inr it ↦ full_or_room _ old.journal full it.0
        ];
        moves = λ told some room premise s tracks. full_or_room _ old.journal full room;
        tells = λ some. subst (λ (t : T). IsSome (on.table t)) same_table some;
        lasting = λ lasts some. subst (λ (t : T). IsSome (on.table t)) (sym same_table) some;
        config = ap (λ (core : CoreView D T). core.config) rest;
        disk_cause = quiet IsDisk (on.disk_faults old.disk) (on.disk_faults new.disk) back.faults (no_fault IsDisk);
        keeper_cause = quiet IsKeeper (on.keeper_faults old.table) (on.keeper_faults new.table) (ap on.keeper_faults same_table) (no_fault IsKeeper);
        breaks = λ cause none broke. absurd (some_none old.broken cause none (sym same_broken ∙ broke));
      }
    ]

    untouched : AreUntouched on (parts_of old) (parts_of new)
    untouched = record {
      unseen = record {
        quiet = back.quiet;
        rows = subst (λ (t : T). Tells (on.table old.table) (on.table t) (λ a b. b ≡ a)) (sym same_table) (tells_still (λ a b. b ≡ a) (λ t. refl) (on.table old.table));
        changes = ap on.changes same_table;
      };
      own = ap (λ (core : CoreView D T). core.own) rest;
    }

    pub survives_barred : ((config : Config) (s : State) (image : Tree) → HasContents (homes_of config) (contents_in s.rows) image → ask.leaves config s image) → Survives on ask old new result
    survives_barred before = record {
      crash = λ told some premise s tracks none settled.
          crash_before (config_of old.config) (on.tree old.disk) s (tracks.agrees none).files on.clock on.lists old.disk new.disk (ask.leaves (config_of old.config) s) (before (config_of old.config) s) settled (back.quiet.moments told);
      durable = λ told none settled. durable_quiet on old.disk new.disk back.quiet told settled;
      stays = λ told none. stays_quiet on old.disk new.disk back.quiet told;
      rest = λ told some premise s tracks none. rest_quiet on (ask.touches s) told old.disk new.disk back.quiet;
      table = subst (λ (t : T). Tells (on.table old.table) (on.table t) (λ a b. (b ≡ a) ⊎ ask.alters a b)) (sym same_table) (tells_still (λ a b. (b ≡ a) ⊎ ask.alters a b) (λ t. inl refl) (on.table old.table));
      own = inl (ap (λ (core : CoreView D T). core.own) rest);
      own_done = subst (λ (r : Result A Refusal). OnOk r (ask.keeps old.own new.own)) (sym answer) tt;
      halfway = λ told some premise s tracks none cause broke. absurd (some_none old.broken cause none (sym same_broken ∙ broke));
      stuck = λ cause was. (same_broken ∙ was, untouched);
      clean = λ none. subst (λ (r : Result A Refusal). OnErr r (AreUntouched on (parts_of old) (parts_of new))) (sym answer) untouched;
    }

-- a disk on which no call was made
pub idle : {D T : Type 0} (on : Devices D T) (old new : D) → new ≡ old → TookBack on old new
idle on old new same = subst (λ (d : _). TookBack on old d) (sym same) (record {
  quiet = record { files = λ told n out. refl; moments = λ told. nothing_ran on.clock on.lists old; shown = refl };
  faults = refl;
})

module _ {D T A : Type 0} (on : Devices D T) (caller : ℕ) (c : Call) (says : A → Reply) (touches : State → List ℕ → Type 0) (alters : Table → Table → Type 0) (keeps : Own → Own → Type 0) (old new : CoreView D T) (why : Refusal) (entry : Entry) (by : BarredBy old (Some why))
    (entry_is : entry ≡ record { caller = caller; call = c; reply = reply.Refused why }) where
  -- A call to which nothing was handed was barred.
  pub barred_alone : (IsFull old.journal → new ≡ old) → (HasRoom old.journal → new ≡ record old { journal = with_entry old.journal entry })
      → Called on (asks caller c says touches alters keeps) old new (Err why) × Survives on (asks caller c says touches alters keeps) old new (Err why)
  barred_alone full room =
      let away : WasTurnedAway old new entry = away_after old old new entry refl full room in
      let same : new.disk ≡ old.disk = same_disk old new entry full room in (
        called_barred on (asks caller c says touches alters keeps) old new (Err why) entry caller c why by refl entry_is away (ap (λ (e : Entry). e ∷ []) entry_is) same (idle on old.disk new.disk same),
        survives_barred on (asks caller c says touches alters keeps) old new (Err why) entry caller c why by refl entry_is away (ap (λ (e : Entry). e ∷ []) entry_is) same (idle on old.disk new.disk same) (λ config s image has. inl has),
      )

  -- A call that was to store a file was barred, and the file given up before.
  pub barred_with_file : (store : List ℕ) (premise : Type 0) (mid : CoreView D T) → mid ≡ record old { disk = mid.disk } → TookBack on old.disk mid.disk
      → (IsFull mid.journal → new ≡ mid) → (HasRoom mid.journal → new ≡ record mid { journal = with_entry mid.journal entry })
      → Called on (asks_to_store on caller c says touches alters keeps store premise) old new (Err why) × Survives on (asks_to_store on caller c says touches alters keeps store premise) old new (Err why)
  barred_with_file store premise mid rest back full room =
      let away : WasTurnedAway old new entry = away_after old mid new entry rest full room in
      let took : TookBack on old.disk new.disk = subst (λ (d : D). TookBack on old.disk d) (sym (same_disk mid new entry full room)) back in (
        called_barred on (asks_to_store on caller c says touches alters keeps store premise) old new (Err why) entry caller c why by refl entry_is away (ap (λ (e : Entry). e ∷ []) entry_is) took took,
        survives_barred on (asks_to_store on caller c says touches alters keeps store premise) old new (Err why) entry caller c why by refl entry_is away (ap (λ (e : Entry). e ∷ []) entry_is) took took (λ config s image has. inl has),
      )
