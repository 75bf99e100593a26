-- What the calls of a core are to a session: what the core says of each call, with the contents beside.
use Rattle.std.proofs.Common.{◌≡◌, ◌≢◌, inl, inr, false, ℕ, List, [], ◌∷◌, length, IsSome, IfOk, IfErr, Option, Some, None, Result, Ok, Err, refl, sym, ◌∙◌, ap, subst, append-nil}
use Rattle.std.proofs.lemmas.Bool.{cases_lt}
use Rattle.nx_base.specs.declared.asset.Asset.{Asset}
use Rattle.nx_base.specs.declared.moment.Moment.{Moment}
use Rattle.blob_files.specs.declared.ready.Ready.{Ready}
use Rattle.asset_keeper.specs.Table.{Table}
use Rattle.tree_content.specs.Blobs.{bytes_name}
use Rattle.repo_model.specs.declared.call.Call.{Call}
use Rattle.repo_model.specs.declared.entry.Entry.{Entry}
use Rattle.repo_model.specs.declared.reply.Cause.{Cause}
use Rattle.repo_model.specs.declared.reply.Fault.{Fault}
use Rattle.repo_model.specs.declared.reply.Refusal.{Refusal}
use Rattle.repo_model.specs.declared.reply.Refusal.TheVariants as refusal
use Rattle.repo_model.specs.declared.reply.Reply.{Reply}
use Rattle.repo_model.specs.declared.reply.Reply.TheVariants as reply
use Rattle.repo_model.specs.State.{State}
use Rattle.repo_model.specs.Plain.{config_of}
use Rattle.http_front.specs.Sound.{IsUndamaged}
use Rattle.http_front.proofs.OneOutcome.{TellsNoDamage}
use Rattle.repo_model.specs.History.{content_key}
use Rattle.http_front.specs.Contents.{Contents, with_content}
use Rattle.http_front.specs.TurnLaws.{ends_upload}
use Rattle.http_front.specs.Turns.{FollowsAt}
use Rattle.nx_base.specs.declared.key.Key.{Key}
use Rattle.disk_model.specs.Disk.{Same}
use Rattle.repo_session.specs.Others.{IsBlobName, OthersStay}
use Rattle.repo_core.specs.declared.own.Own.{Own}
use Rattle.repo_core.specs.Answers.{IsFull, HasRoom, reply_of, entry_of}
use Rattle.repo_core.specs.Asks.{Ask, EntersOne, asks, asks_to_store, puts, SetsRow, Timestamps, TouchesNew, TouchesNone, TouchesRow}
use Rattle.repo_core.specs.Called as core
use Rattle.repo_core.specs.Devices.{Devices}
use Rattle.repo_core.specs.Faults.{IsDisk, IsKeeper, RefusedBy}
use Rattle.repo_core.specs.Puts.{MayGo, AreBytes, next_ref, put_for, upload_of}
use Rattle.repo_core.specs.Returned.{GaveBack}
use Rattle.repo_core.specs.Standing.{Tracks, Moves}
use Rattle.repo_core.specs.Survives.{Survives}
use Rattle.repo_core.specs.View.{CoreView}
use Rattle.repo_session.specs.Called.{Since, HasDeviceCause, Called}
use Rattle.repo_session.specs.Leads.{LeadsBy}
use Rattle.repo_session.specs.Resting.{Rests}
use Rattle.repo_session.specs.Standing.{Stands}
use Rattle.repo_session.proofs.Leading.{IsAsked}
use Rattle.repo_session.proofs.Standings.{stands_same, tracks_same, leads_plain, leads_put, was_sound}

-- a reply that doesn't refuse tells of no device
abbrev pub IsNoRefusal : Reply → Type 0
IsNoRefusal said = (said ≢ reply.Refused refusal.DiskFault) × (said ≢ reply.Refused refusal.KeeperFault)

refusal_is : (a b : Refusal) → reply.Refused a ≡ reply.Refused b → a ≡ b
refusal_is a b e = cc

-- a refusal by that device has its cause
caused : {A : Type 0} (Is : Fault → Type 0) (why : Refusal) (Cause : Type 0) (says : A → Reply) (result : Result A Refusal) → RefusedBy Is why
    → ((value : A) → says value ≢ reply.Refused why) → IfErr result (λ e. RefusedBy Is e → Cause) → reply_of says result ≡ reply.Refused why → Cause
caused Is why Cause says (Ok value) by never failed is = absurd (never value is)
caused Is why Cause says (Err other) by never failed is = failed (subst (λ (r : Refusal). RefusedBy Is r) (sym (refusal_is other why is)) by)

-- an answer of a core that tells of no damage is such a reply
pub undamaged : {A : Type 0} (says : A → Reply) (result : Result A Refusal) → ((value : A) → IsUndamaged (says value))
    → ((size : ℕ) (found : Option ℕ) → result ≢ Err (refusal.Damaged size found)) → IsUndamaged (reply_of says result)
undamaged says (Ok value) never whole = never value
undamaged says (Err why) never whole = λ size found is. whole size found (ap (λ (r : Refusal). Err r) (refusal_is why (refusal.Damaged size found) is))

-- the answer of a deletion that was done tells of none
pub gone_undamaged : IsUndamaged reply.Gone
gone_undamaged size found e = cc

-- the names that a call may touch are those of blobs

pub none_named : (s : State) (n : List ℕ) → TouchesNone s n → IsBlobName n
none_named s n touched = absurd touched

pub row_named : (key : Key) (s : State) (n : List ℕ) → TouchesRow key s n → IsBlobName n
row_named key s n (asset, row, is) = (asset.blob, inr is)

new_named : (store : List ℕ) (key : Key) (moment : Moment) (s : State) (n : List ℕ) → TouchesNew store key moment s n → IsBlobName n
new_named store key moment s n (inl is) = (next_ref store s.last moment, inl is)
new_named store key moment s n (inr (inl is)) = (next_ref store s.last moment, inr is)
new_named store key moment s n (inr (inr touched)) = row_named key s n touched

-- an answer that stores nothing
pub stores_nothing : {A : Type 0} (says : A → Reply) (result : Result A Refusal) → ((value : A) (made : Asset) → says value ≢ reply.Stored made)
    → (made : Asset) → reply_of says result ≢ reply.Stored made
stores_nothing says (Ok value) never made is = never value made is
stores_nothing says (Err why) never made is = cc

module _ {D T A : Type 0} (on : Devices D T) (ask : Ask D A) (old new : CoreView D T) (result : Result A Refusal) (done : core.Called on ask old new result) where
  -- where the journal is full, all but the disk stays
  abbrev whole : IsFull old.journal → new ≡ record old { disk = new.disk }
  whole full =
      (done.full full).0.rest
      ∙ ap (λ (j : _). record old { disk = new.disk; journal = j })
      (done.journal ∙ ap (λ (l : List Entry). core.with_entries old.journal l) (done.full full).1 ∙ ap (λ (l : List Entry). record old.journal { entries = l }) (append-nil old.journal.entries))

  -- A call that makes one entry. `after` is what it makes of the contents, where the journal is full and where it has room.
  called_by : (c : Call) (store : List ℕ) (says : A → Reply) (after : Contents → Contents) → ((value : A) → IsNoRefusal (says value))
      → ((entries : List Entry) → ask.enters result entries → EntersOne 0 c says result entries)
      → (on.told → ask.premise) → (on.told → ask.gives_up old.disk new.disk → Same (on.tree old.disk) (on.tree new.disk)) → ((s : State) (n : List ℕ) → ask.touches s n → IsBlobName n)
      → Survives on ask old new result
      → (on.told → IsFull old.journal → (s : State) (contents : Contents) → Stands on old s contents → Stands on new s (after contents))
      → (on.told → IsSome (on.table new.table) → HasRoom old.journal → (s : State) (contents : Contents) → Stands on old s contents
      → (next : State) × FollowsAt (config_of old.config) (length old.journal.entries) s store (entry_of 0 c says result) next × Stands on new next (after contents))
      → Called on old new c store (reply_of says result) after
  called_by c store says after never one premise gives blobs survives full room = elim (cases_lt (length old.journal.entries) old.journal.room) [
    | inl fits ↦ record {
      entries = done.entries;
      made = inl (fits, one done.entries (done.enters fits));
      since = since (λ cause is. ap (λ (k : CoreView D T). k.broken) (done.broken cause fits is).rest);
      cause = cause;
      leads = λ told some s contents stands.
          let next = room told some fits s contents stands in
          (next.0, subst (λ (l : List Entry). LeadsBy (config_of old.config) (length old.journal.entries) s store l next.0) (sym (one done.entries (done.enters fits))) (next.1, refl), next.2);
    }
    | inr none ↦ record {
      entries = done.entries;
      made = inr (none, (done.full none).1, ap (λ (r : Result A Refusal). reply_of says r) (done.full none).0.answer);
      since = since (λ cause is. ap (λ (k : CoreView D T). k.broken) (whole none));
      cause = cause;
      leads = λ told some s contents stands.
          (s, subst (λ (l : List Entry). LeadsBy (config_of old.config) (length old.journal.entries) s store l s) (sym (done.full none).1) refl, full told none s contents stands);
    }
  ]
    where
      cause : HasDeviceCause on old new (reply_of says result)
      cause = record {
        disk = caused IsDisk refusal.DiskFault _ says result tt (λ v. (never v).0) done.disk_cause.failed;
        keeper = caused IsKeeper refusal.KeeperFault _ says result tt (λ v. (never v).1) done.keeper_cause.failed;
      }

      since : ((cause : Cause) → old.broken ≡ Some cause → new.broken ≡ old.broken) → Since on old new done.entries
      since stays = record {
        journal = done.journal;
        config = done.config;
        tells = done.tells;
        disk_later = done.disk_cause.later;
        keeper_later = done.keeper_cause.later;
        broken = λ cause is. stays cause is ∙ is;
        disk_broke = λ cause none broke. (done.breaks cause none broke).disk;
        keeper_broke = λ cause none broke. (done.breaks cause none broke).keeper;
        durable = survives.durable;
        others = others;
      }
        where
          stay : on.told → IsSome (on.table new.table) → HasRoom old.journal → (s : State) → Tracks on.tree on.table old s → (o : Option Cause) → old.broken ≡ o
              → OthersStay (on.tree old.disk) (on.tree new.disk)
          stay told some fits s tracks None is = λ n out no. (survives.rest told some (premise told) s tracks is).files n out (λ touched. no (blobs s n touched))
          stay told some fits s tracks (Some cause) is = λ n out no. gives told (done.broken cause fits is).given_up n out

          others : on.told → IsSome (on.table new.table) → (s : State) → Tracks on.tree on.table old s
              → (next : State) × Tracks on.tree on.table new next × OthersStay (on.tree old.disk) (on.tree new.disk)
          others told some s tracks = elim (cases_lt (length old.journal.entries) old.journal.room) [
            | inl fits ↦ let moved = done.moves told some fits (premise told) s tracks in (moved.next, moved.tracks, stay told some fits s tracks old.broken refl)
            | inr none ↦
                let same = gives told (done.full none).0.given_up in
                (s, tracks_same on old new s (λ i. record (whole none i) { holds = new.holds }) same tracks, λ n out no. same n out)
          ]

module _ {D T A : Type 0} (on : Devices D T) (old new : CoreView D T) (c : Call) (says : A → Reply) (touches : State → List ℕ → Type 0) (alters : Table → Table → Type 0) (keeps : Own → Own → Type 0) (result : Result A Refusal) where
  -- by its entry the state leads on
  pub moves_of : core.Called on (asks 0 c says touches alters keeps) old new result → on.told → IsSome (on.table new.table) → HasRoom old.journal → (s : State) → Tracks on.tree on.table old s
      → Moves on.tree on.table old new (entry_of 0 c says result ∷ []) s
  moves_of done told some room s tracks =
      let moved : core.Moved on None old new (entry_of 0 c says result ∷ []) s = subst (λ (l : List Entry). core.Moved on None old new l s) (done.enters room) (done.moves told some room tt s tracks) in
      (moved.next, (moved.next, moved.leads.0, refl), moved.tracks)

  -- A call that ends no upload and stores nothing.
  pub asked_plain : IsAsked c → ends_upload c ≡ false → ((s : State) (n : List ℕ) → touches s n → IsBlobName n) → (on.told → IsSome (on.table new.table) → (s : State) → Tracks on.tree on.table old s → TellsNoDamage c (reply_of says result)) → ((value : A) → IsNoRefusal (says value)) → ((value : A) (made : Asset) → says value ≢ reply.Stored made)
      → core.Called on (asks 0 c says touches alters keeps) old new result → Survives on (asks 0 c says touches alters keeps) old new result
      → Called on old new c [] (reply_of says result) (λ contents. contents)
  asked_plain asked ends blobs whole_of refuses stores done survives =
      called_by on (asks 0 c says touches alters keeps) old new result done c [] says (λ contents. contents) refuses (λ entries one. one)
      (λ told. tt) (λ told is n out. ap (λ (d : D). on.tree d n) is) blobs survives
      (λ told full s contents stands.
      let same : new ≡ old = whole on (asks 0 c says touches alters keeps) old new result done full ∙ ap (λ (d : D). record old { disk = d }) (done.full full).0.given_up in
      subst (λ (k : CoreView D T). Stands on k s contents) (sym same) stands)
      (λ told some room s contents stands.
      leads_plain on old new s contents c (reply_of says result) asked ends (whole_of told some s stands.tracks) (stores_nothing says result stores) (moves_of done told some room s stands.tracks) stands
      (was_sound on old new (λ cause is. (done.broken cause room is).rest))
      (survives.stays told))

module _ {D T : Type 0} (on : Devices D T) (old new : CoreView D T) (c : Call) (touches : State → List ℕ → Type 0) (alters : Table → Table → Type 0) (keeps : Own → Own → Type 0) (result : Result Asset Refusal) where
  abbrev stored : Asset → Reply
  stored asset = reply.Stored asset

  -- A call that stores an upload.
  pub asked_to_store : IsAsked c → content_key c ≡ None → ((s : State) (n : List ℕ) → touches s n → IsBlobName n) → (store content : List ℕ) (premise : Type 0) → (on.told → premise)
      → (on.told → IfOk result (λ (asset : Asset). on.tree new.disk (bytes_name asset.blob) ≡ Some content))
      → core.Called on (asks_to_store on 0 c stored touches alters keeps store premise) old new result → Survives on (asks_to_store on 0 c stored touches alters keeps store premise) old new result
      → Called on old new c store (reply_of stored result) (λ contents. with_content (reply_of stored result) content contents)
  asked_to_store asked none blobs store content premise holds made done survives =
      let ask = asks_to_store on 0 c stored touches alters keeps store premise in
      called_by on ask old new result done c store stored (λ contents. with_content (reply_of stored result) content contents) (λ v. (λ e. cc, λ e. cc)) (λ entries one. one)
      holds (λ told back. back.quiet.files told) blobs survives
      (λ told full s contents stands.
      subst (λ (l : Contents). Stands on new s l) (sym (ap (λ (r : Result Asset Refusal). with_content (reply_of stored r) content contents) (done.full full).0.answer))
      (stands_same on old new s contents (λ i. record (whole on ask old new result done full i) { holds = new.holds })
      (λ none. (done.full full).0.given_up.quiet.files told) stands))
      (λ told some room s contents stands.
      let moved : core.Moved on (Some store) old new (entry_of 0 c stored result ∷ []) s =
      subst (λ (l : List Entry). core.Moved on (Some store) old new l s) (done.enters room) (done.moves told some room (holds told) s stands.tracks) in
      leads_put on old new s contents c store content result asked none
      (moved.next, (moved.next, moved.leads.0, refl), moved.tracks, moved.leads.2) stands
      (was_sound on old new (λ cause is. (done.broken cause room is).rest))
      (survives.stays told) (made told))

-- A part of a file was given back to the core's disk.
pub rests_back : {D T : Type 0} (on : Devices D T) (old new : CoreView D T) (faults : ℕ) → GaveBack on old new faults → Rests on old new
rests_back on old new faults back = record {
  same = back.rest;
  later = back.cause.later;
  durable = back.durable;
  files = back.quiet.files;
  tracks = back.stands;
  stands = λ told s contents stands. stands_same on old new s contents back.rest (λ none. back.quiet.files told) stands;
}

-- An upload that is ready was put.
pub asked_put : {D T S : Type 0} (on : Devices D T) (content_of : S → List ℕ) (old new : CoreView D T) (ready : Ready S) (moment : Moment) (result : Result Asset Refusal)
    → core.Called on (puts on content_of (config_of old.config) 0 ready moment) old new result → Survives on (puts on content_of (config_of old.config) 0 ready moment) old new result
    → (on.told → IfOk result (λ (asset : Asset). on.tree new.disk (bytes_name asset.blob) ≡ Some (content_of ready.file)))
    → MayGo (config_of old.config) ready.begin.key ready.store → (content : List ℕ) → (on.told → AreBytes (upload_of ready) content × (content_of ready.file ≡ content))
    → Called on old new (put_for (upload_of ready) moment) ready.store (reply_of (λ (asset : Asset). reply.Stored asset) result) (λ contents. with_content (reply_of (λ (asset : Asset). reply.Stored asset) result) content contents)
asked_put on content_of old new ready moment result done survives made may content are =
    asked_to_store on old new (put_for (upload_of ready) moment) (TouchesNew ready.store ready.begin.key moment) (SetsRow ready.begin.key) (Timestamps ready.begin.key moment) result tt refl (new_named ready.store ready.begin.key moment) ready.store content
    (MayGo (config_of old.config) ready.begin.key ready.store × AreBytes (upload_of ready) (content_of ready.file))
    (λ told. (may, subst (λ (l : List ℕ). AreBytes (upload_of ready) l) (sym (are told).1) (are told).0))
    (λ told. subst (λ (l : List ℕ). IfOk result (λ (asset : Asset). on.tree new.disk (bytes_name asset.blob) ≡ Some l)) (are told).1 (made told))
    done survives
