-- For what a core stands behind a call, with the contents of its blobs.
use Rattle.std.proofs.Common.{◌≡◌, ◌≢◌, inl, inr, ℕ, ◌≤◌, false, List, [], ◌∷◌, ◌++◌, length, IfOk, Option, Some, None, Result, Ok, Err, refl, sym, ◌∙◌, ap, subst, arith, append-nil}
use Rattle.nx_base.specs.declared.asset.Asset.{Asset}
use Rattle.nx_base.specs.declared.blob_ref.BlobRef.{BlobRef}
use Rattle.disk_model.specs.Disk.{Tree, Same}
use Rattle.tree_content.specs.Blobs.{bytes_name}
use Rattle.repo_model.specs.declared.call.Call.{Call}
use Rattle.repo_model.specs.declared.entry.Entry.{Entry}
use Rattle.repo_model.specs.declared.reply.Cause.{Cause}
use Rattle.repo_model.specs.declared.reply.Refusal.{Refusal}
use Rattle.repo_model.specs.declared.reply.Reply.{Reply}
use Rattle.repo_model.specs.declared.reply.Reply.TheVariants as reply
use Rattle.repo_model.specs.Config.{Config}
use Rattle.repo_model.specs.State.{State}
use Rattle.repo_model.specs.History.{Follows, content_key}
use Rattle.repo_model.specs.Plain.{config_of}
use Rattle.http_front.specs.Contents.{Contents, with_content}
use Rattle.http_front.specs.Served.{Has}
use Rattle.http_front.specs.TurnLaws.{ends_upload}
use Rattle.http_front.specs.Turns.{FollowsAt}
use Rattle.http_front.proofs.OneOutcome.{TellsNoDamage, follows_at}
use Rattle.repo_core.specs.View.{CoreView}
use Rattle.repo_core.specs.Agree.{FilesAgree}
use Rattle.repo_core.specs.Answers.{entry_of, reply_of}
use Rattle.repo_core.specs.Devices.{Devices}
use Rattle.repo_core.specs.Standing.{Tracks, Moves, MovesAt}
use Rattle.repo_core.specs.Stays.{BytesStay}
use Rattle.repo_core.proofs.Samenesses.{files_same}
use Rattle.repo_core.proofs.Stays.{stay_same}
use Rattle.repo_session.specs.Standing.{IsHeld, AreHeld, Stands}
use Rattle.repo_session.proofs.Held.{row_reads, row_held, joined, has_before, new_held}
use Rattle.repo_session.proofs.Leading.{IsAsked, Leads, leads_of, follows_store}

-- what is held is held in files of which nothing can be seen to have changed
held_same : (config : Config) (tree new : Tree) (s : State) (contents : Contents) → FilesAgree config tree s → Same tree new → AreHeld tree s.rows contents → AreHeld new s.rows contents
held_same config tree new s contents a same held = λ key asset row.
    let at = row_reads config tree s key asset a row in
    let was = held key asset row in
    record { there = was.there; file = stay_same tree new same asset.blob at.0 at.1 ∙ was.file }

module _ {D T : Type 0} (devices : Devices D T) where
  -- a core with such files, that is the same else but for who holds what, tracks the same
  moved_tracks : (old new : CoreView D T) (s : State) → (old.broken ≡ None → Same (devices.tree old.disk) (devices.tree new.disk)) → Tracks devices.tree devices.table old s
      → Tracks devices.tree devices.table (record old { disk = new.disk; holds = new.holds }) s
  moved_tracks old new s same tracks = record {
    broken = tracks.broken;
    agrees = λ none.
        let a = tracks.agrees none in
        record {
          sound = a.sound;
          files = files_same (config_of old.config) (devices.tree old.disk) (devices.tree new.disk) s (same none) a.files;
          rows_are = a.rows_are;
          trash_are = a.trash_are;
          notes_are = a.notes_are;
          last_are = a.last_are;
          counts_are = a.counts_are;
        };
  }

  pub tracks_same : (old new : CoreView D T) (s : State) → new ≡ record old { disk = new.disk; holds = new.holds }
      → Same (devices.tree old.disk) (devices.tree new.disk) → Tracks devices.tree devices.table old s → Tracks devices.tree devices.table new s
  tracks_same old new s is same tracks =
      subst (λ (core : CoreView D T). Tracks devices.tree devices.table core s) (sym is) (moved_tracks old new s (λ none. same) tracks)

  -- and stands for the same
  pub stands_same : (old new : CoreView D T) (s : State) (contents : Contents) → new ≡ record old { disk = new.disk; holds = new.holds }
      → (new.broken ≡ None → Same (devices.tree old.disk) (devices.tree new.disk)) → Stands devices old s contents → Stands devices new s contents
  stands_same old new s contents is same stands =
      let broken : new.broken ≡ old.broken = ap (λ (core : CoreView D T). core.broken) is in
      subst (λ (core : CoreView D T). Stands devices core s contents) (sym is) (record {
        tracks = moved_tracks old new s (λ none. same (broken ∙ none)) stands.tracks;
        held = λ none.
            held_same (config_of old.config) (devices.tree old.disk) (devices.tree new.disk) s contents (stands.tracks.agrees none).files (same (broken ∙ none)) (stands.held none);
        older = stands.older;
      })

  -- a core that isn't broken wasn't, if of a broken one all but journal and disk stays
  pub was_sound : (old new : CoreView D T) → ((cause : Cause) → old.broken ≡ Some cause → new ≡ record old { disk = new.disk; journal = new.journal }) → new.broken ≡ None → old.broken ≡ None
  was_sound old new stays none = by old.broken refl
    where
      by : (o : Option Cause) → old.broken ≡ o → old.broken ≡ None
      by None is = is
      by (Some cause) is = sym (ap (λ (core : CoreView D T). core.broken) (stays cause is)) ∙ none

  -- Behind an entry the new core stands for the new state, and for the contents with those that joined, if they hold what was stored.
  stands_after : (old new : CoreView D T) (s t : State) (contents more : Contents) (said : Reply) → Stands devices old s contents → Tracks devices.tree devices.table new t → Leads s said t
      → (new.broken ≡ None → old.broken ≡ None) → (new.broken ≡ None → BytesStay (devices.tree old.disk) (devices.tree new.disk))
      → ((made : Asset) → said ≡ reply.Stored made → IsHeld (devices.tree new.disk) (contents ++ more) made.blob)
      → ((blob : BlobRef) → Has (contents ++ more) blob → blob.timestamp ≤ t.last)
      → Stands devices new t (contents ++ more)
  stands_after old new s t contents more said stands tracks leads back stays made older = record {
    tracks = tracks;
    held = λ none key asset row.
        elim (leads.rows key asset row) [
          | inl named ↦
              row_held (config_of old.config) (devices.tree old.disk) (devices.tree new.disk) s contents more named.key named.old asset.blob
              (stands.tracks.agrees (back none)).files (stays none) (stands.held (back none)) named.row named.same
          | inr stored ↦ subst (λ (b : BlobRef). IsHeld (devices.tree new.disk) (contents ++ more) b) stored.2 (made stored.0 stored.1)
        ];
    older = older;
  }

  -- nothing was stored
  pub stands_plain : (old new : CoreView D T) (s t : State) (contents : Contents) (said : Reply) → Stands devices old s contents → Tracks devices.tree devices.table new t → Leads s said t
      → (new.broken ≡ None → old.broken ≡ None) → (new.broken ≡ None → BytesStay (devices.tree old.disk) (devices.tree new.disk))
      → ((made : Asset) → said ≢ reply.Stored made) → Stands devices new t contents
  stands_plain old new s t contents said stands tracks leads back stays never =
      subst (λ (l : Contents). Stands devices new t l) (append-nil contents)
      (stands_after old new s t contents [] said stands tracks leads back stays (λ made is. absurd (never made is)) (λ blob has.
      let before = stands.older blob (subst (λ (l : Contents). Has l blob) (append-nil contents) has) in
      let rising = leads.rising in
      omega (arith, before, rising)))

  -- the content of an asset was
  pub stands_stored : (old new : CoreView D T) (s t : State) (contents : Contents) (asset : Asset) (content : List ℕ) → Stands devices old s contents
      → Tracks devices.tree devices.table new t → Leads s (reply.Stored asset) t
      → (new.broken ≡ None → old.broken ≡ None) → (new.broken ≡ None → BytesStay (devices.tree old.disk) (devices.tree new.disk))
      → devices.tree new.disk (bytes_name asset.blob) ≡ Some content → Stands devices new t (contents ++ (asset.blob, content) ∷ [])
  stands_stored old new s t contents asset content stands tracks leads back stays file =
      let newest = leads.newest asset refl in
      let none : Has contents asset.blob → ⊥ = λ has. let before = stands.older asset.blob has in let above = newest.0 in omega (arith, before, above) in
      stands_after old new s t contents ((asset.blob, content) ∷ []) (reply.Stored asset) stands tracks leads back stays
      (λ made is.
      subst (λ (b : BlobRef). IsHeld (devices.tree new.disk) (joined contents asset.blob content) b) (same_blob asset made is)
      (new_held (devices.tree new.disk) contents asset.blob content none file))
      (λ blob has.
      elim (has_before contents asset.blob blob content has) [
        | inl was ↦ let before = stands.older blob was in let rising = leads.rising in omega (arith, before, rising)
        | inr is ↦ subst (λ (b : BlobRef). b.timestamp ≤ t.last) is (let at = newest.1 in omega (arith, at))
      ])
    where
      same_blob : (a b : Asset) → reply.Stored a ≡ reply.Stored b → a.blob ≡ b.blob
      same_blob a b e = let is : a ≡ b = cc in ap (λ (x : Asset). x.blob) is

  -- A call that ends no upload and stores nothing leads on by its entry.
  pub leads_plain : (old new : CoreView D T) (s : State) (contents : Contents) (c : Call) (said : Reply) → IsAsked c → ends_upload c ≡ false → TellsNoDamage c said → ((made : Asset) → said ≢ reply.Stored made)
      → Moves devices.tree devices.table old new (record { caller = 0; call = c; reply = said } ∷ []) s → Stands devices old s contents
      → (new.broken ≡ None → old.broken ≡ None) → (new.broken ≡ None → BytesStay (devices.tree old.disk) (devices.tree new.disk))
      → (next : State) × FollowsAt (config_of old.config) (length old.journal.entries) s [] (record { caller = 0; call = c; reply = said }) next × Stands devices new next contents
  leads_plain old new s contents c said asked one whole never (t, (mid, follows, is), tracks) stands back stays =
      let entry : Entry = record { caller = 0; call = c; reply = said } in
      let config = config_of old.config in
      let number = length old.journal.entries in
      let here : Follows config number s entry t = subst (λ (x : State). Follows config number s entry x) (sym is) follows in (
        t,
        follows_at config number s entry t here one whole [],
        stands_plain old new s t contents said stands tracks (leads_of config number s entry t asked here) back stays never,
      )

  -- A put leads on by its entry, at the store of its upload.
  pub leads_put : (old new : CoreView D T) (s : State) (contents : Contents) (c : Call) (store : List ℕ) (content : List ℕ) (result : Result Asset Refusal) → IsAsked c → content_key c ≡ None
      → MovesAt devices.tree devices.table old new store (entry_of 0 c (λ asset. reply.Stored asset) result) s → Stands devices old s contents
      → (new.broken ≡ None → old.broken ≡ None) → (new.broken ≡ None → BytesStay (devices.tree old.disk) (devices.tree new.disk))
      → IfOk result (λ asset. devices.tree new.disk (bytes_name asset.blob) ≡ Some content)
      → (next : State) × FollowsAt (config_of old.config) (length old.journal.entries) s store (entry_of 0 c (λ asset. reply.Stored asset) result) next
      × Stands devices new next (with_content (reply_of (λ asset. reply.Stored asset) result) content contents)
  leads_put old new s contents c store content (Ok asset) asked none (t, (mid, follows, is), tracks, at) stands back stays made =
      let entry : Entry = record { caller = 0; call = c; reply = reply.Stored asset } in
      let config = config_of old.config in
      let number = length old.journal.entries in
      let here : Follows config number s entry t = subst (λ (x : State). Follows config number s entry x) (sym is) follows in (
        t,
        follows_store config number s entry t store asked (inl none) here at,
        stands_stored old new s t contents asset content stands tracks (leads_of config number s entry t asked here) back stays made,
      )
  leads_put old new s contents c store content (Err why) asked none (t, (mid, follows, is), tracks, at) stands back stays made =
      let entry : Entry = record { caller = 0; call = c; reply = reply.Refused why } in
      let config = config_of old.config in
      let number = length old.journal.entries in
      let here : Follows config number s entry t = subst (λ (x : State). Follows config number s entry x) (sym is) follows in (
        t,
        follows_store config number s entry t store asked (inl none) here at,
        stands_plain old new s t contents (reply.Refused why) stands tracks (leads_of config number s entry t asked here) back stays (λ made is. cc),
      )
