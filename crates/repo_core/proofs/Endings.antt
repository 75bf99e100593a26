-- How a put that was made ready ends.
use Rattle.std.proofs.Common.{◌≡◌, ◌⊎◌, inl, inr, ⊎_elim, ◌<◌, ℕ, List, codes, Option, Some, None, refl, sym, ◌∙◌, ap, subst}
use Rattle.std.specs.FinMap as map
use Rattle.nx_base.specs.Given.{given}
use Rattle.nx_base.specs.Order.{key_cmp, age_cmp}
use Rattle.nx_base.specs.declared.key.Key.{Key}
use Rattle.nx_base.specs.declared.asset.Asset.{Asset}
use Rattle.nx_base.specs.declared.moment.Moment.{Moment}
use Rattle.nx_base.specs.declared.blob_ref.BlobRef.{BlobRef}
use Rattle.repo_model.specs.declared.deletion.Deletion.{Deletion}
use Rattle.repo_model.specs.declared.upload.Upload.{Upload}
use Rattle.repo_model.specs.declared.reply.Reply.TheVariants as reply
use Rattle.repo_model.specs.Config.{Config}
use Rattle.repo_model.specs.State.{State, row_of}
use Rattle.repo_model.specs.Timestamps.{time_of, next_timestamp}
use Rattle.repo_model.specs.Outcome.{answered}
use Rattle.repo_model.specs.Storing.{with_asset, new_asset}
use Rattle.repo_model.specs.Deleting.{discarded}
use Rattle.repo_model.specs.Step.{outcome}
use Rattle.disk_model.specs.Disk.{Tree, Lists, Same, Rest}
use Rattle.disk_model.specs.Moments.{During, MayPut, Settled, EachImage}
use Rattle.disk_model.proofs.Chain.{weaker, and_then}
use Rattle.blob_paths.specs.Places.{place_of}
use Rattle.blob_properties.specs.Props.{with_mark}
use Rattle.blob_properties.specs.Readable.{marked_text_of}
use Rattle.tree_content.specs.Blobs.{Reads, bytes_at, props_at, props_name}
use Rattle.tree_content.specs.Contents.{HasContents}
use Rattle.tree_content.specs.Files.{RestOfPlace, Creates, IsCreatedIn}
use Rattle.tree_content.proofs.Alone.{alone, alone_settled, alone_image, alone_put}
use Rattle.repo_core.specs.declared.marking.Mark.{Mark}
use Rattle.repo_core.specs.declared.staging.Staged.{Staged}
use Rattle.repo_core.specs.declared.own.Own.{Own}
use Rattle.repo_core.specs.Agree.{FilesAgree, Agrees}
use Rattle.repo_core.specs.Marks.{IsMarkOf}
use Rattle.repo_core.specs.Puts.{put_for, next_ref, props_of, MayGo, AreBytes, IsPrepared}
use Rattle.repo_core.specs.Rows.{contents_in}
use Rattle.repo_core.specs.Stores.{homes_of}
use Rattle.repo_core.specs.Standing.{ImageBeforeOrAfter, IsHalfway}
use Rattle.repo_core.proofs.Creatings.{Makes, files_created, files_replaced}
use Rattle.repo_core.proofs.Puttings.{later_timestamp}
use Rattle.repo_core.proofs.Halfways.{one_of}
use Rattle.repo_core.proofs.Givings.{its_props}
use Rattle.repo_core.proofs.Replacings.{makes, no_old, its_old, no_trash, crash_created, tree_created, image_replaced}

module _ {S : Type 0} (content : S → List ℕ) (config : Config) (tree : Tree) (s : State) (store : List ℕ) (upload : Upload) (moment : Moment) (own kept : Own) (staged : Staged S)
    (rows : map.FinMap key_cmp Asset) (a : Agrees config tree rows own s) (may : MayGo config upload.key store) (p : IsPrepared content config tree s store upload moment own kept staged)
    (bytes : List ℕ) (are : AreBytes upload bytes) where
  abbrev blob : BlobRef
  blob = next_ref store s.last moment

  abbrev key : Key
  key = upload.key

  abbrev pub new_one : Asset
  new_one = new_asset upload blob (next_timestamp s.last moment.now)

  abbrev at : ℕ
  at = time_of moment.now

  abbrev after : State
  after = with_asset s key new_one at

  later : s.last < blob.timestamp
  later = later_timestamp s.last moment.now

  put_outcome : outcome config s store (put_for upload moment) ≡ answered after (reply.Stored staged.new.asset)
  put_outcome = p.step ∙ ap (λ (x : Asset). answered after (reply.Stored x)) (sym p.new.asset_is)

  -- while the files are shown
  pub crash_one : {D : Type 0} (clock : D → ℕ) (lists : D → ℕ → Lists) (d0 d1 d2 : D) (before : Tree) → Same tree before → Settled tree (lists d0 (clock d0))
      → During clock lists d0 d1 (Same (lists d0 (clock d0))) → During clock lists d1 d2 (Creates staged.new.files.place bytes staged.new.text.items (lists d1 (clock d1)))
      → During clock lists d0 d2 (EachImage (ImageBeforeOrAfter config s store (put_for upload moment)))
  crash_one clock lists d0 d1 d2 before same settled first second =
      crash_created config tree s a.files upload blob new_one refl later staged.new p.new p.free clock lists d0 d1 d2 store (put_for upload moment) after (reply.Stored staged.new.asset) before bytes
      put_outcome refl refl same settled first second

  -- stopped while they are shown, the put leaves files and rows as before or after
  pub halfway_one : (before now : Tree) → Same tree before → IsCreatedIn staged.new.files.place bytes staged.new.text.items before now
      → (rows_now : map.FinMap key_cmp Asset) → (rows_now ≡ s.rows) ⊎ (rows_now ≡ map.insert s.rows key new_one) → IsHalfway config s store (put_for upload moment) now rows_now
  halfway_one before now same created rows_now rows_are = record {
    files = one_of config s store (put_for upload moment) (λ (t : State). HasContents (homes_of config) (contents_in t.rows) now) after (reply.Stored staged.new.asset) put_outcome refl
        (tree_created config tree s a.files upload blob new_one refl later staged.new p.new p.free before now bytes same created);
    rows_are = one_of config s store (put_for upload moment) (λ (t : State). rows_now ≡ t.rows) after (reply.Stored staged.new.asset) put_outcome refl rows_are;
  }

  module _ (before mid : Tree) (same : Same tree before) (its_bytes : mid (bytes_at staged.new.files.place) ≡ Some bytes) (its_text : mid (props_at staged.new.files.place) ≡ Some staged.new.text.items)
      (rest : RestOfPlace staged.new.files.place before mid) where
    made : Makes config tree mid key blob (props_of upload blob.timestamp)
    made = makes config upload store blob refl may staged.new p.new bytes are tree before mid p.free same its_bytes its_text rest

    agrees : (now : Tree) (rows_now : map.FinMap key_cmp Asset) → rows_now ≡ map.insert rows key new_one → FilesAgree config now after
        → kept.trash ≡ after.trash → kept.notes ≡ own.notes → kept.counts ≡ own.counts → Agrees config now rows_now (record kept { last = staged.new.asset.blob.timestamp }) after
    agrees now rows_now rows_are files trash notes counts = record {
      sound = a.sound;
      files = files;
      rows_are = rows_are ∙ ap (λ (r : map.FinMap key_cmp Asset). map.insert r key new_one) a.rows_are;
      trash_are = trash;
      notes_are = notes ∙ a.notes_are;
      last_are = ap (λ (x : Asset). x.blob.timestamp) p.new.asset_is;
      counts_are = counts ∙ a.counts_are;
    }

    -- the first content of its key
    pub put_first : (rows_now : map.FinMap key_cmp Asset) → rows_now ≡ map.insert rows key new_one → staged.mark ≡ None
        → (new : State) × (outcome config s store (put_for upload moment) ≡ answered new (reply.Stored staged.new.asset)) × Agrees config mid rows_now (record kept { last = staged.new.asset.blob.timestamp }) new
    put_first rows_now rows_are none =
        let row : row_of s key ≡ None = no_old content config tree s a.files key p.old at staged.mark p.row p.mark none in
        let trash : after.trash ≡ s.trash = ap (λ (o : Option Asset). given o s.trash (λ old. discarded s.trash key old at)) row in
        let own_is = no_trash own kept key at p.old staged.mark none p.trash in (
          after,
          put_outcome,
          agrees mid rows_now rows_are (files_created config tree mid s a.files key new_one (props_of upload blob.timestamp) made refl later row after.trash trash)
              (ap (λ (o : Own). o.trash) own_is ∙ a.trash_are ∙ sym trash) (ap (λ (o : Own). o.notes) own_is) (ap (λ (o : Own). o.counts) own_is),
        )

    module _ (mark : Mark S) (is : staged.mark ≡ Some mark) where
      old : (asset : Asset) × (row_of s key ≡ Some asset) × IsMarkOf content tree asset.blob (codes "Replaced") at mark × (kept ≡ record own { trash = discarded own.trash key asset at })
      old = its_old content tree s key own kept p.old at staged.mark mark p.row p.mark p.trash is

      abbrev text : List ℕ
      text = marked_text_of old.2.props (codes "Replaced") at

      was : Reads tree old.0.blob old.2.props
      was = (its_props config tree s a.files key old.0 old.1 old.2.text old.2.props old.2.was old.2.read).0

      name_is : props_at mark.files.place ≡ props_name old.0.blob
      name_is = ap props_at old.2.place_is

      -- a content in place of another
      pub put_again : (now : Tree) (rows_now : map.FinMap key_cmp Asset) → rows_now ≡ map.insert rows key new_one → now (props_at mark.files.place) ≡ Some (content mark.file) → Rest (props_at mark.files.place) mid now
          → (new : State) × (outcome config s store (put_for upload moment) ≡ answered new (reply.Stored staged.new.asset)) × Agrees config now rows_now (record kept { last = staged.new.asset.blob.timestamp }) new
      put_again now rows_now rows_are named others =
          let trash : after.trash ≡ discarded s.trash key old.0 at = ap (λ (o : Option Asset). given o s.trash (λ x. discarded s.trash key x at)) old.1 in
          let marked : Reads now old.0.blob (with_mark old.2.props (codes "Replaced") at) = record {
            named = was.named;
            text = text;
            stands = ap now (sym name_is) ∙ named ∙ ap (λ (t : List ℕ). Some t) old.2.content_is;
            says = old.2.says;
            timestamp_is = was.timestamp_is;
          } in
          let apart_rest : RestOfPlace (place_of old.0.blob) mid now = λ n out not_bytes not_props. others n out (λ e. not_props (e ∙ name_is)) in (
            after,
            put_outcome,
            agrees now rows_now rows_are
                (files_replaced config tree mid s a.files key new_one (props_of upload blob.timestamp) made refl later old.0 old.1 now (codes "Replaced") at old.2.props was marked apart_rest after.trash trash)
                (ap (λ (o : Own). o.trash) old.3 ∙ ap (λ (t : map.FinMap age_cmp Deletion). discarded t key old.0 at) a.trash_are ∙ sym trash) (ap (λ (o : Own). o.notes) old.3) (ap (λ (o : Own). o.counts) old.3),
          )

      -- while the old blob is marked
      pub crash_two : {D : Type 0} (clock : D → ℕ) (lists : D → ℕ → Lists) (d0 d2 d3 : D) → Settled mid (lists d2 (clock d2))
          → During clock lists d0 d2 (EachImage (ImageBeforeOrAfter config s store (put_for upload moment)))
          → During clock lists d2 d3 (MayPut (props_at mark.files.place) (Some (content mark.file)) (lists d2 (clock d2)))
          → During clock lists d0 d3 (EachImage (ImageBeforeOrAfter config s store (put_for upload moment)))
      crash_two clock lists d0 d2 d3 settled first second =
          let start = lists d2 (clock d2) in
          let P : Lists → Type 0 = EachImage (ImageBeforeOrAfter config s store (put_for upload moment)) in
          and_then clock lists P d0 d2 d3 first
          (weaker clock lists (MayPut (props_at mark.files.place) (Some (content mark.file)) start) P d2 d3
          (λ l put image here.
          let at_name = subst (λ (n : List ℕ). MayPut n (Some (content mark.file)) start l) name_is put in
          let at_text = subst (λ (t : List ℕ). MayPut (props_name old.0.blob) (Some t) start l) old.2.content_is at_name in
          inr (
            reply.Stored staged.new.asset,
            after,
            put_outcome,
            refl,
            image_replaced config tree s a.files upload blob new_one refl later staged.new p.new p.free mid made old.0 old.1 old.2.props was text start l settled
                (with_mark old.2.props (codes "Replaced") at, old.2.says, refl) at_text image here,
          )) second)

      -- stopped while it is marked, the put leaves the files as after
      pub halfway_two : (now : Tree) → (now (props_at mark.files.place) ≡ mid (props_at mark.files.place)) ⊎ (now (props_at mark.files.place) ≡ Some (content mark.file)) → Rest (props_at mark.files.place) mid now
          → (rows_now : map.FinMap key_cmp Asset) → (rows_now ≡ s.rows) ⊎ (rows_now ≡ map.insert s.rows key new_one) → IsHalfway config s store (put_for upload moment) now rows_now
      halfway_two now either others rows_now rows_are =
          let put : MayPut (props_name old.0.blob) (Some text) (alone mid) (alone now) = alone_put (props_name old.0.blob) (Some text) mid now
          (⊎_elim (λ stays. inl (ap now (sym name_is) ∙ stays ∙ ap mid name_is)) (λ is_new. inr (ap now (sym name_is) ∙ is_new ∙ ap (λ (t : List ℕ). Some t) old.2.content_is)) either)
          (λ n out other. others n out (λ e. other (e ∙ name_is))) in
          record {
            files = inr (
              reply.Stored staged.new.asset,
              after,
              put_outcome,
              refl,
              image_replaced config tree s a.files upload blob new_one refl later staged.new p.new p.free mid made old.0 old.1 old.2.props was text (alone mid) (alone now) (alone_settled mid)
                  (with_mark old.2.props (codes "Replaced") at, old.2.says, refl) put now (alone_image now),
            );
            rows_are = one_of config s store (put_for upload moment) (λ (t : State). rows_now ≡ t.rows) after (reply.Stored staged.new.asset) put_outcome refl rows_are;
          }
