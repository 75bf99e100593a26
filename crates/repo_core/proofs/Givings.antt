-- How the giving up of a key's row goes: what crashes leave, and what it comes to.
use Rattle.std.proofs.Common.{◌≡◌, ◌⊎◌, inl, inr, ⊎_elim, ℕ, List, Option, Some, None, IsTrue, refl, sym, ◌∙◌, ap, subst, []}
use Rattle.std.specs.Option.{option_map}
use Rattle.std.specs.FinMap as map
use Rattle.nx_base.specs.Order.{key_cmp, age_cmp}
use Rattle.nx_base.specs.declared.key.Key.{Key}
use Rattle.nx_base.specs.declared.asset.Asset.{Asset}
use Rattle.nx_base.specs.declared.blob_ref.BlobRef.{BlobRef}
use Rattle.repo_model.specs.declared.call.Call.{Call}
use Rattle.repo_model.specs.declared.reply.Reply.{Reply}
use Rattle.repo_model.specs.declared.deletion.Deletion.{Deletion}
use Rattle.repo_model.specs.Config.{Config}
use Rattle.repo_model.specs.State.{State, row_of}
use Rattle.repo_model.specs.Deleting.{discarded, without_row}
use Rattle.repo_model.specs.Outcome.{answered}
use Rattle.repo_model.specs.Step.{outcome}
use Rattle.disk_model.specs.Disk.{Tree, Lists, Same, Rest}
use Rattle.disk_model.specs.Moments.{During, MayPut, Settled, EachImage, IsImage}
use Rattle.disk_model.proofs.Chain.{weaker, same_then_put}
use Rattle.disk_model.proofs.Images.{same_image}
use Rattle.blob_paths.specs.declared.ending.Ending.TheVariants.{Properties}
use Rattle.blob_properties.specs.Props.{Props, with_mark}
use Rattle.blob_properties.specs.Readable.{Readable, readable_of, marked_text_of}
use Rattle.tree_content.specs.Blobs.{Homes, IsRef, Reads, props_at, props_name}
use Rattle.tree_content.specs.Contents.{Content, Contents, ContentOf, HasContents, with_content, OldOrNew, OnlyLive}
use Rattle.tree_content.specs.Files.{SaysMarked}
use Rattle.tree_content.proofs.Alone.{alone, alone_settled, alone_image, alone_put}
use Rattle.tree_content.proofs.Names.{outside}
use Rattle.tree_content.proofs.Blobs.{some_is}
use Rattle.tree_content.proofs.Changes.{tmp_same, before_or_after}
use Rattle.tree_content.proofs.Images.{marking_only}
use Rattle.tree_content.proofs.Naming.{named_contents, its_files}
use Rattle.repo_core.specs.declared.marking.Mark.{Mark}
use Rattle.repo_core.specs.declared.own.Own.{Own}
use Rattle.repo_core.specs.Stores.{homes_of}
use Rattle.repo_core.specs.Rows.{content_in, contents_in}
use Rattle.repo_core.specs.Agree.{FilesAgree, Agrees}
use Rattle.repo_core.specs.Marks.{IsMarkOf}
use Rattle.repo_core.specs.Standing.{ImageBeforeOrAfter, IsHalfway, is_done}
use Rattle.repo_core.proofs.Halfways.{one_of}
use Rattle.repo_core.proofs.Samenesses.{files_same}
use Rattle.repo_core.proofs.Markings.{Marks, cut_contents, files_marked}

-- contents that are the same at each key
pub contents_ext : (homes : Homes) (a b : Contents) (tree : Tree) → ((key : Key) → b key ≡ a key) → HasContents homes a tree → HasContents homes b tree
contents_ext homes a b tree same has key = subst (λ (c : Option Content). ContentOf homes tree key c) (sym (same key)) (has key)

module _ (config : Config) (tree : Tree) (s : State) (a : FilesAgree config tree s) where
  abbrev pub homes : Homes
  homes = homes_of config

  -- the tree has the contents of the rows
  pub has_contents : HasContents homes (contents_in s.rows) tree
  has_contents = named_contents homes (contents_in s.rows) tree a.names

  -- and so has one that differs in tmp alone
  pub same_contents : (image : Tree) → Same tree image → HasContents homes (contents_in s.rows) image
  same_contents image same key = (tmp_same homes tree image same key (contents_in s.rows key)).0 (has_contents key)

  -- while nothing can be seen, each image has the contents before
  pub crash_same : {D : Type 0} (clock : D → ℕ) (lists : D → ℕ → Lists) (old new : D) (store : List ℕ) (c : Call) → Settled tree (lists old (clock old))
      → During clock lists old new (Same (lists old (clock old))) → During clock lists old new (EachImage (ImageBeforeOrAfter config s store c))
  crash_same clock lists old new store c settled run =
      let start = lists old (clock old) in
      weaker clock lists (Same start) (EachImage (ImageBeforeOrAfter config s store c)) old new
      (λ l same image is. inl (same_contents image (same_image tree start l settled same image is))) run

  module _ (key : Key) (asset : Asset) (row : row_of s key ≡ Some asset) where
    abbrev blob : BlobRef
    blob = asset.blob

    has_row : contents_in s.rows key ≡ Some (content_in asset)
    has_row = ap (option_map content_in) row

    -- what the blob of a row says
    pub its_props : (text : List ℕ) (props : Props) → tree (props_name blob) ≡ Some text → Readable text props → Reads tree blob props × (props.key ≡ key)
    its_props text props was read =
        let w = a.names.named key (content_in asset) has_row in
        let r = w.1.intact.readable in
        let texts : r.text ≡ text = some_is r.text text (sym r.stands ∙ was) in
        let said : w.0 ≡ props = some_is w.0 props (sym r.says ∙ ap readable_of texts ∙ read) in (
          record { named = r.named; text = text; stands = was; says = read; timestamp_is = sym (ap (λ (p : Props). p.timestamp) said) ∙ r.timestamp_is },
          sym (ap (λ (p : Props). p.key) said) ∙ w.1.of_key,
        )

    -- it is readable
    pub is_readable : (text : List ℕ) × (props : Props) × (tree (props_name blob) ≡ Some text) × Readable text props
    is_readable = let w = a.names.named key (content_in asset) has_row in let r = w.1.intact.readable in (r.text, w.0, r.stands, r.says)

    module _ (c : Call) {S : Type 0} (content : S → List ℕ) (reason : List ℕ) (at : ℕ) (mark : Mark S) (staged : IsMarkOf content tree blob reason at mark) where
      abbrev text : List ℕ
      text = marked_text_of staged.props reason at

      its : Reads tree blob staged.props × (staged.props.key ≡ key)
      its = its_props staged.text staged.props staged.was staged.read

      name_is : props_at mark.files.place ≡ props_name blob
      name_is = ap props_at staged.place_is

      says_marked : SaysMarked text
      says_marked = (with_mark staged.props reason at, staged.says, refl)

      ref : IsRef blob
      ref = its.0.named

      -- each image while the mark is put
      image_marked : (first now : Lists) → Settled tree first → MayPut (props_name blob) (Some text) first now → (image : Tree) → IsImage now image
          → HasContents homes (contents_in s.rows) image ⊎ HasContents homes (contents_in (map.remove s.rows key)) image
      image_marked first now settled put image is =
          let alone : OnlyLive homes tree staged.props.key blob = subst (λ (k : Key). OnlyLive homes tree k blob) (sym its.1) (its_files homes (contents_in s.rows) tree a.names key (content_in asset) has_row) in
          let may = marking_only homes blob ref tree first now settled text staged.props its.0 alone says_marked put image is in
          let here : OldOrNew homes tree key None image = subst (λ (k : Key). OldOrNew homes tree k None image) its.1 may in
          ⊎_elim (λ before. inl before)
          (λ after. inr (contents_ext homes (with_content key None (contents_in s.rows)) (contents_in (map.remove s.rows key)) image (cut_contents s.rows key) after))
          (before_or_after homes tree image key None (contents_in s.rows) here has_contents)

      put_is : {D : Type 0} (clock : D → ℕ) (lists : D → ℕ → Lists) (old mid new : D) → During clock lists old mid (Same (lists old (clock old)))
          → During clock lists mid new (MayPut (props_at mark.files.place) (Some (content mark.file)) (lists mid (clock mid)))
          → During clock lists old new (MayPut (props_name blob) (Some text) (lists old (clock old)))
      put_is clock lists old mid new first second =
          let named = subst (λ (n : List ℕ). During clock lists mid new (MayPut n (Some (content mark.file)) (lists mid (clock mid)))) name_is second in
          let said = subst (λ (t : List ℕ). During clock lists mid new (MayPut (props_name blob) (Some t) (lists mid (clock mid)))) staged.content_is named in
          same_then_put clock lists (props_name blob) (Some text) old mid new (outside blob Properties ref) first said

      -- while the mark is put, each image has the contents before, or those of a step that takes the row away
      pub crash_marked : {D : Type 0} (clock : D → ℕ) (lists : D → ℕ → Lists) (old mid new : D) (after : State) (said : Reply) → outcome config s [] c ≡ answered after said
          → IsTrue (is_done said) → after.rows ≡ map.remove s.rows key
          → Settled tree (lists old (clock old)) → During clock lists old mid (Same (lists old (clock old)))
          → During clock lists mid new (MayPut (props_at mark.files.place) (Some (content mark.file)) (lists mid (clock mid)))
          → During clock lists old new (EachImage (ImageBeforeOrAfter config s [] c))
      crash_marked clock lists old mid new after said step done rows settled first second =
          let start = lists old (clock old) in
          weaker clock lists (MayPut (props_name blob) (Some text) start) (EachImage (ImageBeforeOrAfter config s [] c)) old new
          (λ l put image is. ⊎_elim (λ before. inl before)
          (λ gone. inr (said, after, step, done, subst (λ (r : map.FinMap key_cmp Asset). HasContents homes (contents_in r) image) (sym rows) gone))
          (image_marked start l settled put image is))
          (put_is clock lists old mid new first second)

      -- so has the tree, where the mark may have been put
      pub tree_marked : (mid new : Tree) → Same tree mid → (new (props_at mark.files.place) ≡ mid (props_at mark.files.place)) ⊎ (new (props_at mark.files.place) ≡ Some (content mark.file)) → Rest (props_at mark.files.place) mid new
          → HasContents homes (contents_in s.rows) new ⊎ HasContents homes (contents_in (map.remove s.rows key)) new
      tree_marked mid new same either rest =
          let put : MayPut (props_name blob) (Some text) (alone tree) (alone new) = alone_put (props_name blob) (Some text) tree new
          (⊎_elim
          (λ was. inl (ap new (sym name_is) ∙ was ∙ ap mid name_is ∙ same (props_name blob) (outside blob Properties ref)))
          (λ is. inr (ap new (sym name_is) ∙ is ∙ ap (λ (t : List ℕ). Some t) staged.content_is)) either)
          (λ n out other. rest n out (λ e. other (e ∙ name_is)) ∙ same n out) in
          image_marked (alone tree) (alone new) (alone_settled tree) put new (alone_image new)

      -- stopped while it is put, the deletion leaves files and rows as before or after
      pub halfway_marked : (mid new : Tree) → Same tree mid → (new (props_at mark.files.place) ≡ mid (props_at mark.files.place)) ⊎ (new (props_at mark.files.place) ≡ Some (content mark.file)) → Rest (props_at mark.files.place) mid new
          → (after : State) (said : Reply) → outcome config s [] c ≡ answered after said → IsTrue (is_done said) → after.rows ≡ map.remove s.rows key
          → (rows : map.FinMap key_cmp Asset) → (rows ≡ s.rows) ⊎ (rows ≡ map.remove s.rows key) → IsHalfway config s [] c new rows
      halfway_marked mid new same either rest after said step done after_is rows rows_are = record {
        files = one_of config s [] c (λ (t : State). HasContents homes (contents_in t.rows) new) after said step done
            (⊎_elim (λ before. inl before) (λ gone. inr (subst (λ (r : map.FinMap key_cmp Asset). HasContents homes (contents_in r) new) (sym after_is) gone)) (tree_marked mid new same either rest));
        rows_are = one_of config s [] c (λ (t : State). rows ≡ t.rows) after said step done (⊎_elim (λ before. inl before) (λ gone. inr (gone ∙ sym after_is)) rows_are);
      }

      -- what the mark has done to the files
      pub marks_done : (mid new : Tree) → Same tree mid → new (props_at mark.files.place) ≡ Some (content mark.file) → Rest (props_at mark.files.place) mid new
          → Marks config tree new s key asset reason at
      marks_done mid new same named rest = record {
        row = row;
        props = staged.props;
        was = its.0;
        now = record {
          named = ref;
          text = text;
          stands = ap new (sym name_is) ∙ named ∙ ap (λ (t : List ℕ). Some t) staged.content_is;
          says = staged.says;
          timestamp_is = its.0.timestamp_is;
        };
        rest = λ n out not_bytes not_props. rest n out (λ e. not_props (e ∙ name_is)) ∙ same n out;
      }

-- the state after the row has gone agrees
pub agrees_gone : (config : Config) (tree new : Tree) (rows rows_now : map.FinMap key_cmp Asset) (own own_now : Own) (s : State) (key : Key) (asset : Asset) (reason : List ℕ) (at : ℕ)
    → Agrees config tree rows own s → Marks config tree new s key asset reason at → rows_now ≡ map.remove rows key
    → own_now ≡ record own { trash = discarded own.trash key asset at }
    → Agrees config new rows_now own_now (without_row s key asset at)
agrees_gone config tree new rows rows_now own own_now s key asset reason at a marks rows_are own_is = record {
  sound = a.sound;
  files = files_marked config tree new s a.files key asset reason at marks;
  rows_are = rows_are ∙ ap (λ (r : map.FinMap key_cmp Asset). map.remove r key) a.rows_are;
  trash_are = ap (λ (o : Own). o.trash) own_is ∙ ap (λ (t : map.FinMap age_cmp Deletion). discarded t key asset at) a.trash_are;
  notes_are = ap (λ (o : Own). o.notes) own_is ∙ a.notes_are;
  last_are = ap (λ (o : Own). o.last) own_is ∙ a.last_are;
  counts_are = ap (λ (o : Own). o.counts) own_is ∙ a.counts_are;
}

-- names in tmp play no part
pub agrees_same : (config : Config) (tree new : Tree) (rows rows_now : map.FinMap key_cmp Asset) (own own_now : Own) (s : State) → Same tree new → rows_now ≡ rows → own_now ≡ own
    → Agrees config tree rows own s → Agrees config new rows_now own_now s
agrees_same config tree new rows rows_now own own_now s same rows_are own_is a = record {
  sound = a.sound;
  files = files_same config tree new s same a.files;
  rows_are = rows_are ∙ a.rows_are;
  trash_are = ap (λ (o : Own). o.trash) own_is ∙ a.trash_are;
  notes_are = ap (λ (o : Own). o.notes) own_is ∙ a.notes_are;
  last_are = ap (λ (o : Own). o.last) own_is ∙ a.last_are;
  counts_are = ap (λ (o : Own). o.counts) own_is ∙ a.counts_are;
}
