-- How a put goes: what crashes leave, and what it comes to.
use Rattle.std.proofs.Common.{◌≡◌, ◌⊎◌, inl, inr, ⊎_elim, ℕ, ◌<◌, Bool, true, false, cond, not, ◌||◌, IsTrue, List, [], ◌∷◌, filter, codes, Option, Some, None, refl, sym, ◌∙◌, ap, subst, arith}
use Rattle.std.specs.List.{list_any}
use Rattle.std.specs.Option.{option_map}
use Rattle.std.specs.FinMap as map
use Rattle.nx_base.specs.Order.{key_cmp, same_name}
use Rattle.nx_base.specs.Given.{given}
use Rattle.nx_base.specs.declared.key.Key.{Key}
use Rattle.nx_base.specs.declared.asset.Asset.{Asset}
use Rattle.nx_base.specs.declared.member.Member.{Member}
use Rattle.nx_base.specs.declared.blob_ref.BlobRef.{BlobRef}
use Rattle.repo_model.specs.declared.upload.Upload.{Upload}
use Rattle.repo_model.specs.declared.call.Call.{Call}
use Rattle.repo_model.specs.declared.reply.Reply.{Reply}
use Rattle.repo_model.specs.Config.{Config, Repo, group_of}
use Rattle.repo_model.specs.State.{State, row_of}
use Rattle.repo_model.specs.Outcome.{answered}
use Rattle.repo_model.specs.Step.{outcome}
use Rattle.repo_model.specs.Storing.{new_asset}
use Rattle.disk_model.specs.Disk.{Tree, Lists, Same}
use Rattle.disk_model.specs.Moments.{During, MayPut, Settled, EachImage, IsImage}
use Rattle.disk_model.specs.Disk.{Among}
use Rattle.disk_model.proofs.Names.{same_or_not}
use Rattle.disk_model.proofs.Chain.{weaker, and_then}
use Rattle.disk_model.proofs.Images.{settled_same}
use Rattle.blob_properties.specs.Props.{Props}
use Rattle.tree_content.specs.Blobs.{Homes, Reads, bytes_at, props_at, props_name}
use Rattle.tree_content.specs.Contents.{Content, Contents, ContentOf, HasContents, OldOrBlob, OldOrNew, IsNoContent, IsFrom, content_of, with_content}
use Rattle.tree_content.specs.Files.{RestOfPlace, Creates, SaysMarked, IsCreatedIn}
use Rattle.blob_paths.specs.declared.ending.Ending.TheVariants.{Properties}
use Rattle.tree_content.proofs.Names.{outside}
use Rattle.repo_core.proofs.Maps.{set_at, set_beside}
use Rattle.tree_content.proofs.Blobs.{some_is, none_or_some, same_or_other_key, absent_is_not_live}
use Rattle.tree_content.proofs.Changes.{before_or_after, newest_timestamp, gained_beside, one_content}
use Rattle.tree_content.proofs.Images.{created_tree, creating, marking_unnamed}
use Rattle.tree_content.proofs.Naming.{other_files}
use Rattle.repo_core.specs.declared.staging.NewBlob.{NewBlob}
use Rattle.repo_core.specs.declared.marking.Mark.{Mark}
use Rattle.repo_core.specs.declared.own.Own.{Own}
use Rattle.repo_model.specs.Deleting.{discarded}
use Rattle.repo_core.specs.Stores.{homes_of}
use Rattle.repo_core.specs.Rows.{content_in, contents_in}
use Rattle.repo_core.specs.Agree.{FilesAgree}
use Rattle.repo_core.specs.Marks.{IsMarkOf}
use Rattle.repo_core.specs.Puts.{props_of, IsNewBlob, MayGo, AreBytes, StagesOld, with_old}
use Rattle.repo_core.specs.Standing.{ImageBeforeOrAfter, is_done}
use Rattle.repo_core.proofs.Creatings.{Makes, set_contents}
use Rattle.repo_core.proofs.Readings.{free_apart}
use Rattle.repo_core.proofs.Runs.{at_end}
use Rattle.repo_core.proofs.Givings.{contents_ext, has_contents, same_contents, crash_same, is_readable}

-- a member that is writable is a member
any_of : (p q : Member → Bool) (ms : List Member) → list_any p (filter q ms) ≡ true → list_any p ms ≡ true
any_of p q [] e = e
any_of p q (m ∷ ms) e = by_test (any_of p q ms) (q m) refl
  where
    by_first : (list_any p (filter q ms) ≡ true → list_any p ms ≡ true) → list_any p (m ∷ filter q ms) ≡ true → (f : Bool) → p m ≡ f → list_any p (m ∷ ms) ≡ true
    by_first go rest true first = ap (λ (b : Bool). b || list_any p ms) first
    by_first go rest false first =
        ap (λ (b : Bool). b || list_any p ms) first ∙ go (sym (ap (λ (b : Bool). b || list_any p (filter q ms)) first) ∙ rest)

    by_test : (list_any p (filter q ms) ≡ true → list_any p ms ≡ true) → (b : Bool) → q m ≡ b → list_any p (m ∷ ms) ≡ true
    by_test go true is = by_first go (sym (ap (λ (b : Bool). list_any p (cond b (m ∷ filter q ms) (filter q ms))) is) ∙ e) (p m) refl
    by_test go false is =
        by_any (p m) (go (sym (ap (λ (b : Bool). list_any p (cond b (m ∷ filter q ms) (filter q ms))) is) ∙ e))
      where
        by_any : (f : Bool) → list_any p ms ≡ true → (f || list_any p ms) ≡ true
        by_any true there = refl
        by_any false there = there

home_of : (config : Config) (upload : Upload) (store : List ℕ) → MayGo config upload.key store → homes_of config upload.key.repo store ≡ true
home_of config upload store may =
    let inside : list_any (λ (m : Member). same_name m.store store) (group_of config may.repo).members ≡ true =
    any_of (λ m. same_name m.store store) (λ m. not m.read_only) (group_of config may.repo).members may.takes_it in
    ap (λ (o : Option Repo). given o false (λ r. list_any (λ m. same_name m.store store) (group_of config r).members)) may.declared ∙ inside

module _ (config : Config) (upload : Upload) (store : List ℕ) (blob : BlobRef) (in_store : blob.store ≡ store) (may : MayGo config upload.key store) (made : NewBlob) (new : IsNewBlob upload blob made) (bytes : List ℕ) (are : AreBytes upload bytes) where
  abbrev props : Props
  props = props_of upload blob.timestamp

  -- the two files that were shown make the blob
  pub makes : (tree before mid : Tree) → tree (props_name blob) ≡ None → Same tree before → mid (bytes_at made.files.place) ≡ Some bytes → mid (props_at made.files.place) ≡ Some made.text.items
      → RestOfPlace made.files.place before mid → Makes config tree mid upload.key blob props
  makes tree before mid free same its_bytes its_props rest = record {
    free = free;
    live = record {
      intact = record {
        readable = record {
          named = new.ref;
          text = made.text.items;
          stands = ap (λ (p : List ℕ). mid (props_at p)) (sym new.place_is) ∙ its_props;
          says = new.says;
          timestamp_is = refl;
        };
        bytes = bytes;
        there = ap (λ (p : List ℕ). mid (bytes_at p)) (sym new.place_is) ∙ its_bytes;
        sized = are.sized;
        digested = are.digested;
      };
      unmarked = refl;
      of_key = refl;
      home = subst (λ (st : List ℕ). homes_of config upload.key.repo st ≡ true) (sym in_store) (home_of config upload store may);
    };
    rest = λ n out not_bytes not_props.
        rest n out (λ e. not_bytes (e ∙ ap bytes_at new.place_is)) (λ e. not_props (e ∙ ap props_at new.place_is)) ∙ same n out;
  }

module _ (config : Config) (tree : Tree) (s : State) (a : FilesAgree config tree s) (upload : Upload) (blob : BlobRef) (asset : Asset) (is_asset : asset ≡ new_asset upload blob blob.timestamp) (later : s.last < blob.timestamp)
    (made : NewBlob) (new : IsNewBlob upload blob made) (free : tree (props_name blob) ≡ None) where
  abbrev pub its : Props
  its = props_of upload blob.timestamp

  abbrev pub key : Key
  key = upload.key

  abbrev homes : Homes
  homes = homes_of config

  abbrev rows : map.FinMap key_cmp Asset
  rows = map.insert s.rows key asset

  abbrev changed : Contents
  changed = with_content key (Some (content_of blob its)) (contents_in s.rows)

  says : content_in asset ≡ content_of blob its
  says = ap content_in is_asset

  same_rows : (k : Key) → contents_in rows k ≡ changed k
  same_rows k = set_contents s.rows key asset k ∙ ap (λ (c : Content). with_content key (Some c) (contents_in s.rows) k) says

  -- each image while the files are shown
  image_created : (before : Tree) (bytes : List ℕ) (first now : Lists) → Same tree before → Settled before first → Creates made.files.place bytes made.text.items first now
      → (image : Tree) → IsImage now image → HasContents homes (contents_in s.rows) image ⊎ HasContents homes (contents_in rows) image
  image_created before bytes first now same settled creates image is =
      let here = subst (λ (p : List ℕ). Creates p bytes made.text.items first now) new.place_is creates in
      let free_there : before (props_name blob) ≡ None = same (props_name blob) (outside blob Properties new.ref) ∙ free in
      let may = creating homes blob new.ref before first now settled bytes made.text.items free_there here image is in
      let told : OldOrNew homes before key (Some (content_of blob its)) image = subst (λ (r : Option Props). OldOrBlob homes before blob r image) new.says may in
      ⊎_elim (λ old. inl old) (λ now_it. inr (contents_ext homes changed (contents_in rows) image same_rows now_it))
      (before_or_after homes before image key (Some (content_of blob its)) (contents_in s.rows) told (same_contents config tree s a before same))

  -- the tree where they may have been shown
  pub tree_created : (before after : Tree) (bytes : List ℕ) → Same tree before → IsCreatedIn made.files.place bytes made.text.items before after
      → HasContents homes (contents_in s.rows) after ⊎ HasContents homes (contents_in rows) after
  tree_created before after bytes same created =
      let here = subst (λ (p : List ℕ). IsCreatedIn p bytes made.text.items before after) new.place_is created in
      let free_there : before (props_name blob) ≡ None = same (props_name blob) (outside blob Properties new.ref) ∙ free in
      let told : OldOrNew homes before key (Some (content_of blob its)) after = subst (λ (r : Option Props). OldOrBlob homes before blob r after) new.says (created_tree homes blob new.ref before after bytes made.text.items free_there here) in
      ⊎_elim (λ old. inl old) (λ now_it. inr (contents_ext homes changed (contents_in rows) after same_rows now_it))
      (before_or_after homes before after key (Some (content_of blob its)) (contents_in s.rows) told (same_contents config tree s a before same))

  module _ (mid : Tree) (m : Makes config tree mid key blob its) where
    reads_now : Reads mid blob its
    reads_now = m.live.intact.readable

    -- the tree with the files has the contents with the new row
    pub new_contents : HasContents homes (contents_in rows) mid
    new_contents = contents_ext homes changed (contents_in rows) mid same_rows (λ k. elim (same_or_other_key k key) [
      | inl same ↦
          let at_key = newest_timestamp homes blob new.ref tree mid m.rest key its (absent_is_not_live homes tree blob m.free) m.live
          (λ other d live. let le = a.last_is other d live.intact.readable in omega (arith, le, later)) in
          let value : changed k ≡ Some (content_of blob its) = sym (same_rows k) ∙ ap (option_map content_in) (set_at s.rows key asset k same) ∙ ap (λ (c : Content). Some c) says in
          subst (λ (c : Option Content). ContentOf homes mid k c) (sym value) (subst (λ (x : Key). ContentOf homes mid x (Some (content_of blob its))) (sym same) at_key)
      | inr differ ↦
          let value : changed k ≡ contents_in s.rows k = sym (same_rows k) ∙ ap (option_map content_in) (set_beside s.rows key asset k differ) in
          subst (λ (c : Option Content). ContentOf homes mid k c) (sym value)
          ((gained_beside homes blob new.ref tree mid m.rest its (absent_is_not_live homes tree blob m.free) reads_now k (contents_in s.rows k) differ).0 (has_contents config tree s a k))
    ])

    module _ (old : Asset) (row : row_of s key ≡ Some old) (olds : Props) (was : Reads tree old.blob olds) where
      has : contents_in s.rows key ≡ Some (content_in old)
      has = ap (option_map content_in) row

      -- the old blob is no key's content any more
      pub no_content : IsNoContent homes mid old.blob
      no_content k content is from = by_value (contents_in rows k) refl (subst (λ (c : Option Content). IsFrom old.blob c) (one_content homes mid k content (contents_in rows k) is (new_contents k)) from)
        where
          by_value : (c : Option Content) → contents_in rows k ≡ c → IsFrom old.blob c → ⊥
          by_value None e from_it = from_it
          by_value (Some c) e from_it = elim (same_or_other_key k key) [
            | inl same ↦
                let c_is : content_in asset ≡ c = some_is (content_in asset) c (sym (ap (option_map content_in) (set_at s.rows key asset k same)) ∙ e) in
                let blob_is : blob ≡ c.blob = sym (ap (λ (x : Asset). x.blob) is_asset) ∙ ap (λ (x : Content). x.blob) c_is in
                free_apart tree blob free old.blob olds was (sym (ap (λ (b : BlobRef). b.store) blob_is ∙ from_it.0), sym (ap (λ (b : BlobRef). b.id) blob_is ∙ from_it.1))
            | inr differ ↦
                let before : contents_in s.rows k ≡ Some c = sym (ap (option_map content_in) (set_beside s.rows key asset k differ)) ∙ e in
                let w = a.names.named k c before in
                other_files homes (contents_in s.rows) tree a.names key k (content_in old) c.blob w.0 has differ w.1 from_it
          ]

      -- each image while the old blob is marked
      pub image_replaced : (text : List ℕ) (first now : Lists) → Settled mid first → SaysMarked text → MayPut (props_name old.blob) (Some text) first now
          → (image : Tree) → IsImage now image → HasContents homes (contents_in rows) image
      image_replaced text first now settled marked put image is =
          let same = marking_unnamed homes old.blob was.named mid first now settled text no_content marked put image is in
          λ k. (same k (contents_in rows k)).0 (new_contents k)

  -- while the files are shown, each image has the contents before, or those of the step
  pub crash_created : {D : Type 0} (clock : D → ℕ) (lists : D → ℕ → Lists) (d0 d1 d2 : D) (store : List ℕ) (c : Call) (after : State) (said : Reply) (before : Tree) (bytes : List ℕ)
      → outcome config s store c ≡ answered after said → IsTrue (is_done said) → after.rows ≡ rows → Same tree before → Settled tree (lists d0 (clock d0))
      → During clock lists d0 d1 (Same (lists d0 (clock d0))) → During clock lists d1 d2 (Creates made.files.place bytes made.text.items (lists d1 (clock d1)))
      → During clock lists d0 d2 (EachImage (ImageBeforeOrAfter config s store c))
  crash_created clock lists d0 d1 d2 store c after said before bytes step done rows_are same settled first second =
      let P : Lists → Type 0 = EachImage (ImageBeforeOrAfter config s store c) in
      let start = lists d1 (clock d1) in
      let settled_there = settled_same tree before (lists d0 (clock d0)) start settled same (at_end clock lists d0 d1 (Same (lists d0 (clock d0))) first) in
      and_then clock lists P d0 d1 d2 (crash_same config tree s a clock lists d0 d1 store c settled first)
      (weaker clock lists (Creates made.files.place bytes made.text.items start) P d1 d2
      (λ l creates image is. ⊎_elim (λ old. inl old)
      (λ new_one. inr (said, after, step, done, subst (λ (r : map.FinMap key_cmp Asset). HasContents homes (contents_in r) image) (sym rows_are) new_one))
      (image_created before bytes start l same settled_there creates image is)) second)

-- a disk on which the files of a place were made and settled is settled again
pub settled_created : (place bytes text : List ℕ) (old new : Tree) (first now : Lists) → Settled old first → RestOfPlace place old new → RestOfPlace place first now
    → new (bytes_at place) ≡ Some bytes → now (bytes_at place) ≡ Some bytes ∷ [] → new (props_at place) ≡ Some text → now (props_at place) ≡ Some text ∷ [] → Settled new now
settled_created place bytes text old new first now settled trees lists b_is b_alone p_is p_alone n out w here = elim (same_or_not n (bytes_at place)) [
  | inl at ↦ one (Some bytes) w (subst (λ (l : List (Option (List ℕ))). Among w l) (ap now at ∙ b_alone) here) ∙ sym (ap new at ∙ b_is)
  | inr not_bytes ↦ elim (same_or_not n (props_at place)) [
    | inl at ↦ one (Some text) w (subst (λ (l : List (Option (List ℕ))). Among w l) (ap now at ∙ p_alone) here) ∙ sym (ap new at ∙ p_is)
    | inr not_props ↦ settled n out w (subst (λ (l : List (Option (List ℕ))). Among w l) (lists n out not_bytes not_props) here) ∙ sym (trees n out not_bytes not_props)
  ]
]
  where
    one : (v w : Option (List ℕ)) → Among w (v ∷ []) → w ≡ v
    one v w (inl e) = e
    one v w (inr none) = absurd none

-- a key that has no blob had none to mark, and one whose blob is unmarked had no row
pub no_old : {S : Type 0} (content : S → List ℕ) (config : Config) (tree : Tree) (s : State) (a : FilesAgree config tree s) (key : Key) (old : Option Asset) (at : ℕ) (mark : Option (Mark S))
    → row_of s key ≡ old → StagesOld content tree at old mark → mark ≡ None → row_of s key ≡ None
no_old content config tree s a k None at mark row staged none = row
no_old content config tree s a k (Some old) at None row staged none =
    let r = is_readable config tree s a k old row in absurd (staged r.0 r.1 r.2 r.3)
no_old content config tree s a k (Some old) at (Some mark) row staged none = absurd (none_or_some mark (sym none))

-- where a mark is staged, the key had a blob
pub its_old : {S : Type 0} (content : S → List ℕ) (tree : Tree) (s : State) (key : Key) (own kept : Own) (old : Option Asset) (at : ℕ) (kind : Option (Mark S)) (mark : Mark S)
    → row_of s key ≡ old → StagesOld content tree at old kind → kept ≡ with_old own key at old kind → kind ≡ Some mark
    → (asset : Asset) × (row_of s key ≡ Some asset) × IsMarkOf content tree asset.blob (codes "Replaced") at mark × (kept ≡ record own { trash = discarded own.trash key asset at })
its_old content tree s k own kept None at kind mark row staged trash is = absurd (none_or_some mark (sym staged ∙ is))
its_old content tree s k own kept (Some old) at None mark row staged trash is = absurd (none_or_some mark is)
its_old {S} content tree s k own kept (Some old) at (Some m) mark row staged trash is =
    (old, row, subst (λ (x : Mark S). IsMarkOf content tree old.blob (codes "Replaced") at x) (some_is m mark is) staged, trash)

pub no_trash : {S : Type 0} (own kept : Own) (key : Key) (at : ℕ) (old : Option Asset) (mark : Option (Mark S)) → mark ≡ None → kept ≡ with_old own key at old mark → kept ≡ own
no_trash own kept k at None mark none is = is
no_trash own kept k at (Some old) None none is = is
no_trash own kept k at (Some old) (Some mark) none is = absurd (none_or_some mark (sym none))
