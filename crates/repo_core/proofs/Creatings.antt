-- Agreement of files and state where a key gets a new blob: the first, or one in place of another, which is then marked.
use Rattle.std.proofs.Common.{◌≡◌, ◌≢◌, ◌⊎◌, inl, inr, ℕ, ◌≤◌, ◌<◌, Bool, true, false, ◌||◌, List, Option, Some, None, is_some, refl, sym, ◌∙◌, ap, subst, arith}
use Rattle.std.specs.Option.{option_map}
use Rattle.std.specs.FinMap as map
use Rattle.std.specs.FinSet as set
use Rattle.std.specs.Ordering.{eq_by_cmp}
use Rattle.std.specs.Cmp.{eq_by_cmp_equiv}
use Rattle.nx_base.specs.Order.{key_cmp, age_cmp}
use Rattle.nx_base.specs.declared.key.Key.{Key}
use Rattle.nx_base.specs.declared.asset.Asset.{Asset}
use Rattle.nx_base.specs.declared.blob_ref.BlobRef.{BlobRef}
use Rattle.repo_model.specs.declared.deletion.Deletion.{Deletion}
use Rattle.repo_model.specs.declared.spot.Spot.{Spot}
use Rattle.repo_model.specs.Config.{Config}
use Rattle.repo_model.specs.State.{State, row_of}
use Rattle.repo_model.specs.Spots.{spot_of, spot_cmp}
use Rattle.repo_model.proofs.SpotOrder.{spot_cmp_total, exact_spots}
use Rattle.disk_model.specs.Disk.{Tree}
use Rattle.blob_paths.specs.Places.{place_of}
use Rattle.blob_paths.specs.declared.ending.Ending.TheVariants.{Properties}
use Rattle.blob_properties.specs.Props.{Props, with_mark}
use Rattle.blob_properties.specs.declared.deleted.Deleted.{Deleted}
use Rattle.tree_content.specs.Blobs.{IsRef, Reads, Live, SameFiles, props_name}
use Rattle.tree_content.specs.Contents.{Content, content_of, with_content, NoneLive}
use Rattle.tree_content.specs.Files.{RestOfPlace}
use Rattle.tree_content.proofs.Names.{same_names, same_or_other}
use Rattle.tree_content.proofs.Blobs.{some_is, none_or_some, says_same, blob_same, same_or_other_key, absent_is_not_live, marked_is_not_live}
use Rattle.tree_content.proofs.Naming.{first_names, replaced_names}
use Rattle.repo_core.specs.Stores.{homes_of}
use Rattle.repo_core.specs.Rows.{content_in, contents_in}
use Rattle.repo_core.specs.Agree.{IsMarked, IsLoose, FilesAgree}
use Rattle.repo_core.proofs.Maps.{two, set_at, set_beside, put_at, put_beside, same_or_other_ref, key_test, other_key_test, equal}
use Rattle.repo_core.proofs.Readings.{same_to_files, apart_name, reads_kept, reads_new, free_apart}
use Rattle.repo_core.proofs.Samenesses.{names_ext}

-- the files of a blob are made where no properties stood, and it is a live blob of the key
pub record Makes (config : Config) (tree mid : Tree) (key : Key) (blob : BlobRef) (props : Props) : Type 0 where
  pub free : tree (props_name blob) ≡ None
  pub live : Live (homes_of config) mid key blob props
  pub rest : RestOfPlace (place_of blob) tree mid

-- the contents with a row set
pub set_contents : (rows : map.FinMap key_cmp Asset) (key : Key) (asset : Asset) (k : Key) → contents_in (map.insert rows key asset) k ≡ with_content key (Some (content_in asset)) (contents_in rows) k
set_contents rows key asset k = elim (same_or_other_key k key) [
  | inl is ↦ ap (option_map content_in) (set_at rows key asset k is) ∙ sym (rw (key_test k key is) refl)
  | inr differ ↦ ap (option_map content_in) (set_beside rows key asset k differ) ∙ sym (rw (other_key_test k key differ) refl)
]

spot_same : (a b : BlobRef) → SameFiles a b → spot_of a ≡ spot_of b
spot_same a b same = λ i. record { store = same.0 i; id = same.1 i }

spot_files : (a b : BlobRef) → spot_of a ≡ spot_of b → SameFiles a b
spot_files a b e = (ap (λ (x : Spot). x.store) e, ap (λ (x : Spot). x.id) e)

same_spot_test : (a b : BlobRef) → SameFiles a b → eq_by_cmp spot_cmp (spot_of a) (spot_of b) ≡ true
same_spot_test a b same = ap (λ (x : Spot). eq_by_cmp spot_cmp x (spot_of b)) (spot_same a b same) ∙ (eq_by_cmp_equiv spot_cmp_total).refl (spot_of b)

other_spot_test : (a b : BlobRef) → (SameFiles a b → ⊥) → eq_by_cmp spot_cmp (spot_of a) (spot_of b) ≡ false
other_spot_test a b apart = elim (two (eq_by_cmp spot_cmp (spot_of a) (spot_of b))) [
  | inl same ↦ absurd (apart (spot_files a b (exact_spots (spot_of a) (spot_of b) (equal (spot_cmp (spot_of a) (spot_of b)) same))))
  | inr other ↦ other
]

module _ (config : Config) (tree mid : Tree) (s : State) (a : FilesAgree config tree s) (key : Key) (asset : Asset) (props : Props) (m : Makes config tree mid key asset.blob props)
    (says : content_in asset ≡ content_of asset.blob props) (later : s.last < asset.blob.timestamp) where
  abbrev blob : BlobRef
  blob = asset.blob

  abbrev rows : map.FinMap key_cmp Asset
  rows = map.insert s.rows key asset

  ref : IsRef blob
  ref = m.live.intact.readable.named

  now : Reads mid blob props
  now = m.live.intact.readable

  was : NoneLive (homes_of config) tree blob
  was = absent_is_not_live (homes_of config) tree blob m.free

  apart : (b : BlobRef) (q : Props) → Reads tree b q → SameFiles b blob → ⊥
  apart b q r = free_apart tree blob m.free b q r

  kept : (b : BlobRef) (q : Props) → Reads tree b q → Reads mid b q
  kept b q r = reads_kept tree mid blob ref m.rest b q (apart b q r) r

  either : (b : BlobRef) (q : Props) → Reads mid b q → ((b ≡ blob) × (q ≡ props)) ⊎ ((SameFiles b blob → ⊥) × Reads tree b q)
  either b q r = reads_new tree mid blob ref m.rest props now b q r

  in_contents : (k : Key) → contents_in rows k ≡ with_content key (Some (content_of blob props)) (contents_in s.rows) k
  in_contents k = set_contents s.rows key asset k ∙ ap (λ (c : Content). with_content key (Some c) (contents_in s.rows) k) says

  unmarked_now : (b : BlobRef) (d : Deletion) (w : IsMarked mid b d) → w.props ≡ props → ⊥
  unmarked_now b d w is =
      none_or_some d.at (sym (ap (λ (x : Option Deleted). option_map (λ (y : Deleted). y.at) x) (ap (λ (p : Props). p.deleted) is ∙ m.live.unmarked)) ∙ w.at)

  -- the blobs that are marked stay
  pub marked_there : (b : BlobRef) (d : Deletion) → IsMarked tree b d → IsMarked mid b d
  marked_there b d w = record { props = w.props; reads = kept b w.props w.reads; at = w.at; of_key = w.of_key }

  pub marked_back : (b : BlobRef) (d : Deletion) → IsMarked mid b d → IsMarked tree b d
  marked_back b d w = elim (either b w.props w.reads) [
    | inl here ↦ absurd (unmarked_now b d w here.1)
    | inr before ↦ record { props = w.props; reads = before.1; at = w.at; of_key = w.of_key }
  ]

  -- what is loose of the old rows is not the new blob
  pub named_there : (b : BlobRef) (k : Key) (q : Props) → Reads tree b q → ((x : Asset) → map.get s.rows k ≡ Some x → x.blob ≢ b) → (x : Asset) → map.get rows k ≡ Some x → x.blob ≢ b
  named_there b k q r never x is = elim (same_or_other_key k key) [
    | inl at ↦
        let x_is : asset ≡ x = some_is asset x (sym (set_at s.rows key asset k at) ∙ is) in
        λ e. apart b q r (same_to_files b blob (sym e ∙ sym (ap (λ (y : Asset). y.blob) x_is)))
    | inr differ ↦ never x (sym (set_beside s.rows key asset k differ) ∙ is)
  ]

  pub new_is_named : (b : BlobRef) (k : Key) (q : Props) → b ≡ blob → q ≡ props → q.key ≡ k → ((x : Asset) → map.get rows k ≡ Some x → x.blob ≢ b) → ⊥
  new_is_named b k q b_is q_is of_key never =
      let at : k ≡ key = sym of_key ∙ ap (λ (p : Props). p.key) q_is ∙ m.live.of_key in
      never asset (set_at s.rows key asset k at) (sym b_is)

  taken_after : (b : BlobRef) → set.contains (set.insert s.taken (spot_of blob)) (spot_of b) ≡ (eq_by_cmp spot_cmp (spot_of b) (spot_of blob) || set.contains s.taken (spot_of b))
  taken_after b = set.contains-insert spot_cmp_total s.taken (spot_of blob) (spot_of b)

  -- the names that are taken
  pub taken_there : (b : BlobRef) → IsRef b → set.contains (set.insert s.taken (spot_of blob)) (spot_of b) ≡ true → is_some (mid (props_name b)) ≡ true
  taken_there b is t = elim (same_or_other b blob) [
    | inl same ↦ ap (λ (o : Option (List ℕ)). is_some o) (ap mid (same_names b blob Properties same) ∙ now.stands)
    | inr other ↦
        let before : set.contains s.taken (spot_of b) ≡ true = sym (taken_after b ∙ ap (λ (e : Bool). e || set.contains s.taken (spot_of b)) (other_spot_test b blob other)) ∙ t in
        ap (λ (o : Option (List ℕ)). is_some o) (apart_name tree mid blob ref m.rest b is other) ∙ (a.taken_is b is).0 before
  ]

  pub taken_back : (b : BlobRef) → IsRef b → is_some (mid (props_name b)) ≡ true → set.contains (set.insert s.taken (spot_of blob)) (spot_of b) ≡ true
  taken_back b is t = elim (same_or_other b blob) [
    | inl same ↦ taken_after b ∙ ap (λ (e : Bool). e || set.contains s.taken (spot_of b)) (same_spot_test b blob same)
    | inr other ↦
        taken_after b ∙ ap (λ (e : Bool). e || set.contains s.taken (spot_of b)) (other_spot_test b blob other)
        ∙ (a.taken_is b is).1 (ap (λ (o : Option (List ℕ)). is_some o) (sym (apart_name tree mid blob ref m.rest b is other)) ∙ t)
  ]

  pub last_after : (b : BlobRef) (q : Props) → Reads mid b q → b.timestamp ≤ blob.timestamp
  last_after b q r = elim (either b q r) [
    | inl here ↦ subst (λ (x : BlobRef). x.timestamp ≤ blob.timestamp) (sym here.0) (omega arith)
    | inr before ↦ let le = a.last_is b q before.1 in omega (arith, le, later)
  ]

  -- the first content of a key
  module _ (none : row_of s key ≡ None) where
    loose_there : (b : BlobRef) (k : Key) → IsLoose (homes_of config) s.rows tree b k → IsLoose (homes_of config) rows mid b k
    loose_there b k l = record {
      props = l.props;
      reads = kept b l.props l.reads;
      unmarked = l.unmarked;
      of_key = l.of_key;
      home = l.home;
      unnamed = named_there b k l.props l.reads l.unnamed;
    }

    loose_back : (b : BlobRef) (k : Key) → IsLoose (homes_of config) rows mid b k → IsLoose (homes_of config) s.rows tree b k
    loose_back b k l = elim (either b l.props l.reads) [
      | inl here ↦ absurd (new_is_named b k l.props here.0 here.1 l.of_key l.unnamed)
      | inr before ↦ record {
        props = l.props;
        reads = before.1;
        unmarked = l.unmarked;
        of_key = l.of_key;
        home = l.home;
        unnamed = λ x is. elim (same_or_other_key k key) [
          | inl at ↦ absurd (none_or_some x (sym none ∙ ap (λ (y : Key). map.get s.rows y) (sym at) ∙ is))
          | inr differ ↦ l.unnamed x (set_beside s.rows key asset k differ ∙ is)
        ];
      }
    ]

    pub files_created : (trash : map.FinMap age_cmp Deletion) → trash ≡ s.trash
        → FilesAgree config mid (record s { rows = rows; trash = trash; last = blob.timestamp; taken = set.insert s.taken (spot_of blob) })
    files_created trash trash_is = record {
      names = names_ext (homes_of config) (with_content key (Some (content_of blob props)) (contents_in s.rows)) (contents_in rows) mid in_contents
          (first_names (homes_of config) (contents_in s.rows) tree mid key blob props a.names (ap (option_map content_in) none) m.rest was m.live);
      trash_is = λ b d. (
        (λ is. marked_there b d ((a.trash_is b d).0 (ap (λ (t : map.FinMap age_cmp Deletion). map.get t b) (sym trash_is) ∙ is))),
        (λ w. ap (λ (t : map.FinMap age_cmp Deletion). map.get t b) trash_is ∙ (a.trash_is b d).1 (marked_back b d w)),
      );
      loose_is = λ b k. ((λ is. loose_there b k ((a.loose_is b k).0 is)), (λ l. (a.loose_is b k).1 (loose_back b k l)));
      taken_is = λ b is. (taken_there b is, taken_back b is);
      last_is = last_after;
    }

  -- a content in place of another, whose blob is then marked
  module _ (old : Asset) (row : row_of s key ≡ Some old) (new : Tree) (reason : List ℕ) (at : ℕ) (olds : Props) (old_was : Reads tree old.blob olds)
      (old_now : Reads new old.blob (with_mark olds reason at)) (rest : RestOfPlace (place_of old.blob) mid new) where
    abbrev deletion : Deletion
    deletion = record { at = at; key = key }

    has : contents_in s.rows key ≡ Some (content_in old)
    has = ap (option_map content_in) row

    named : (p : Props) × Live (homes_of config) tree key old.blob p × (p ≡ olds)
    named =
        let w = a.names.named key (content_in old) has in
        (w.0, w.1, says_same tree old.blob old.blob w.0 olds w.1.intact.readable old_was (refl, refl))

    of_key : olds.key ≡ key
    of_key = let w = named in sym (ap (λ (p : Props). p.key) w.2) ∙ w.1.of_key

    unmarked : olds.deleted ≡ None
    unmarked = let w = named in sym (ap (λ (p : Props). p.deleted) w.2) ∙ w.1.unmarked

    old_mid : Reads mid old.blob olds
    old_mid = kept old.blob olds old_was

    after : (b : BlobRef) (q : Props) → Reads new b q
        → ((b ≡ old.blob) × (q ≡ with_mark olds reason at)) ⊎ ((SameFiles b old.blob → ⊥) × Reads mid b q)
    after b q r = reads_new mid new old.blob old_was.named rest (with_mark olds reason at) old_now b q r

    on : (b : BlobRef) (q : Props) → (SameFiles b old.blob → ⊥) → Reads mid b q → Reads new b q
    on b q away r = reads_kept mid new old.blob old_was.named rest b q away r

    marked_apart : (b : BlobRef) (d : Deletion) → IsMarked tree b d → SameFiles b old.blob → ⊥
    marked_apart b d w same =
        let q = says_same tree b old.blob w.props olds w.reads old_was same in
        none_or_some d.at (sym (ap (λ (x : Option Deleted). option_map (λ (y : Deleted). y.at) x) (ap (λ (p : Props). p.deleted) q ∙ unmarked)) ∙ w.at)

    trash_there : (b : BlobRef) (d : Deletion) → map.get (map.insert s.trash old.blob deletion) b ≡ Some d → IsMarked new b d
    trash_there b d is = elim (same_or_other_ref b old.blob) [
      | inl here ↦
          let d_is : deletion ≡ d = some_is deletion d (sym (put_at s.trash old.blob deletion b here) ∙ is) in
          subst (λ (x : Deletion). IsMarked new b x) d_is
          (subst (λ (r : BlobRef). IsMarked new r deletion) (sym here) (record { props = with_mark olds reason at; reads = old_now; at = refl; of_key = of_key }))
      | inr differ ↦
          let w = (a.trash_is b d).0 (sym (put_beside s.trash old.blob deletion b differ) ∙ is) in
          record { props = w.props; reads = on b w.props (marked_apart b d w) (kept b w.props w.reads); at = w.at; of_key = w.of_key }
    ]

    trash_back : (b : BlobRef) (d : Deletion) → IsMarked new b d → map.get (map.insert s.trash old.blob deletion) b ≡ Some d
    trash_back b d w = elim (after b w.props w.reads) [
      | inl here ↦
          let said : option_map (λ (x : Deleted). x.at) w.props.deleted ≡ Some at = ap (λ (p : Props). option_map (λ (x : Deleted). x.at) p.deleted) here.1 in
          let at_is : at ≡ d.at = some_is at d.at (sym said ∙ w.at) in
          let key_is : key ≡ d.key = sym of_key ∙ sym (ap (λ (p : Props). p.key) here.1) ∙ w.of_key in
          put_at s.trash old.blob deletion b here.0 ∙ (λ i. Some (record { at = at_is i; key = key_is i }))
      | inr before ↦
          put_beside s.trash old.blob deletion b (λ e. before.0 (same_to_files b old.blob e))
          ∙ (a.trash_is b d).1 (marked_back b d (record { props = w.props; reads = before.1; at = w.at; of_key = w.of_key }))
    ]

    -- a loose blob has other files than the old one
    loose_apart : (b : BlobRef) (k : Key) → IsLoose (homes_of config) s.rows tree b k → SameFiles b old.blob → ⊥
    loose_apart b k l same =
        let b_is = blob_same tree b old.blob l.props olds l.reads old_was same in
        let q = says_same tree b old.blob l.props olds l.reads old_was same in
        let k_is : k ≡ key = sym l.of_key ∙ ap (λ (p : Props). p.key) q ∙ of_key in
        l.unnamed old (ap (λ (x : Key). map.get s.rows x) k_is ∙ row) (sym b_is)

    loose_on : (b : BlobRef) (k : Key) → IsLoose (homes_of config) s.rows tree b k → IsLoose (homes_of config) rows new b k
    loose_on b k l = record {
      props = l.props;
      reads = on b l.props (loose_apart b k l) (kept b l.props l.reads);
      unmarked = l.unmarked;
      of_key = l.of_key;
      home = l.home;
      unnamed = named_there b k l.props l.reads l.unnamed;
    }

    loose_off : (b : BlobRef) (k : Key) → IsLoose (homes_of config) rows new b k → IsLoose (homes_of config) s.rows tree b k
    loose_off b k l = elim (after b l.props l.reads) [
      | inl here ↦ absurd (none_or_some (record { reason = reason; at = at }) (sym l.unmarked ∙ ap (λ (p : Props). p.deleted) here.1))
      | inr between ↦ elim (either b l.props between.1) [
        | inl new_one ↦ absurd (new_is_named b k l.props new_one.0 new_one.1 l.of_key l.unnamed)
        | inr before ↦ record {
          props = l.props;
          reads = before.1;
          unmarked = l.unmarked;
          of_key = l.of_key;
          home = l.home;
          unnamed = λ x is. elim (same_or_other_key k key) [
            | inl at_key ↦
                let x_is : old ≡ x = some_is old x (sym row ∙ ap (λ (y : Key). map.get s.rows y) (sym at_key) ∙ is) in
                λ e. between.0 (same_to_files b old.blob (sym e ∙ sym (ap (λ (y : Asset). y.blob) x_is)))
            | inr differ ↦ l.unnamed x (set_beside s.rows key asset k differ ∙ is)
          ];
        }
      ]
    ]

    same_some : (b : BlobRef) → IsRef b → is_some (new (props_name b)) ≡ is_some (mid (props_name b))
    same_some b is = elim (same_or_other b old.blob) [
      | inl same ↦
          let name = same_names b old.blob Properties same in
          ap (λ (o : Option (List ℕ)). is_some o) (ap new name ∙ old_now.stands) ∙ sym (ap (λ (o : Option (List ℕ)). is_some o) (ap mid name ∙ old_mid.stands))
      | inr away ↦ ap (λ (o : Option (List ℕ)). is_some o) (apart_name mid new old.blob old_was.named rest b is away)
    ]

    dead : NoneLive (homes_of config) new old.blob
    dead = marked_is_not_live (homes_of config) new old.blob old_now.text old_now.stands (with_mark olds reason at, old_now.says, refl)

    pub files_replaced : (trash : map.FinMap age_cmp Deletion) → trash ≡ map.insert s.trash old.blob deletion
        → FilesAgree config new (record s { rows = rows; trash = trash; last = blob.timestamp; taken = set.insert s.taken (spot_of blob) })
    files_replaced trash trash_is = record {
      names = names_ext (homes_of config) (with_content key (Some (content_of blob props)) (contents_in s.rows)) (contents_in rows) new in_contents
          (replaced_names (homes_of config) (contents_in s.rows) blob tree mid new key (content_in old) props a.names has m.rest was m.live rest dead);
      trash_is = λ b d. (
        (λ is. trash_there b d (ap (λ (t : map.FinMap age_cmp Deletion). map.get t b) (sym trash_is) ∙ is)),
        (λ w. ap (λ (t : map.FinMap age_cmp Deletion). map.get t b) trash_is ∙ trash_back b d w),
      );
      loose_is = λ b k. ((λ is. loose_on b k ((a.loose_is b k).0 is)), (λ l. (a.loose_is b k).1 (loose_off b k l)));
      taken_is = λ b is. (
        (λ t. same_some b is ∙ taken_there b is t),
        (λ t. taken_back b is (sym (same_some b is) ∙ t)),
      );
      last_is = λ b q r. elim (after b q r) [
        | inl here ↦ last_after b olds (subst (λ (x : BlobRef). Reads mid x olds) (sym here.0) old_mid)
        | inr before ↦ last_after b q before.1
      ];
    }
