-- Agreement of files and state where the row of a key goes and its blob is marked.
use Rattle.std.proofs.Common.{◌≡◌, inl, inr, ℕ, ◌≤◌, List, Option, Some, None, is_some, refl, sym, ◌∙◌, ap, subst}
use Rattle.std.specs.Option.{option_map}
use Rattle.std.specs.FinMap as map
use Rattle.nx_base.specs.Order.{key_cmp}
use Rattle.nx_base.specs.declared.key.Key.{Key}
use Rattle.nx_base.specs.declared.asset.Asset.{Asset}
use Rattle.nx_base.specs.declared.blob_ref.BlobRef.{BlobRef}
use Rattle.repo_model.specs.declared.deletion.Deletion.{Deletion}
use Rattle.repo_model.specs.Config.{Config}
use Rattle.repo_model.specs.State.{State, row_of}
use Rattle.repo_model.specs.Deleting.{without_row}
use Rattle.disk_model.specs.Disk.{Tree}
use Rattle.blob_paths.specs.Places.{place_of}
use Rattle.blob_paths.specs.declared.ending.Ending.TheVariants.{Properties}
use Rattle.blob_properties.specs.Props.{Props, with_mark}
use Rattle.blob_properties.specs.declared.deleted.Deleted.{Deleted}
use Rattle.tree_content.specs.Blobs.{IsRef, Reads, Live, SameFiles, props_name}
use Rattle.tree_content.specs.Contents.{with_content, NoneLive}
use Rattle.tree_content.specs.Files.{RestOfPlace, SaysMarked}
use Rattle.tree_content.proofs.Names.{same_names, same_or_other}
use Rattle.tree_content.proofs.Blobs.{some_is, none_or_some, says_same, blob_same, same_or_other_key, marked_is_not_live}
use Rattle.tree_content.proofs.Naming.{lost_names}
use Rattle.repo_core.specs.Stores.{homes_of}
use Rattle.repo_core.specs.Rows.{content_in, contents_in}
use Rattle.repo_core.specs.Agree.{IsMarked, IsLoose, FilesAgree}
use Rattle.repo_core.proofs.Maps.{cut_at, cut_beside, put_at, put_beside, same_or_other_ref, key_test, other_key_test}
use Rattle.repo_core.proofs.Readings.{same_to_files, apart_name, reads_kept, reads_new}
use Rattle.repo_core.proofs.Samenesses.{names_ext}

-- the blob of a key's row, and what it says, before and after its mark
pub record Marks (config : Config) (tree new : Tree) (s : State) (key : Key) (asset : Asset) (reason : List ℕ) (at : ℕ) : Type 0 where
  pub row : row_of s key ≡ Some asset
  pub props : Props
  pub was : Reads tree asset.blob props
  pub now : Reads new asset.blob (with_mark props reason at)
  pub rest : RestOfPlace (place_of asset.blob) tree new

-- the contents without a row
pub cut_contents : (rows : map.FinMap key_cmp Asset) (key k : Key) → contents_in (map.remove rows key) k ≡ with_content key None (contents_in rows) k
cut_contents rows key k = elim (same_or_other_key k key) [
  | inl is ↦ ap (option_map content_in) (cut_at rows key k is) ∙ sym (rw (key_test k key is) refl)
  | inr differ ↦ ap (option_map content_in) (cut_beside rows key k differ) ∙ sym (rw (other_key_test k key differ) refl)
]

module _ (config : Config) (tree new : Tree) (s : State) (a : FilesAgree config tree s) (key : Key) (asset : Asset) (reason : List ℕ) (at : ℕ)
    (marks : Marks config tree new s key asset reason at) where
  abbrev blob : BlobRef
  blob = asset.blob

  abbrev deletion : Deletion
  deletion = record { at = at; key = key }

  has : contents_in s.rows key ≡ Some (content_in asset)
  has = ap (option_map content_in) marks.row

  -- what the blob said is what a live blob of the key says
  pub named_props : (p : Props) × Live (homes_of config) tree key blob p × (p ≡ marks.props)
  named_props =
      let w = a.names.named key (content_in asset) has in
      (w.0, w.1, says_same tree blob blob w.0 marks.props w.1.intact.readable marks.was (refl, refl))

  pub of_key : marks.props.key ≡ key
  of_key = let w = named_props in sym (ap (λ (p : Props). p.key) w.2) ∙ w.1.of_key

  pub unmarked : marks.props.deleted ≡ None
  unmarked = let w = named_props in sym (ap (λ (p : Props). p.deleted) w.2) ∙ w.1.unmarked

  pub marked_now : SaysMarked marks.now.text
  marked_now = (with_mark marks.props reason at, marks.now.says, refl)

  pub dead : NoneLive (homes_of config) new blob
  dead = marked_is_not_live (homes_of config) new blob marks.now.text marks.now.stands marked_now

  -- a blob that is marked before has other files
  marked_apart : (b : BlobRef) (d : Deletion) → IsMarked tree b d → SameFiles b blob → ⊥
  marked_apart b d m same =
      let q = says_same tree b blob m.props marks.props m.reads marks.was same in
      none_or_some d.at (sym (ap (λ (x : Option Deleted). option_map (λ (y : Deleted). y.at) x) (ap (λ (p : Props). p.deleted) q ∙ unmarked)) ∙ m.at)

  pub trash_there : (b : BlobRef) (d : Deletion) → map.get (map.insert s.trash blob deletion) b ≡ Some d → IsMarked new b d
  trash_there b d is = elim (same_or_other_ref b blob) [
    | inl here ↦
        let d_is : deletion ≡ d = some_is deletion d (sym (put_at s.trash blob deletion b here) ∙ is) in
        subst (λ (x : Deletion). IsMarked new b x) d_is
        (subst (λ (r : BlobRef). IsMarked new r deletion) (sym here) (record { props = with_mark marks.props reason at; reads = marks.now; at = refl; of_key = of_key }))
    | inr differ ↦
        let m = (a.trash_is b d).0 (sym (put_beside s.trash blob deletion b differ) ∙ is) in
        record { props = m.props; reads = reads_kept tree new blob marks.was.named marks.rest b m.props (marked_apart b d m) m.reads; at = m.at; of_key = m.of_key }
  ]

  pub trash_back : (b : BlobRef) (d : Deletion) → IsMarked new b d → map.get (map.insert s.trash blob deletion) b ≡ Some d
  trash_back b d m = elim (reads_new tree new blob marks.was.named marks.rest (with_mark marks.props reason at) marks.now b m.props m.reads) [
    | inl here ↦
        let said : option_map (λ (x : Deleted). x.at) m.props.deleted ≡ Some at = ap (λ (p : Props). option_map (λ (x : Deleted). x.at) p.deleted) here.1 in
        let at_is : at ≡ d.at = some_is at d.at (sym said ∙ m.at) in
        let key_is : key ≡ d.key = sym of_key ∙ sym (ap (λ (p : Props). p.key) here.1) ∙ m.of_key in
        put_at s.trash blob deletion b here.0 ∙ (λ i. Some (record { at = at_is i; key = key_is i }))
    | inr before ↦
        put_beside s.trash blob deletion b (λ e. before.0 (same_to_files b blob e))
        ∙ (a.trash_is b d).1 (record { props = m.props; reads = before.1; at = m.at; of_key = m.of_key })
  ]

  -- a loose blob has other files than the blob of the key's row
  pub loose_apart : (b : BlobRef) (k : Key) → IsLoose (homes_of config) s.rows tree b k → SameFiles b blob → ⊥
  loose_apart b k l same =
      let b_is = blob_same tree b blob l.props marks.props l.reads marks.was same in
      let q = says_same tree b blob l.props marks.props l.reads marks.was same in
      let k_is : k ≡ key = sym l.of_key ∙ ap (λ (p : Props). p.key) q ∙ of_key in
      l.unnamed asset (ap (λ (x : Key). map.get s.rows x) k_is ∙ marks.row) (sym b_is)

  same_some : (b : BlobRef) → IsRef b → is_some (new (props_name b)) ≡ is_some (tree (props_name b))
  same_some b ref = elim (same_or_other b blob) [
    | inl same ↦
        let name = same_names b blob Properties same in
        ap (λ (o : Option (List ℕ)). is_some o) (ap new name ∙ marks.now.stands) ∙ sym (ap (λ (o : Option (List ℕ)). is_some o) (ap tree name ∙ marks.was.stands))
    | inr apart ↦ ap (λ (o : Option (List ℕ)). is_some o) (apart_name tree new blob marks.was.named marks.rest b ref apart)
  ]

  pub files_marked : FilesAgree config new (without_row s key asset at)
  files_marked = record {
    names = names_ext (homes_of config) (with_content key None (contents_in s.rows)) (contents_in (map.remove s.rows key)) new (cut_contents s.rows key)
        (lost_names (homes_of config) (contents_in s.rows) tree new key (content_in asset) a.names has marks.rest dead);
    trash_is = λ b d. (trash_there b d, trash_back b d);
    loose_is = λ b k. (
      (λ is. let l = (a.loose_is b k).0 is in record {
        props = l.props;
        reads = reads_kept tree new blob marks.was.named marks.rest b l.props (loose_apart b k l) l.reads;
        unmarked = l.unmarked;
        of_key = l.of_key;
        home = l.home;
        unnamed = λ x here. elim (same_or_other_key k key) [
          | inl at_key ↦ absurd (none_or_some x (sym (cut_at s.rows key k at_key) ∙ here))
          | inr differ ↦ l.unnamed x (sym (cut_beside s.rows key k differ) ∙ here)
        ];
      }),
      (λ l. elim (reads_new tree new blob marks.was.named marks.rest (with_mark marks.props reason at) marks.now b l.props l.reads) [
        | inl here ↦ absurd (none_or_some (record { reason = reason; at = at }) (sym l.unmarked ∙ ap (λ (p : Props). p.deleted) here.1))
        | inr before ↦ (a.loose_is b k).1 (record {
          props = l.props;
          reads = before.1;
          unmarked = l.unmarked;
          of_key = l.of_key;
          home = l.home;
          unnamed = λ x here. elim (same_or_other_key k key) [
            | inl at_key ↦
                let x_is : asset ≡ x = some_is asset x (sym marks.row ∙ ap (λ (y : Key). map.get s.rows y) (sym at_key) ∙ here) in
                λ e. before.0 (same_to_files b blob (sym e ∙ sym (ap (λ (y : Asset). y.blob) x_is)))
            | inr differ ↦ l.unnamed x (cut_beside s.rows key k differ ∙ here)
          ];
        })
      ]),
    );
    taken_is = λ b ref. let e = same_some b ref in (
      (λ t. e ∙ (a.taken_is b ref).0 t),
      (λ t. (a.taken_is b ref).1 (sym e ∙ t)),
    );
    last_is = λ b q r. elim (reads_new tree new blob marks.was.named marks.rest (with_mark marks.props reason at) marks.now b q r) [
      | inl here ↦ subst (λ (x : BlobRef). x.timestamp ≤ s.last) (sym here.0) (a.last_is blob marks.props marks.was)
      | inr before ↦ a.last_is b q before.1
    ];
  }
