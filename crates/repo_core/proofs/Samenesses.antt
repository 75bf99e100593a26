-- Agreement of files and state where nothing that counts has changed.
use Rattle.std.proofs.Common.{◌≡◌, ◌≢◌, inl, inr, List, ℕ, Option, Some, is_some, sym, ◌∙◌, ap}
use Rattle.std.specs.Option.{option_map}
use Rattle.std.specs.FinMap as map
use Rattle.nx_base.specs.Order.{key_cmp}
use Rattle.nx_base.specs.declared.key.Key.{Key}
use Rattle.nx_base.specs.declared.asset.Asset.{Asset}
use Rattle.nx_base.specs.declared.blob_ref.BlobRef.{BlobRef}
use Rattle.repo_model.specs.Config.{Config}
use Rattle.repo_model.specs.State.{State, row_of}
use Rattle.disk_model.specs.Disk.{Tree, Same}
use Rattle.blob_paths.specs.Places.{file_of}
use Rattle.blob_paths.specs.declared.ending.Ending.TheVariants.{Properties}
use Rattle.blob_properties.specs.Props.{Props}
use Rattle.tree_content.specs.Blobs.{Homes, IsRef, Reads, Live, props_name}
use Rattle.tree_content.specs.Contents.{Content, Contents, NamesEachLive}
use Rattle.tree_content.proofs.Names.{outside}
use Rattle.tree_content.proofs.Blobs.{same_or_other_key, some_is}
use Rattle.tree_content.proofs.Changes.{live_moves}
use Rattle.repo_core.specs.Stores.{homes_of}
use Rattle.repo_core.specs.Rows.{content_in, contents_in}
use Rattle.repo_core.specs.Agree.{FilesAgree}
use Rattle.repo_core.proofs.Maps.{set_at, set_beside}
use Rattle.repo_core.proofs.Readings.{reads_at}

pub flip : (tree new : Tree) → Same tree new → Same new tree
flip tree new same n out = sym (same n out)

-- contents that are the same at each key
pub names_ext : (homes : Homes) (a b : Contents) (tree : Tree) → ((key : Key) → b key ≡ a key) → NamesEachLive homes a tree → NamesEachLive homes b tree
names_ext homes a b tree same names = record {
  named = λ key content is. names.named key content (sym (same key) ∙ is);
  only = λ key blob props live. let w = names.only key blob props live in (w.0, same key ∙ w.1, w.2);
}

module _ (config : Config) (tree new : Tree) (s : State) (same : Same tree new) where
  at_name : (b : BlobRef) → IsRef b → new (props_name b) ≡ tree (props_name b)
  at_name b ref = same (props_name b) (outside b Properties ref)

  there : (b : BlobRef) (q : Props) → Reads tree b q → Reads new b q
  there b q r = reads_at tree new b q (at_name b r.named) r

  back : (b : BlobRef) (q : Props) → Reads new b q → Reads tree b q
  back b q r = reads_at new tree b q (sym (at_name b r.named)) r

  lives : (k : Key) (b : BlobRef) (q : Props) → Live (homes_of config) tree k b q → Live (homes_of config) new k b q
  lives k b q live = live_moves (homes_of config) tree new k b q (λ ending. same (file_of b ending) (outside b ending live.intact.readable.named)) live

  lived : (k : Key) (b : BlobRef) (q : Props) → Live (homes_of config) new k b q → Live (homes_of config) tree k b q
  lived k b q live = live_moves (homes_of config) new tree k b q (λ ending. sym (same (file_of b ending) (outside b ending live.intact.readable.named))) live

  -- names in tmp play no part
  pub files_same : FilesAgree config tree s → FilesAgree config new s
  files_same a = record {
    names = record {
      named = λ key content is. let w = a.names.named key content is in (w.0, lives key content.blob w.0 w.1, w.2);
      only = λ key b q live. a.names.only key b q (lived key b q live);
    };
    trash_is = λ b d. (
      (λ is. let w = (a.trash_is b d).0 is in record { props = w.props; reads = there b w.props w.reads; at = w.at; of_key = w.of_key }),
      (λ w. (a.trash_is b d).1 (record { props = w.props; reads = back b w.props w.reads; at = w.at; of_key = w.of_key })),
    );
    loose_is = λ b k. (
      (λ is. let w = (a.loose_is b k).0 is in record { props = w.props; reads = there b w.props w.reads; unmarked = w.unmarked; of_key = w.of_key; home = w.home; unnamed = w.unnamed }),
      (λ w. (a.loose_is b k).1 (record { props = w.props; reads = back b w.props w.reads; unmarked = w.unmarked; of_key = w.of_key; home = w.home; unnamed = w.unnamed })),
    );
    taken_is = λ b ref. let e = ap (λ (o : Option (List ℕ)). is_some o) (at_name b ref) in (
      (λ t. e ∙ (a.taken_is b ref).0 t),
      (λ t. (a.taken_is b ref).1 (sym e ∙ t)),
    );
    last_is = λ b q r. a.last_is b q (back b q r);
  }

-- nor does the number of uploads
pub files_counted : (config : Config) (tree : Tree) (s : State) (counts : _) → FilesAgree config tree s → FilesAgree config tree (record s { counts = counts })
files_counted config tree s counts a = record { names = a.names; trash_is = a.trash_is; loose_is = a.loose_is; taken_is = a.taken_is; last_is = a.last_is }

-- nor when a content was last asked for: the row of a key may have another asset of the same content
module _ (config : Config) (tree : Tree) (s : State) (key : Key) (old seen : Asset) (row : row_of s key ≡ Some old) (same : content_in seen ≡ content_in old) where
  abbrev rows : map.FinMap key_cmp Asset
  rows = map.insert s.rows key seen

  same_contents : (k : Key) → contents_in rows k ≡ contents_in s.rows k
  same_contents k = elim (same_or_other_key k key) [
    | inl is ↦
        ap (option_map content_in) (set_at s.rows key seen k is) ∙ ap (λ (c : Content). Some c) same
        ∙ ap (option_map content_in) (sym row) ∙ ap (λ (x : Key). contents_in s.rows x) (sym is)
    | inr differ ↦ ap (option_map content_in) (set_beside s.rows key seen k differ)
  ]

  blob_is : seen.blob ≡ old.blob
  blob_is = ap (λ (c : Content). c.blob) same

  pub files_seen : FilesAgree config tree s → FilesAgree config tree (record s { rows = rows })
  files_seen a = record {
    names = names_ext (homes_of config) (contents_in s.rows) (contents_in rows) tree same_contents a.names;
    trash_is = a.trash_is;
    loose_is = λ b k. (
      (λ is. let w = (a.loose_is b k).0 is in record { props = w.props; reads = w.reads; unmarked = w.unmarked; of_key = w.of_key; home = w.home; unnamed = now_unnamed b k w.unnamed }),
      (λ w. (a.loose_is b k).1 (record { props = w.props; reads = w.reads; unmarked = w.unmarked; of_key = w.of_key; home = w.home; unnamed = was_unnamed b k w.unnamed })),
    );
    taken_is = a.taken_is;
    last_is = a.last_is;
  }
    where
      now_unnamed : (b : BlobRef) (k : Key) → ((x : Asset) → map.get s.rows k ≡ Some x → x.blob ≢ b) → (x : Asset) → map.get rows k ≡ Some x → x.blob ≢ b
      now_unnamed b k never x is = elim (same_or_other_key k key) [
        | inl at ↦
            let x_is : seen ≡ x = some_is seen x (sym (set_at s.rows key seen k at) ∙ is) in
            λ e. never old (ap (λ (q : Key). map.get s.rows q) at ∙ row) (sym blob_is ∙ ap (λ (q : Asset). q.blob) x_is ∙ e)
        | inr differ ↦ never x (sym (set_beside s.rows key seen k differ) ∙ is)
      ]

      was_unnamed : (b : BlobRef) (k : Key) → ((x : Asset) → map.get rows k ≡ Some x → x.blob ≢ b) → (x : Asset) → map.get s.rows k ≡ Some x → x.blob ≢ b
      was_unnamed b k never x is = elim (same_or_other_key k key) [
        | inl at ↦
            let x_is : old ≡ x = some_is old x (sym row ∙ ap (λ (q : Key). map.get s.rows q) (sym at) ∙ is) in
            λ e. never seen (set_at s.rows key seen k at) (blob_is ∙ ap (λ (q : Asset). q.blob) x_is ∙ e)
        | inr differ ↦ never x (set_beside s.rows key seen k differ ∙ is)
      ]
