-- A core over a disk without blobs and a table without rows stands for the repository in which nothing was stored.
use Rattle.std.proofs.Common.{◌≡◌, ℕ, List, Option, Some, None, IsSome, is_some, true, false, refl, sym, ◌∙◌, ap}
use Rattle.std.specs.Option.{option_map}
use Rattle.std.specs.FinMap as map
use Rattle.std.specs.FinSet as set
use Rattle.nx_base.specs.Order.{key_cmp, age_cmp}
use Rattle.nx_base.specs.declared.key.Key.{Key}
use Rattle.nx_base.specs.declared.asset.Asset.{Asset}
use Rattle.nx_base.specs.declared.blob_ref.BlobRef.{BlobRef}
use Rattle.repo_model.specs.declared.deletion.Deletion.{Deletion}
use Rattle.repo_model.specs.declared.plain.config.PlainConfig.{PlainConfig}
use Rattle.repo_model.specs.Config.{Config}
use Rattle.repo_model.specs.State.{empty_state}
use Rattle.repo_model.specs.Spots.{spot_cmp, spot_of}
use Rattle.repo_model.specs.Plain.{config_of}
use Rattle.disk_model.specs.Disk.{Tree}
use Rattle.asset_keeper.specs.Table.{Table}
use Rattle.blob_properties.specs.Props.{Props}
use Rattle.tree_content.specs.Blobs.{IsRef, Reads, props_name}
use Rattle.tree_content.specs.Contents.{Content}
use Rattle.tree_content.proofs.Blobs.{none_or_some}
use Rattle.repo_core.specs.Rows.{content_in, contents_in, rows_in}
use Rattle.repo_core.specs.Agree.{FilesAgree}
use Rattle.repo_core.specs.Fresh.{HasNoBlob, fresh_core}
use Rattle.repo_core.specs.Standing.{Tracks}

none_there : IsSome {T = List ℕ} None → ⊥
none_there e = cc

false_true : false ≡ true → ⊥
false_true e = cc

module _ (config : Config) (tree : Tree) (empty : HasNoBlob tree) where
  absent : (b : BlobRef) → IsRef b → tree (props_name b) ≡ None
  absent b ref = empty b ref

  -- nothing is readable
  unread : (b : BlobRef) (q : Props) → Reads tree b q → ⊥
  unread b q r = none_or_some r.text (sym (absent b r.named) ∙ r.stands)

  rowless : (key : Key) (content : Content) → contents_in map.empty key ≡ Some content → ⊥
  rowless key content is = none_or_some content (sym (ap (option_map content_in) (map.get-empty {X = Asset} key_cmp key)) ∙ is)

  pub empty_files : FilesAgree config tree empty_state
  empty_files = record {
    names = record {
      named = λ key content is. absurd (rowless key content is);
      only = λ key b q live. absurd (unread b q live.intact.readable);
    };
    trash_is = λ b d. (
      (λ is. absurd (none_or_some d (sym (map.get-empty {X = Deletion} age_cmp b) ∙ is))),
      (λ w. absurd (unread b w.props w.reads)),
    );
    loose_is = λ b k. (
      (λ is. absurd (none_or_some k (sym (map.get-empty {X = Key} age_cmp b) ∙ is))),
      (λ w. absurd (unread b w.props w.reads)),
    );
    taken_is = λ b ref. (
      (λ t. absurd (false_true (sym (set.contains-empty spot_cmp (spot_of b)) ∙ t))),
      (λ t. absurd (none_there (sym (ap (λ (o : Option (List ℕ)). is_some o) (absent b ref)) ∙ t))),
    );
    last_is = λ b q r. absurd (unread b q r);
  }

pub tracks_empty : {D T : Type 0} (tree : D → Tree) (table : T → Option Table) (disk : D) (rows : T) (config : PlainConfig) (callers room : ℕ) → HasNoBlob (tree disk) → rows_in (table rows) ≡ map.empty
    → Tracks tree table (fresh_core disk rows config callers room) empty_state
tracks_empty tree table disk rows config callers room empty rowless = record {
  broken = refl;
  agrees = λ _. record {
    sound = refl;
    files = empty_files (config_of config) (tree disk) empty;
    rows_are = rowless;
    trash_are = refl;
    notes_are = refl;
    last_are = refl;
    counts_are = refl;
  };
}
