-- When files, rows and a core's own parts are what a state of the one-thread repository says.
use Rattle.std.specs.Prelude.{◌≡◌, ◌≢◌, ◌↔◌, ◌≤◌, true, IsTrue, Some, None, IsSome}
use Rattle.std.specs.Option.{option_map}
use Rattle.std.specs.FinMap as map
use Rattle.nx_base.specs.Order.{key_cmp}
use Rattle.nx_base.specs.declared.key.Key.{Key}
use Rattle.nx_base.specs.declared.asset.Asset.{Asset}
use Rattle.nx_base.specs.declared.blob_ref.BlobRef.{BlobRef}
use Rattle.repo_model.specs.declared.deletion.Deletion.{Deletion}
use Rattle.repo_model.specs.Config.{Config}
use Rattle.repo_model.specs.State.{State}
use Rattle.repo_model.specs.Storing.{is_taken}
use Rattle.disk_model.specs.Disk.{Tree}
use Rattle.blob_properties.specs.Props.{Props}
use Rattle.blob_properties.specs.declared.deleted.Deleted.{Deleted}
use Rattle.tree_content.specs.Blobs.{Homes, IsRef, Reads, props_name}
use Rattle.tree_content.specs.Contents.{NamesEachLive}
use Rattle.repo_core.specs.declared.own.Own.{Own}
use Rattle.repo_core.specs.Stores.{homes_of}
use Rattle.repo_core.specs.Rows.{contents_in}

-- a readable blob that is marked as deleted, with the time of the mark and its key
pub record IsMarked (tree : Tree) (blob : BlobRef) (deletion : Deletion) : Type 0 where
  pub props : Props
  pub reads : Reads tree blob props
  pub at : option_map (λ (mark : Deleted). mark.at) props.deleted ≡ Some deletion.at
  pub of_key : props.key ≡ deletion.key

-- a loose blob of a key: readable, not marked, in a store of the key's repository, and not what the key's row names
pub record IsLoose (homes : Homes) (rows : map.FinMap key_cmp Asset) (tree : Tree) (blob : BlobRef) (key : Key) : Type 0 where
  pub props : Props
  pub reads : Reads tree blob props
  pub unmarked : props.deleted ≡ None
  pub of_key : props.key ≡ key
  pub home : homes key.repo blob.store ≡ true
  pub unnamed : (asset : Asset) → map.get rows key ≡ Some asset → asset.blob ≢ blob

-- The files are what the state says: its rows and the live blobs name each other; its trash has just the marked blobs; the
-- loose blobs, and the names that are taken, are those of the tree; and no blob has a later timestamp than the last.
pub record FilesAgree (config : Config) (tree : Tree) (state : State) : Type 0 where
  pub names : NamesEachLive (homes_of config) (contents_in state.rows) tree
  pub trash_is : (blob : BlobRef) (deletion : Deletion) → (map.get state.trash blob ≡ Some deletion) ↔ IsMarked tree blob deletion
  pub loose_is : (blob : BlobRef) (key : Key) → (map.get state.loose blob ≡ Some key) ↔ IsLoose (homes_of config) state.rows tree blob key
  pub taken_is : (blob : BlobRef) → IsRef blob → IsTrue (is_taken state blob) ↔ IsSome (tree (props_name blob))
  pub last_is : (blob : BlobRef) (props : Props) → Reads tree blob props → blob.timestamp ≤ state.last

-- Nothing is broken, the files agree, the table's rows are the state's, and so is what the core keeps itself.
pub record Agrees (config : Config) (tree : Tree) (rows : map.FinMap key_cmp Asset) (own : Own) (state : State) : Type 0 where
  pub sound : state.broken ≡ None
  pub files : FilesAgree config tree state
  pub rows_are : rows ≡ state.rows
  pub trash_are : own.trash ≡ state.trash
  pub notes_are : own.notes ≡ state.notes
  pub last_are : own.last ≡ state.last
  pub counts_are : own.counts ≡ state.counts
