-- What a core stands for, with the contents of its blobs.
use Rattle.std.specs.Prelude.{◌≡◌, ◌≤◌, Some, None}
use Rattle.std.specs.FinMap as map
use Rattle.nx_base.specs.Order.{key_cmp}
use Rattle.nx_base.specs.declared.key.Key.{Key}
use Rattle.nx_base.specs.declared.asset.Asset.{Asset}
use Rattle.nx_base.specs.declared.blob_ref.BlobRef.{BlobRef}
use Rattle.disk_model.specs.Disk.{Tree}
use Rattle.tree_content.specs.Blobs.{bytes_name}
use Rattle.repo_model.specs.State.{State}
use Rattle.http_front.specs.Contents.{Contents, bytes_of}
use Rattle.http_front.specs.Served.{Has}
use Rattle.repo_core.specs.View.{CoreView}
use Rattle.repo_core.specs.Standing.{Tracks}
use Rattle.repo_core.specs.Devices.{Devices}

-- the content of the blob that a row names is there, and is that of the blob's file
pub record IsHeld (tree : Tree) (contents : Contents) (blob : BlobRef) : Type 0 where
  pub there : Has contents blob
  pub file : tree (bytes_name blob) ≡ Some (bytes_of contents blob)

-- that of each row
abbrev pub AreHeld : Tree → map.FinMap key_cmp Asset → Contents → Type 0
AreHeld tree rows contents = (key : Key) (asset : Asset) → map.get rows key ≡ Some asset → IsHeld tree contents asset.blob

-- The core stands for the state, and for the contents: unless it broke, those of its rows; and none is of a later blob than the last.
pub record Stands {D T : Type 0} (devices : Devices D T) (core : CoreView D T) (state : State) (contents : Contents) : Type 0 where
  pub tracks : Tracks devices.tree devices.table core state
  pub held : core.broken ≡ None → AreHeld (devices.tree core.disk) state.rows contents
  pub older : (blob : BlobRef) → Has contents blob → blob.timestamp ≤ state.last
