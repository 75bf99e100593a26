-- A repository that nobody has used yet.
use Rattle.std.specs.Prelude.{◌≡◌, ℕ, [], None, replicate}
use Rattle.std.specs.FinMap as map
use Rattle.nx_base.specs.declared.blob_ref.BlobRef.{BlobRef}
use Rattle.disk_model.specs.Disk.{Tree}
use Rattle.repo_model.specs.declared.plain.config.PlainConfig.{PlainConfig}
use Rattle.tree_content.specs.Blobs.{IsRef, props_name}
use Rattle.repo_core.specs.declared.own.Own.{Own}
use Rattle.repo_core.specs.View.{CoreView}

-- no blob stands: no properties file has the name of one. Other files may be there.
abbrev pub HasNoBlob : Tree → Type 0
HasNoBlob tree = (blob : BlobRef) → IsRef blob → tree (props_name blob) ≡ None

-- nothing is kept
abbrev pub nothing_kept : Own
nothing_kept = record { trash = map.empty; notes = map.empty; last = 0; counts = map.empty }

-- a core over these devices that has answered nothing, with room for so many callers and entries
abbrev pub fresh_core : {D T : Type 0} → D → T → PlainConfig → ℕ → ℕ → CoreView D T
fresh_core disk table config callers room = record {
  disk = disk;
  table = table;
  config = config;
  journal = record { entries = []; room = room };
  own = nothing_kept;
  holds = replicate callers None;
  broken = None;
}
