-- The files that are no blob's.
use Rattle.std.specs.Prelude.{◌≡◌, ◌⊎◌, ℕ, List}
use Rattle.nx_base.specs.declared.blob_ref.BlobRef.{BlobRef}
use Rattle.disk_model.specs.Disk.{Tree}
use Rattle.tree_content.specs.Blobs.{bytes_name, props_name}
use Rattle.repo_core.specs.Parts.{KeepsBut}

-- the name is that of a file of a blob
abbrev pub IsBlobName : List ℕ → Type 0
IsBlobName n = (blob : BlobRef) × ((n ≡ bytes_name blob) ⊎ (n ≡ props_name blob))

-- outside `tmp` each file whose name is no blob's is as it was
abbrev pub OthersStay : Tree → Tree → Type 0
OthersStay old new = KeepsBut IsBlobName old new
