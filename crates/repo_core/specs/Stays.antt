-- Contents of blobs that stay.
use Rattle.std.specs.Prelude.{◌≡◌, IsSome}
use Rattle.nx_base.specs.declared.blob_ref.BlobRef.{BlobRef}
use Rattle.disk_model.specs.Disk.{Tree}
use Rattle.tree_content.specs.Blobs.{IsRef, bytes_name, props_name}

-- the content of each blob that stood is the same
abbrev pub BytesStay : Tree → Tree → Type 0
BytesStay old new = (blob : BlobRef) → IsRef blob → IsSome (old (props_name blob)) → new (bytes_name blob) ≡ old (bytes_name blob)
