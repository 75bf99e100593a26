-- The verdict on a blob.
use Rattle.std.specs.Prelude.{◌≡◌, ◌≢◌, ℕ, List, length, Some, None}
use Rattle.sha1.specs.Sha1.{sha1}
use Rattle.nx_base.specs.declared.blob_ref.BlobRef.{BlobRef}
use Rattle.disk_model.specs.Disk.{Tree}
use Rattle.blob_properties.specs.Props.{Props}
use Rattle.blob_properties.specs.Readable.{readable_of, Readable}
use Rattle.blob_properties.specs.declared.found.Verdict.{Verdict}
use Rattle.blob_properties.specs.declared.found.Verdict.TheVariants.{Intact, Unreadable, NoBytes, WrongSize, WrongSha1}
use Rattle.tree_content.specs.Blobs.{bytes_name, props_name}

-- the blob's properties file is there, and says these properties
abbrev pub SaysProps : Tree → BlobRef → Props → Type 0
SaysProps tree blob props = (text : List ℕ) × (tree (props_name blob) ≡ Some text) × Readable text props

-- the first of these that holds: the properties can't be read; there is no bytes file; it has another size than they say; it has another SHA-1; it is as they say
abbrev pub HasVerdict : Tree → BlobRef → Verdict → Type 0
HasVerdict tree blob Unreadable = (text : List ℕ) × (tree (props_name blob) ≡ Some text) × (readable_of text ≡ None)
HasVerdict tree blob NoBytes = (props : Props) × SaysProps tree blob props × (tree (bytes_name blob) ≡ None)
HasVerdict tree blob (WrongSize found) =
    (props : Props) × (bytes : List ℕ) × SaysProps tree blob props × (tree (bytes_name blob) ≡ Some bytes) × (length bytes ≡ found) × (found ≢ props.size)
HasVerdict tree blob WrongSha1 =
    (props : Props) × (bytes : List ℕ) × SaysProps tree blob props × (tree (bytes_name blob) ≡ Some bytes) × (length bytes ≡ props.size) × (sha1 bytes ≢ props.sha1)
HasVerdict tree blob Intact =
    (props : Props) × (bytes : List ℕ) × SaysProps tree blob props × (tree (bytes_name blob) ≡ Some bytes) × (length bytes ≡ props.size) × (sha1 bytes ≡ props.sha1)
