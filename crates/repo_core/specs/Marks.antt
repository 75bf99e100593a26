-- The mark of a blob that is about to be deleted.
use Rattle.std.specs.Prelude.{◌≡◌, ◌⊎◌, ℕ, List, Option, Some, None, IsSome}
use Rattle.nx_base.specs.declared.asset.Asset.{Asset}
use Rattle.disk_model.specs.declared.disk_err.DiskErr.{DiskErr}
use Rattle.repo_core.specs.declared.denial.Denial.{Denial}
use Rattle.repo_core.specs.declared.denial.Denial.TheVariants as denial
use Rattle.nx_base.specs.declared.blob_ref.BlobRef.{BlobRef}
use Rattle.disk_model.specs.Disk.{Tree}
use Rattle.blob_paths.specs.Places.{place_of}
use Rattle.blob_properties.specs.Props.{Props, with_mark}
use Rattle.blob_properties.specs.Readable.{Readable, marked_text_of}
use Rattle.tree_content.specs.Blobs.{props_at, props_name}
use Rattle.repo_core.specs.declared.marking.Mark.{Mark}
use Rattle.repo_core.specs.Faults.{of_disk}

-- The staged file has the text of the blob's properties with a mark of that reason and time, and the names are the blob's.
pub record IsMarkOf {S : Type 0} (content : S → List ℕ) (tree : Tree) (blob : BlobRef) (reason : List ℕ) (at : ℕ) (mark : Mark S) : Type 0 where
  pub text : List ℕ
  pub props : Props
  pub was : tree (props_name blob) ≡ Some text
  pub read : Readable text props
  pub place_is : mark.files.place ≡ place_of blob
  pub content_is : content mark.file ≡ marked_text_of props reason at
  pub says : Readable (marked_text_of props reason at) (with_mark props reason at)

-- The blob's properties have got the mark of that reason and time, and else say what they said.
pub record HasMark (tree new : Tree) (blob : BlobRef) (reason : List ℕ) (at : ℕ) : Type 0 where
  pub text : List ℕ
  pub props : Props
  pub was : tree (props_name blob) ≡ Some text
  pub read : Readable text props
  pub is : new (props_name blob) ≡ Some (marked_text_of props reason at)

-- the blob's properties say this
abbrev pub HasProps : Tree → BlobRef → Props → Type 0
HasProps tree blob props = (text : List ℕ) × (tree (props_name blob) ≡ Some text) × Readable text props

-- the file that a staged mark is to replace is there
abbrev pub HasOld : {S : Type 0} → Tree → Option (Mark S) → Type 0
HasOld tree None = Unit {0}
HasOld tree (Some mark) = IsSome (tree (props_at mark.files.place))

-- the blob has no properties file, or none that can be read
abbrev pub IsUnreadable : Tree → BlobRef → Type 0
IsUnreadable tree blob = (text : List ℕ) (props : Props) → tree (props_name blob) ≡ Some text → Readable text props → ⊥

-- a mark is staged, or the blob is unreadable
abbrev pub Stages : {S : Type 0} → (S → List ℕ) → Tree → BlobRef → List ℕ → ℕ → Option (Mark S) → Type 0
Stages content tree blob reason at (Some mark) = IsMarkOf content tree blob reason at mark
Stages content tree blob reason at None = IsUnreadable tree blob

-- why a deletion isn't staged: the disk or the memory failed, or the blob is unreadable, where files are told
abbrev pub NotStaged : Type 0 → Tree → Asset → Denial → Type 0
NotStaged told tree asset why =
    ((refusal : DiskErr) × (why ≡ denial.Failed (of_disk refusal))) ⊎ ((why ≡ denial.Damaged asset.size None) × (told → IsUnreadable tree asset.blob))
