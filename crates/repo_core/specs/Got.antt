-- What a look gave.
use Rattle.std.specs.Prelude.{◌≡◌, ℕ, List, length, Some}
use Rattle.sha1.specs.Sha1.{sha1}
use Rattle.nx_base.specs.declared.asset.Asset.{Asset}
use Rattle.disk_model.specs.Disk.{Tree}
use Rattle.repo_model.specs.declared.call.Look.{Look}
use Rattle.repo_model.specs.declared.call.Look.TheVariants as look
use Rattle.repo_model.specs.declared.transfer.GotOf.{GotOf}
use Rattle.repo_model.specs.declared.transfer.GotOf.TheVariants as got
use Rattle.blob_files.specs.declared.download.Download.{Download}
use Rattle.tree_content.specs.Blobs.{bytes_name}

-- the bytes are those of the asset's content
pub record IsContentOf (asset : Asset) (bytes : List ℕ) : Type 0 where
  pub sized : length bytes ≡ asset.size
  pub digested : sha1 bytes ≡ asset.sha1

-- nothing was given yet of a file that has as many bytes as the asset, and whose reader hasn't failed
pub record IsOpenedFor {R : Type 0} (size faults : R → ℕ) (asset : Asset) (download : Download R) : Type 0 where
  pub reads : download.size ≡ asset.size
  pub nothing : download.given ≡ 0
  pub sized : size download.reader ≡ asset.size
  pub sound : faults download.reader ≡ 0

-- a GET gives the bytes, and a HEAD only what is known
abbrev pub IsGotFor : {L : Type 0} → Look → GotOf L → Type 0
IsGotFor look.Get (got.Hit asset download) = Unit {0}
IsGotFor look.Get (got.Seen asset) = ⊥
IsGotFor look.Get (got.NeedFetch key) = ⊥
IsGotFor look.Head (got.Hit asset download) = ⊥
IsGotFor look.Head (got.Seen asset) = Unit {0}
IsGotFor look.Head (got.NeedFetch key) = ⊥

-- a download of a file that has just been opened
abbrev pub GotOpened : {R : Type 0} → (R → ℕ) → (R → ℕ) → GotOf (Download R) → Type 0
GotOpened size faults (got.Hit asset download) = IsOpenedFor size faults asset download
GotOpened size faults (got.Seen asset) = Unit {0}
GotOpened size faults (got.NeedFetch key) = Unit {0}

-- the bytes are those of the blob's file
abbrev pub GotFile : {R : Type 0} → (R → List ℕ) → Tree → GotOf (Download R) → Type 0
GotFile left tree (got.Hit asset download) = tree (bytes_name asset.blob) ≡ Some (left download.reader)
GotFile left tree (got.Seen asset) = Unit {0}
GotFile left tree (got.NeedFetch key) = Unit {0}

-- and those of the asset's content
abbrev pub GotContent : {R : Type 0} → (R → List ℕ) → GotOf (Download R) → Type 0
GotContent left (got.Hit asset download) = IsContentOf asset (left download.reader)
GotContent left (got.Seen asset) = Unit {0}
GotContent left (got.NeedFetch key) = Unit {0}
