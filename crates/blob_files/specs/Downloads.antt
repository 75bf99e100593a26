-- What a download has still to give.
use Rattle.std.specs.Prelude.{◌≡◌, ◌<◌, ℕ, ◌-◌, Bool, true, List, length, take}
use Rattle.repo_model.specs.declared.transfer.DownloadErr.{DownloadErr}
use Rattle.repo_model.specs.declared.transfer.DownloadErr.TheVariants.{DiskFault, Short}
use Rattle.blob_files.specs.declared.download.Download.{Download}

-- the bytes up to the asset's size that weren't given yet
abbrev pub to_come : {R : Type 0} → (R → List ℕ) → Download R → List ℕ
to_come left download = take (download.size - download.given) (left download.reader)

-- the file has all of them, and no more
abbrev pub IsWhole : {R : Type 0} → (R → List ℕ) → Download R → Type 0
IsWhole left download = length (left download.reader) ≡ download.size - download.given

-- the refusal that tells of a fault of the disk
abbrev pub IsFault : DownloadErr → Type 0
IsFault DiskFault = Unit {0}
IsFault (Short at) = ⊥

-- the file ended behind so many bytes, before the asset's size
abbrev pub IsShortAt : Bool → ℕ → ℕ → DownloadErr → Type 0
IsShortAt ended given size DiskFault = Unit {0}
IsShortAt ended given size (Short at) = (at ≡ given) × (given < size) × (ended ≡ true)
