-- The bytes of a download, as they are given out.
use Rattle.std.specs.Prelude.{◌≡◌, ℕ, ◌+◌, ◌≤◌, List, [], ◌++◌, take, Result, Ok, Err}
use Rattle.nx_io.specs.Causes.{Rose}
use Rattle.blob_files.specs.declared.download.Download.{Download}
use Rattle.blob_files.specs.Downloads.{to_come, IsWhole}
use Rattle.http_front.specs.declared.unsaid.Unsaid.{Unsaid}
use Rattle.http_front.specs.declared.unsaid.Unsaid.TheVariants.{WriteFault, DownloadFault}

-- where the file tells its bytes and has them all, they are those that were still to come
abbrev pub IsGiven : {R : Type 0} → Type 0 → (R → List ℕ) → Download R → List ℕ → Type 0
IsGiven told left download bytes = told → IsWhole left download → bytes ≡ to_come left download

-- So many bytes of a download were read into a piece, behind the first bytes of it.
pub record HasRead {R : Type 0} (told : Type 0) (left : R → List ℕ) (faults : R → ℕ) (old new : Download R) (before piece : List ℕ) (at count : ℕ) : Type 0 where
  pub part : List ℕ
  pub filled : take (at + count) piece ≡ before ++ part
  pub given : new.given ≡ old.given + count
  pub size : new.size ≡ old.size
  pub rest : told → IsWhole left old → to_come left old ≡ part ++ to_come left new
  pub whole : told → IsWhole left old → IsWhole left new
  pub none : count ≡ 0 → part ≡ []
  pub later : faults old.reader ≤ faults new.reader

-- a download fails only where its reader did, or where the file ended too early, which never is so of one that tells its bytes and has
-- them all
abbrev pub HasFailed : {R : Type 0} → Type 0 → (R → List ℕ) → (R → ℕ) → Download R → Download R → Result (Unit {0}) Unsaid → Type 0
HasFailed told left faults old new (Ok x) = faults old.reader ≤ faults new.reader
HasFailed told left faults old new (Err WriteFault) = faults old.reader ≤ faults new.reader
HasFailed told left faults old new (Err DownloadFault) =
    (faults old.reader ≤ faults new.reader) × (told → IsWhole left old → Rose (faults old.reader) (faults new.reader))

-- the head of a response, and such bytes behind it
abbrev pub IsGivenBehind : {R : Type 0} → Type 0 → (R → List ℕ) → List ℕ → Download R → List ℕ → Type 0
IsGivenBehind told left prefix download bytes = (content : List ℕ) × IsGiven told left download content × (bytes ≡ prefix ++ content)

-- a download fails only where the disk's count rose, or where the file ended too early
abbrev pub HasGivenCause : {R : Type 0} → Type 0 → (R → List ℕ) → ℕ → ℕ → Download R → Result (Unit {0}) Unsaid → Type 0
HasGivenCause told left before now download (Ok x) = Unit {0}
HasGivenCause told left before now download (Err WriteFault) = Unit {0}
HasGivenCause told left before now download (Err DownloadFault) = told → IsWhole left download → Rose before now
