-- What an upload has taken, and what is ready.
use Rattle.std.specs.Prelude.{◌≡◌, ℕ, List, length}
use Rattle.sha1.specs.Sha1.{sha1}
use Rattle.repo_model.specs.declared.transfer.UploadErr.{UploadErr}
use Rattle.repo_model.specs.declared.transfer.UploadErr.TheVariants.{BodyTooLarge, DiskFault, Dead, NoMemory}
use Rattle.blob_files.specs.declared.upload.Upload.{Upload}
use Rattle.blob_files.specs.declared.ready.Ready.{Ready}
use Rattle.blob_files.specs.Taken.{IsOf}

-- The parts that were accepted, joined, are these bytes: their size and digest are kept, and a file that tells has just them.
pub record HasTaken {W : Type 0} (told : Type 0) (written : W → List ℕ) (upload : Upload W) (bytes : List ℕ) : Type 0 where
  pub kept : IsOf upload.taken bytes
  pub written_is : told → written upload.writer ≡ bytes

-- the file is that of these bytes, with their size and digest
pub record IsReady {S : Type 0} (told : Type 0) (content : S → List ℕ) (ready : Ready S) (bytes : List ℕ) : Type 0 where
  pub content_is : told → content ready.file ≡ bytes
  pub sized : ready.size ≡ length bytes
  pub digested : ready.sha1 ≡ sha1 bytes

-- the refusal that tells of a fault of the disk
abbrev pub IsFault : UploadErr → Type 0
IsFault BodyTooLarge = ⊥
IsFault DiskFault = Unit {0}
IsFault Dead = ⊥
IsFault NoMemory = ⊥
