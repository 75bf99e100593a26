-- Why a mark wasn't made, and what a crash leaves of it.
use Rattle.std.specs.Prelude.{◌≡◌, ◌⊎◌, ℕ, List, Some}
use Rattle.disk_model.specs.Disk.{Tree, Same, Rest}
use Rattle.disk_model.specs.declared.disk_err.DiskErr.TheVariants as disk
use Rattle.blob_properties.specs.declared.to_pairs_err.ToPairsErr.{ToPairsErr}
use Rattle.blob_properties.specs.declared.to_pairs_err.ToPairsErr.TheVariants as pairs
use Rattle.soft_delete.specs.declared.mark_err.MarkErr.{MarkErr}
use Rattle.soft_delete.specs.declared.mark_err.MarkErr.TheVariants.{Disk, Full, NoMemory}

-- what a text that can't be made is
abbrev pub of_text : ToPairsErr → MarkErr
of_text pairs.Full = Full
of_text pairs.NoMemory = NoMemory

-- the refusal that tells of a fault of the disk
abbrev pub IsFault : MarkErr → Type 0
IsFault (Disk disk.Failed) = Unit {0}
IsFault (Disk disk.NoMemory) = ⊥
IsFault Full = ⊥
IsFault NoMemory = ⊥

-- the tree as it was, or with this text at the name
abbrev pub OldOrText : Tree → List ℕ → List ℕ → Tree → Type 0
OldOrText tree name text image = Same tree image ⊎ ((image name ≡ Some text) × Rest name tree image)
