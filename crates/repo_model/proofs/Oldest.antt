-- The oldest of notes that are read one after another.
use Rattle.std.proofs.Common.{ℕ, List, Option, Some, None, fold}
use Rattle.nx_base.specs.declared.key.Key.{Key}
use Rattle.repo_model.specs.Notes.{older_note, oldest}

-- the oldest of the notes so far and those that are left
abbrev pub oldest_from : Option (Key × ℕ) → List (Key × ℕ) → Option (Key × ℕ)
oldest_from None rest = oldest rest
oldest_from (Some best) rest = Some (fold older_note best rest)
