-- What a size and a running digest are of.
use Rattle.std.specs.Prelude.{◌≡◌, ℕ, List, length}
use Rattle.sha1.specs.Sha1.{Holds}
use Rattle.blob_files.specs.declared.taken.Taken.{Taken}

-- all parts so far, joined, are these bytes: the hasher holds them, and they are counted
pub record IsOf (taken : Taken) (bytes : List ℕ) : Type 0 where
  pub held : Holds taken.hasher bytes
  pub sized : taken.size ≡ length bytes
