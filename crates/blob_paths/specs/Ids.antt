-- What an id of a blob is, as bytes.
use Rattle.std.specs.Prelude.{◌≡◌, ◌<◌, ℕ, List, length, slice_index}

-- sixteen bytes
pub record IsId (id : List ℕ) : Type 0 where
  pub sixteen : length id ≡ 16
  pub bytes : (at : ℕ) → slice_index id at < 256
