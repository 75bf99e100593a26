-- The parts of a name that is as long as that of a file.
use Rattle.std.specs.Prelude.{◌≡◌, ℕ, List, ◌++◌, length}

-- what stands before the folders, the folders, the text of an id, and what stands behind it
pub record AreParts (name prefix folders text end : List ℕ) : Type 0 where
  pub whole : name ≡ prefix ++ (folders ++ (text ++ end))
  pub folders_length : length folders ≡ 24
  pub text_length : length text ≡ 36
