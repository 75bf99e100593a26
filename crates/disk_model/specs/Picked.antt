-- The image that a number picks of the values that a crash may leave.
use Rattle.std.specs.Prelude.{◌≡◌, ℕ, ◌/◌, ◌%◌, List, [], ◌∷◌, length, Option, Some, None, if◌then◌else◌}
use Rattle.std.specs.List.{slice_index_or}
use Rattle.std.specs.Str.{bytes_eq}
use Rattle.disk_model.specs.Disk.{Tree, Lists, Outside, IsIn, Rises}

-- the value of a list that the least digit of the number chooses
abbrev pub value_picked : List (Option (List ℕ)) → ℕ → Option (List ℕ)
value_picked list pick = slice_index_or list (pick % length list) None

-- The digits of the number choose a value for each name. The first name goes by the least digit.
abbrev pub picked : Lists → List (List ℕ) → ℕ → Tree
picked lists [] pick n = None
picked lists (x ∷ xs) pick n =
    if bytes_eq n x then value_picked (lists x) pick else picked lists xs (pick / length (lists x)) n

-- Names in byte order, all outside tmp, such that of each other name outside tmp a crash leaves nothing.
pub record AreNames (lists : Lists) (names : List (List ℕ)) : Type 0 where
  pub rises : Rises names
  pub outside : (n : List ℕ) → IsIn n names → Outside n
  pub others : (n : List ℕ) → Outside n → (IsIn n names → ⊥) → lists n ≡ None ∷ []

-- the first value, or else the second
abbrev pub or_else : Option (List ℕ) → Option (List ℕ) → Option (List ℕ)
or_else None other = other
or_else (Some v) other = Some v
