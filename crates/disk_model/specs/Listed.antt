-- Which names of a map stand at or below a prefix.
use Rattle.std.specs.Prelude.{ℕ, Bool, true, false, ◌&&◌, ◌==◌, List, [], ◌∷◌, Vec, String, if◌then◌else◌, IsSome}
use Rattle.std.specs.declared.alloc.Global.{Global}
use Rattle.std.specs.String.{string_bytes}
use Rattle.disk_model.specs.Disk.{Tree, AtOrBelow, IsIn, Rises}

-- whether a name is the prefix itself, or goes on with a slash
abbrev pub is_at_or_below : List ℕ → List ℕ → Bool
is_at_or_below [] [] = true
is_at_or_below [] (b ∷ name) = b == 47
is_at_or_below (p ∷ prefix) [] = false
is_at_or_below (p ∷ prefix) (b ∷ name) = b == p && is_at_or_below prefix name

-- the keys that a test chooses
abbrev pub listed : (List ℕ → Bool) → List (String Global × Vec ℕ Global) → List (List ℕ)
listed chosen [] = []
listed chosen (e ∷ es) = if chosen (string_bytes e.0) then string_bytes e.0 ∷ listed chosen es else listed chosen es

-- just the names that have a value and are neither the prefix nor below it
pub record AreBeside (prefix : List ℕ) (tree : Tree) (names : List (List ℕ)) : Type 0 where
  pub rises : Rises names
  pub all : (n : List ℕ) → (AtOrBelow prefix n → ⊥) → IsSome (tree n) → IsIn n names
  pub only : (n : List ℕ) → IsIn n names → AtOrBelow prefix n → ⊥
