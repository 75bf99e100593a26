-- What the calls of a disk do to its tree, and to the values that a crash may leave.
use Rattle.std.specs.Prelude.{◌<◌, ◌≡◌, ◌≢◌, ◌⊎◌, ℕ, ◌+◌, ◌≤◌, List, [], ◌∷◌, ◌++◌, length, take, Option, IsSome, Result, Ok, Err, codes}
use Rattle.std.specs.declared.cmp.Ordering.TheVariants.{Less}
use Rattle.nx_base.specs.Order.{name_cmp}
use Rattle.nx_io.specs.Causes.{Rose}
use Rattle.disk_model.specs.declared.disk_err.DiskErr.{DiskErr}
use Rattle.disk_model.specs.declared.disk_err.DiskErr.TheVariants.{Failed, NoMemory}

-- the value of each name, or nothing
abbrev pub Tree : Type 0
Tree = List ℕ → Option (List ℕ)

-- of each name the values that a crash may leave, in the order in which they joined
abbrev pub Lists : Type 0
Lists = List ℕ → List (Option (List ℕ))

-- `tmp`, and what is below it: the temporary files, of which a crash may leave anything
abbrev pub InTmp : List ℕ → Type 0
InTmp name = (name ≡ codes "tmp") ⊎ (take 4 name ≡ codes "tmp/")

abbrev pub Outside : List ℕ → Type 0
Outside name = InTmp name → ⊥

-- how many bytes `read_small` gives at most
unfoldable pub small_limit : ℕ
small_limit = 65537

-- the list has this value
abbrev pub Among : Option (List ℕ) → List (Option (List ℕ)) → Type 0
Among v [] = ⊥
Among v (w ∷ ws) = (v ≡ w) ⊎ Among v ws

-- what holds after Ok, after Failed, and after NoMemory
abbrev pub After : {T : Type 0} → Result T DiskErr → Type 0 → Type 0 → Type 0 → Type 0
After (Ok value) done failed refused = done
After (Err Failed) done failed refused = failed
After (Err NoMemory) done failed refused = refused

-- the refusal that tells of a fault
abbrev pub IsFault : DiskErr → Type 0
IsFault Failed = Unit {0}
IsFault NoMemory = ⊥

-- outside tmp nothing changed
abbrev pub Same : {V : Type 0} → (List ℕ → V) → (List ℕ → V) → Type 0
Same old new = (n : List ℕ) → Outside n → new n ≡ old n

-- outside tmp nothing changed but this name
abbrev pub Rest : {V : Type 0} → List ℕ → (List ℕ → V) → (List ℕ → V) → Type 0
Rest name old new = (n : List ℕ) → Outside n → n ≢ name → new n ≡ old n

-- The call gives a name this value. After Failed the name has the old value or the new.
pub record Puts {T : Type 0} (result : Result T DiskErr) (name : List ℕ) (value : Option (List ℕ)) (old new : Tree) : Type 0 where
  pub named : After result (new name ≡ value) ((new name ≡ old name) ⊎ (new name ≡ value)) (new name ≡ old name)
  pub rest : Rest name old new

-- The value joins the name's list, also where the call failed.
pub record Joins {T : Type 0} (result : Result T DiskErr) (name : List ℕ) (value : Option (List ℕ)) (old new : Lists) : Type 0 where
  pub named : After result (new name ≡ old name ++ value ∷ []) (new name ≡ old name ++ value ∷ []) (new name ≡ old name)
  pub rest : Rest name old new

-- The present value is left alone in the name's list. After Failed it may be so, or the list is as it was.
pub record Settles {T : Type 0} (result : Result T DiskErr) (name : List ℕ) (present : Option (List ℕ)) (old new : Lists) : Type 0 where
  pub named : After result (new name ≡ present ∷ []) ((new name ≡ old name) ⊎ (new name ≡ present ∷ [])) (new name ≡ old name)
  pub rest : Rest name old new

-- A part is taken back: the disk's count rises where the part's isn't 0, and else stays.
pub record TakesBack (before now part : ℕ) : Type 0 where
  pub later : before ≤ now
  pub sound : part ≡ 0 → now ≡ before
  pub faulty : 0 < part → Rose before now

-- the prefix itself, or a name below it
abbrev pub AtOrBelow : List ℕ → List ℕ → Type 0
AtOrBelow prefix name = (name ≡ prefix) ⊎ (take (length prefix + 1) name ≡ prefix ++ codes "/")

-- one of the names
abbrev pub IsIn : List ℕ → List (List ℕ) → Type 0
IsIn name [] = ⊥
IsIn name (x ∷ xs) = (name ≡ x) ⊎ IsIn name xs

-- in byte order, each once
abbrev pub Rises : List (List ℕ) → Type 0
Rises [] = Unit {0}
Rises (x ∷ []) = Unit {0}
Rises (x ∷ y ∷ rest) = (name_cmp x y ≡ Less) × Rises (y ∷ rest)

-- just the names at or below the prefix that have a value
pub record IsListing (prefix : List ℕ) (tree : Tree) (names : List (List ℕ)) : Type 0 where
  pub rises : Rises names
  pub all : (n : List ℕ) → AtOrBelow prefix n → IsSome (tree n) → IsIn n names
  pub only : (n : List ℕ) → IsIn n names → AtOrBelow prefix n × IsSome (tree n)
