-- The tree and the lists of a disk in memory, read from its first files and the changes since.
use Rattle.std.specs.Prelude.{◌≡◌, ◌<◌, ◌≤◌, ℕ, ◌+◌, ◌^◌, Result, Bool, true, false, not, ◌&&◌, List, [], ◌∷◌, ◌++◌, Option, Some, None, Vec, if◌then◌else◌, nat_lt}
use Rattle.std.specs.declared.alloc.Global.{Global}
use Rattle.std.specs.Str.{bytes_eq}
use Rattle.disk_model.specs.declared.memory.change.Change.{Change}
use Rattle.disk_model.specs.Disk.{Tree, Lists, After}
use Rattle.disk_model.specs.declared.disk_err.DiskErr.{DiskErr}

abbrev pub Files : Type 0
Files = List (List ℕ × Vec ℕ Global)

-- the bytes of a value
abbrev pub value_of : Option (Vec ℕ Global) → Option (List ℕ)
value_of (Some v) = Some v.items
value_of None = None

-- the first file of that name
abbrev pub lookup : List ℕ → Files → Option (List ℕ)
lookup n [] = None
lookup n (f ∷ fs) = if bytes_eq n f.0 then Some f.1.items else lookup n fs

-- a name's present value, and its list
abbrev pub At : Type 0
At = Option (List ℕ) × List (Option (List ℕ))

-- the same after a change that settles or not, and took effect or not
abbrev pub changed : Bool → Bool → Option (List ℕ) → At → At
changed true true v s = (s.0, s.0 ∷ [])
changed true false v s = s
changed false true v s = (v, s.1 ++ v ∷ [])
changed false false v s = (s.0, s.1 ++ v ∷ [])

abbrev pub step : List ℕ → Change → At → At
step n c s = if bytes_eq n c.name then changed c.settles c.done (value_of c.value) s else s

abbrev pub run : List ℕ → List Change → At → At
run n [] s = s
run n (c ∷ cs) s = run n cs (step n c s)

-- a name's present value after one change, and after all of them
abbrev pub now_step : List ℕ → Change → Option (List ℕ) → Option (List ℕ)
now_step n c v = if not c.settles && (c.done && bytes_eq n c.name) then value_of c.value else v

abbrev pub now_of : List ℕ → List Change → Option (List ℕ) → Option (List ℕ)
now_of n [] v = v
now_of n (c ∷ cs) v = now_of n cs (now_step n c v)

-- the changes before a moment
abbrev pub until : ℕ → List Change → List Change
until t [] = []
until t (c ∷ cs) = if nat_lt c.at t then c ∷ until t cs else until t cs

-- what a disk starts with: each file alone in its list
abbrev pub first_of : List ℕ → Files → At
first_of n files = (lookup n files, lookup n files ∷ [])

abbrev pub tree_of : Files → List Change → Tree
tree_of files log n = (run n log (first_of n files)).0

-- the lists at a moment
abbrev pub lists_of : Files → List Change → ℕ → Lists
lists_of files log t n = (run n (until t log) (first_of n files)).1

-- whether all changes were before a moment
abbrev pub all_before : ℕ → List Change → Bool
all_before t [] = true
all_before t (c ∷ cs) = nat_lt c.at t && all_before t cs

-- whether two values are the same
abbrev pub same_value : Option (List ℕ) → Option (List ℕ) → Bool
same_value None None = true
same_value None (Some b) = false
same_value (Some a) None = false
same_value (Some a) (Some b) = bytes_eq a b

-- the clock after a call
pub record Moves (before now : ℕ) : Type 0 where
  pub later : before ≤ now
  pub at_most : now ≤ before + 1
  pub moves : before + 1 < 2 ^ 64 → now ≡ before + 1

-- one more change, which a failed call leaves too
abbrev pub Noted : {T : Type 0} → Result T DiskErr → ℕ → List ℕ → Option (Vec ℕ Global) → Bool → List Change → List Change → Type 0
Noted result t name value settles old new = After result
    (new ≡ old ++ record { at = t; name = name; value = value; done = true; settles = settles } ∷ [])
    (new ≡ old ++ record { at = t; name = name; value = value; done = false; settles = settles } ∷ [])
    (new ≡ old)
