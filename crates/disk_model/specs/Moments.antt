-- The lists at each moment of a run of calls, and the images that a crash may leave then.
use Rattle.std.specs.Prelude.{◌≡◌, ◌⊎◌, ℕ, ◌+◌, ◌^◌, ◌<◌, ◌≤◌, List, Option}
use Rattle.disk_model.specs.Disk.{Tree, Lists, Outside, Among, Rest}

-- One call moves the clock by one, until it stands still at 2^64 - 1. The lists of earlier moments stay.
pub record Ticks (before now : ℕ) (past since : ℕ → Lists) : Type 0 where
  pub later : before ≤ now
  pub at_most : now ≤ before + 1
  pub moves : before + 1 < 2 ^ 64 → now ≡ before + 1
  pub kept : (t : ℕ) → t ≤ before → since t ≡ past t

-- From old to new the lists have P at every moment, the first and the last ones too.
pub record During {D : Type 0} (clock : D → ℕ) (lists : D → ℕ → Lists) (old new : D) (P : Lists → Type 0) : Type 0 where
  pub later : clock old ≤ clock new
  pub each : (t : ℕ) → clock old ≤ t → t ≤ clock new → P (lists new t)
  pub kept : (t : ℕ) → t ≤ clock old → lists new t ≡ lists old t

-- this value is alone in a name's list
abbrev pub Alone : Option (List ℕ) → List (Option (List ℕ)) → Type 0
Alone v list = (w : Option (List ℕ)) → Among w list → w ≡ v

-- each name outside tmp has its present value alone
abbrev pub Settled : Tree → Lists → Type 0
Settled tree lists = (n : List ℕ) → Outside n → Alone (tree n) (lists n)

-- a choice of one value for each name; names in tmp are free
abbrev pub IsImage : Lists → Tree → Type 0
IsImage lists image = (n : List ℕ) → Outside n → Among (image n) (lists n)

-- every image has Q
abbrev pub EachImage : (Tree → Type 0) → Lists → Type 0
EachImage Q lists = (image : Tree) → IsImage lists image → Q image

-- Since the first lists at most this value joined, and at this name alone.
pub record MayPut (name : List ℕ) (value : Option (List ℕ)) (first now : Lists) : Type 0 where
  pub named : (v : Option (List ℕ)) → Among v (now name) → Among v (first name) ⊎ (v ≡ value)
  pub rest : Rest name first now
