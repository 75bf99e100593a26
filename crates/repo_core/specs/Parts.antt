-- The parts of a core on which the work of a call goes, and when nothing can be seen of a call in them.
use Rattle.std.specs.Prelude.{◌≡◌, ◌⊎◌, ℕ, List}
use Rattle.nx_io.specs.Causes.{Rose}
use Rattle.repo_model.specs.Config.{Config}
use Rattle.repo_model.specs.State.{State}
use Rattle.disk_model.specs.Disk.{Outside, Same}
use Rattle.disk_model.specs.Moments.{During}
use Rattle.asset_keeper.specs.Told.{Tells}
use Rattle.repo_core.specs.declared.own.Own.{Own}
use Rattle.repo_core.specs.Agree.{Agrees}
use Rattle.repo_core.specs.Devices.{Devices}
use Rattle.repo_core.specs.Rows.{rows_in}

-- outside `tmp`, the names that aren't touched have the same values
abbrev pub KeepsBut : {V : Type 0} → (List ℕ → Type 0) → (List ℕ → V) → (List ℕ → V) → Type 0
KeepsBut touches old new = (n : List ℕ) → Outside n → (touches n → ⊥) → new n ≡ old n

-- both devices, and what a core keeps itself
pub record Parts (D T : Type 0) : Type 0 where
  pub disk : D
  pub table : T
  pub own : Own

module _ {D T : Type 0} (on : Devices D T) where
  -- the parts stand for the state
  abbrev pub StandFor : Config → Parts D T → State → Type 0
  StandFor config parts s = Agrees config (on.tree parts.disk) (rows_in (on.table parts.table)) parts.own s

  -- Nothing can be seen of it in the files: outside `tmp` nothing changed, at no moment, and, told or not, nothing was shown.
  pub record IsQuiet (old new : D) : Type 0 where
    pub files : on.told → Same (on.tree old) (on.tree new)
    pub moments : on.told → During on.clock on.lists old new (Same (on.lists old (on.clock old)))
    pub shown : on.shown new ≡ on.shown old

  -- Outside `tmp` the files of the names that it doesn't touch are as they were, at every moment.
  pub record KeepsRest (touches : List ℕ → Type 0) (old new : D) : Type 0 where
    pub files : KeepsBut touches (on.tree old) (on.tree new)
    pub moments : During on.clock on.lists old new (KeepsBut touches (on.lists old (on.clock old)))

  -- Nothing can be seen of it in the files, and the rows are as they were: no change of them was made, told or not.
  pub record IsUnseen (old new : Parts D T) : Type 0 where
    pub quiet : IsQuiet old.disk new.disk
    pub rows : Tells (on.table old.table) (on.table new.table) (λ s t. t ≡ s)
    pub changes : on.changes new.table ≡ on.changes old.table

  -- So are the core's own parts.
  pub record AreUntouched (old new : Parts D T) : Type 0 where
    pub unseen : IsUnseen old new
    pub own : new.own ≡ old.own

  -- something was shown, or may have been
  abbrev pub HasShown : Parts D T → Parts D T → Type 0
  HasShown old new = Rose (on.shown old.disk) (on.shown new.disk) ⊎ Rose (on.changes old.table) (on.changes new.table)
