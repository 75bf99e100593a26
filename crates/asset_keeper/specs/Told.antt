-- What calls say of tables that are told.
use Rattle.std.specs.Prelude.{◌≡◌, ◌⊎◌, Option, Some, None, Result, OnOk, IfErr, IsSome, ⊤}
use Rattle.asset_keeper.specs.declared.change.Change.{Change}
use Rattle.asset_keeper.specs.declared.keep_err.KeepErr.{KeepErr}
use Rattle.asset_keeper.specs.declared.keep_err.KeepErr.TheVariants as keep
use Rattle.asset_keeper.specs.Table.{Table, changed}

-- P holds of what the table was and is, where it is told. What was not told is not told later.
abbrev pub Tells : Option Table → Option Table → (Table → Table → Type 0) → Type 0
Tells old None P = ⊤
Tells None (Some t) P = ⊥
Tells (Some s) (Some t) P = P s t

-- where the keeper is of a kind that lasts, a table that was told is told on
abbrev pub Lasts : Type 0 → Option Table → Option Table → Type 0
Lasts lasts old new = lasts → IsSome old → IsSome new

-- what a change leaves: the new table; after a fault perhaps the old one, and after want of memory the old one
abbrev pub LeavesChange : Table → Table → Change → Result (Unit {0}) KeepErr → Type 0
LeavesChange s t change result =
    OnOk result (t ≡ changed s change) × IfErr result (λ e. (t ≡ s) ⊎ ((e ≡ keep.Failed) × (t ≡ changed s change)))
