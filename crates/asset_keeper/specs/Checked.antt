-- What a keeper over rows outside holds.
use Rattle.std.specs.Prelude.{◌≡◌, ℕ, Bool, Result, Ok, Err}
use Rattle.asset_keeper.specs.declared.keep_err.KeepErr.{KeepErr}
use Rattle.asset_keeper.specs.declared.keep_err.KeepErr.TheVariants as keep
use Rattle.asset_keeper.specs.declared.checked_keeper.CheckedKeeper.{CheckedKeeper}

abbrev pub store_of : {S : Type 0} → CheckedKeeper S → S
store_of keeper = keeper.store

-- how many calls failed
abbrev pub count_of : {S : Type 0} → CheckedKeeper S → ℕ
count_of keeper = keeper.faults

abbrev pub found_of : {S : Type 0} → CheckedKeeper S → Bool
found_of keeper = keeper.found

abbrev pub changes_of : {S : Type 0} → CheckedKeeper S → ℕ
changes_of keeper = keeper.changes

-- an answer that a table may give is handed on, and so is a refusal; any other answer is a fault
abbrev pub HandsOn : {T : Type 0} → (T → Type 0) → Result T KeepErr → Result T KeepErr → Type 0
HandsOn May (Ok x) result = (May x → result ≡ Ok x) × ((May x → ⊥) → result ≡ Err keep.Failed)
HandsOn May (Err why) result = result ≡ Err why
