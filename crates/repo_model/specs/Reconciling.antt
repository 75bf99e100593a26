-- What reconciliation changes: a blob that no row names, and that is older than what its key has, is deleted.
use Rattle.std.specs.Prelude.{Bool, false, List, filter, fold}
use Rattle.std.specs.FinMap as map
use Rattle.std.specs.Ordering.{is_lt}
use Rattle.nx_base.specs.Given.{given}
use Rattle.nx_base.specs.Order.{age_cmp}
use Rattle.nx_base.specs.declared.key.Key.{Key}
use Rattle.nx_base.specs.declared.blob_ref.BlobRef.{BlobRef}
use Rattle.repo_model.specs.declared.deletion.Deletion.{Deletion}
use Rattle.repo_model.specs.State.{State, row_of}

-- whether the key has an asset that is newer than that blob of it
abbrev pub is_superseded : State → BlobRef × Key → Bool
is_superseded state loose = given (row_of state loose.1) false (λ asset. is_lt (age_cmp loose.0 asset.blob))

-- the loose blobs that are superseded, with their keys
abbrev pub superseded : State → List (BlobRef × Key)
superseded state = filter (is_superseded state) (map.entries state.loose)

-- such a blob counts as deleted at its own timestamp
abbrev pub with_superseded : map.FinMap age_cmp Deletion → BlobRef × Key → map.FinMap age_cmp Deletion
with_superseded trash loose = map.insert trash loose.0 (record { at = loose.0.timestamp; key = loose.1 })

abbrev pub without_superseded : map.FinMap age_cmp Key → BlobRef × Key → map.FinMap age_cmp Key
without_superseded left loose = map.remove left loose.0

abbrev pub reconciled : State → State
reconciled state =
    record state {
      trash = fold with_superseded state.trash (superseded state);
      loose = fold without_superseded state.loose (superseded state);
    }
