-- When a deleted blob may be removed for good. Of those who read it, the histories of many threads speak.
use Rattle.std.specs.Prelude.{ℕ, ◌-◌, Bool, false, ◌&&◌, not, nat_le}
use Rattle.std.specs.FinMap as map
use Rattle.std.specs.FinSet as set
use Rattle.std.specs.Ordering.{is_eq}
use Rattle.nx_base.specs.Given.{given}
use Rattle.nx_base.specs.declared.key.Key.{Key}
use Rattle.nx_base.specs.declared.blob_ref.BlobRef.{BlobRef}
use Rattle.repo_model.specs.declared.deletion.Deletion.{Deletion}
use Rattle.repo_model.specs.Config.{Config}
use Rattle.nx_base.specs.Order.{age_cmp}
use Rattle.repo_model.specs.Spots.{spot_of}
use Rattle.repo_model.specs.State.{State, row_of}

abbrev pub same_blob : BlobRef → BlobRef → Bool
same_blob a b = is_eq (age_cmp a b)

-- whether the row of the key names that blob
abbrev pub is_named : State → Key → BlobRef → Bool
is_named state key blob = given (row_of state key) false (λ asset. same_blob asset.blob blob)

-- whether the deleted blob may be removed now: no row names it, and it has been deleted for long enough
abbrev pub may_go : Config → State → BlobRef → Deletion → ℕ → Bool
may_go config state blob deletion now = not (is_named state deletion.key blob) && nat_le config.compact_age (now - deletion.at)

-- the blob is removed: its files are gone
abbrev pub without_blob : State → BlobRef → State
without_blob state blob = record state { trash = map.remove state.trash blob; taken = set.remove state.taken (spot_of blob) }
