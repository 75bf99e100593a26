-- The places of deleted blobs, and which of these comes next.
use Rattle.std.specs.Prelude.{◌≡◌, ◌≢◌, ◌↔◌, ℕ, IsTrue, Option, Some}
use Rattle.std.specs.Option.{option_map}
use Rattle.std.specs.declared.cmp.Ordering.TheVariants.{Less}
use Rattle.std.specs.FinMap as map
use Rattle.std.specs.FinSet as set
use Rattle.nx_base.specs.declared.blob_ref.BlobRef.{BlobRef}
use Rattle.nx_base.specs.Order.{age_cmp}
use Rattle.repo_model.specs.declared.deletion.Deletion.{Deletion}
use Rattle.deletion_queue.specs.declared.place.QueuePlace.{QueuePlace}
use Rattle.deletion_queue.specs.Order.{place_cmp}
use Rattle.deletion_queue.specs.Behind.{IsBehind}

-- when a blob was deleted, if it was
abbrev pub time_in : map.FinMap age_cmp Deletion → BlobRef → Option ℕ
time_in deletions blob = option_map (λ (d : Deletion). d.at) (map.get deletions blob)

-- these are just the places at which the deleted blobs stand
abbrev pub ArePlacesOf : map.FinMap age_cmp Deletion → set.FinSet place_cmp → Type 0
ArePlacesOf deletions places = (place : QueuePlace) → IsTrue (set.contains places place) ↔ (time_in deletions place.blob ≡ Some place.at)

-- the place of a blob that was deleted so
abbrev pub place_of : BlobRef → Deletion → QueuePlace
place_of blob deletion = record { at = deletion.at; blob = blob }

-- the blob was deleted so, stands behind the place, and no deleted blob stands between the two
pub record IsNext (deletions : map.FinMap age_cmp Deletion) (place : Option QueuePlace) (blob : BlobRef) (deletion : Deletion) : Type 0 where
  pub deleted : map.get deletions blob ≡ Some deletion
  pub behind : IsBehind place (place_of blob deletion)
  pub first : (b : BlobRef) (d : Deletion) → map.get deletions b ≡ Some d → IsBehind place (place_of b d) → place_cmp (place_of b d) (place_of blob deletion) ≢ Less

-- no deleted blob stands behind the place
abbrev pub NoneBehind : map.FinMap age_cmp Deletion → Option QueuePlace → Type 0
NoneBehind deletions place = (blob : BlobRef) (deletion : Deletion) → map.get deletions blob ≡ Some deletion → ¬ IsBehind place (place_of blob deletion)
