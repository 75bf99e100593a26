-- How places and deletions are stored in the finite sets and maps that are values of models.
use Rattle.std.specs.Prelude.{ℕ, refl}
use Rattle.std.specs.Coded.{Coded, code_by, coded×, coded_ℕ}
use Rattle.nx_base.specs.declared.key.Key.{Key}
use Rattle.nx_base.specs.declared.blob_ref.BlobRef.{BlobRef}
use Rattle.nx_base.specs.Codes.{coded_key}
use Rattle.repo_model.specs.declared.deletion.Deletion.{Deletion}
use Rattle.repo_model.specs.Spots.{coded_blob}
use Rattle.deletion_queue.specs.declared.place.QueuePlace.{QueuePlace}

-- a place is stored as the pair of its parts, and so is a deletion
abbrev pub coded_place : Coded QueuePlace
coded_place = code_by (ℕ × BlobRef) (coded× coded_ℕ coded_blob) (λ p. (p.at, p.blob)) (λ p. record { at = p.0; blob = p.1 }) (λ _. refl)

abbrev pub coded_deletion : Coded Deletion
coded_deletion = code_by (ℕ × Key) (coded× coded_ℕ coded_key) (λ d. (d.at, d.key)) (λ p. record { at = p.0; key = p.1 }) (λ _. refl)
