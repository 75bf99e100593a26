-- Where a properties file stands, and how places and blobs are stored in the finite maps and sets that are values of models.
use Rattle.std.specs.Prelude.{ℕ, List, refl}
use Rattle.std.specs.declared.cmp.Ordering.{Ordering}
use Rattle.std.specs.Ordering.{ordering_then}
use Rattle.std.specs.Coded.{Coded, code_by, coded×, coded_list, coded_ℕ}
use Rattle.nx_base.specs.declared.blob_ref.BlobRef.{BlobRef}
use Rattle.nx_base.specs.Order.{name_cmp}
use Rattle.repo_model.specs.declared.spot.Spot.{Spot}

-- where the properties file of a blob stands
abbrev pub spot_of : BlobRef → Spot
spot_of blob = record { store = blob.store; id = blob.id }

abbrev pub spot_cmp : Spot → Spot → Ordering
spot_cmp a b = ordering_then (name_cmp a.store b.store) (name_cmp a.id b.id)

-- a spot is stored as the pair of its parts
abbrev pub coded_spot : Coded Spot
coded_spot = code_by (List ℕ × List ℕ) (coded× (coded_list coded_ℕ) (coded_list coded_ℕ)) (λ s. (s.store, s.id)) (λ p. record { store = p.0; id = p.1 }) (λ _. refl)

-- a blob is stored as its three parts
abbrev pub coded_blob : Coded BlobRef
coded_blob = code_by (List ℕ × (List ℕ × ℕ)) (coded× (coded_list coded_ℕ) (coded× (coded_list coded_ℕ) coded_ℕ)) (λ b. (b.store, (b.id, b.timestamp))) (λ p. record { store = p.0; id = p.1.0; timestamp = p.1.1 }) (λ _. refl)
