-- The laws of the orders.
use Rattle.std.proofs.Common.{ℕ, List, ap}
use Rattle.std.specs.declared.cmp.Ordering.{Ordering}
use Rattle.std.specs.Ordering.{nat_cmp, ordering_then}
use Rattle.std.specs.Cmp.{IsTotalOrder, nat_cmp_total}
use Rattle.std.specs.Cmp.Lexicographic.{nat_list_cmp_total}
use Rattle.std.proofs.lemmas.Cmp.{on_total, then_total}
use Rattle.std.proofs.lemmas.Map.Lookups.{CmpEqualImpliesEq, exact_pairs, exact_bytes, exact_unsigned}
use Rattle.nx_base.specs.declared.key.Key.{Key}
use Rattle.nx_base.specs.declared.blob_ref.BlobRef.{BlobRef}
use Rattle.nx_base.specs.Order.{name_cmp, key_cmp, age_cmp}
pub use Rattle.nx_base.specs.OrderLaws.{key_cmp_total, age_cmp_total}

-- keys that compare alike are one
pub exact_keys : CmpEqualImpliesEq key_cmp
exact_keys a b h = ap (λ (p : List ℕ × List ℕ). record { repo = p.0; path = p.1 }) (exact_pairs name_cmp name_cmp exact_bytes exact_bytes (a.repo, a.path) (b.repo, b.path) h)

-- a store and an id, by the one and then by the other
abbrev pub place_cmp : List ℕ × List ℕ → List ℕ × List ℕ → Ordering
place_cmp x y = ordering_then (name_cmp x.0 y.0) (name_cmp x.1 y.1)

-- blobs that compare alike are one
pub exact_blobs : CmpEqualImpliesEq age_cmp
exact_blobs a b h =
    ap (λ (p : ℕ × (List ℕ × List ℕ)). record { store = p.1.0; id = p.1.1; timestamp = p.0 })
    (exact_pairs nat_cmp place_cmp exact_unsigned (exact_pairs name_cmp name_cmp exact_bytes exact_bytes) (a.timestamp, (a.store, a.id)) (b.timestamp, (b.store, b.id)) h)
