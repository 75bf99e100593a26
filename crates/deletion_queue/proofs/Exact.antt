-- Places that compare alike are one.
use Rattle.std.proofs.Common.{ℕ, List, ap}
use Rattle.std.specs.declared.cmp.Ordering.{Ordering}
use Rattle.std.specs.Ordering.{nat_cmp, ordering_then}
use Rattle.std.proofs.lemmas.Map.Lookups.{CmpEqualImpliesEq, exact_pairs, exact_bytes, exact_unsigned}
use Rattle.nx_base.specs.Order.{name_cmp}
use Rattle.deletion_queue.specs.declared.place.QueuePlace.{QueuePlace}
use Rattle.deletion_queue.specs.Order.{place_cmp}

abbrev last_cmp : List ℕ × ℕ → List ℕ × ℕ → Ordering
last_cmp x y = ordering_then (name_cmp x.0 y.0) (nat_cmp x.1 y.1)

abbrev rest_cmp : List ℕ × (List ℕ × ℕ) → List ℕ × (List ℕ × ℕ) → Ordering
rest_cmp x y = ordering_then (name_cmp x.0 y.0) (last_cmp x.1 y.1)

pub exact_places : CmpEqualImpliesEq place_cmp
exact_places a b h =
    ap (λ (p : ℕ × (List ℕ × (List ℕ × ℕ))). record { at = p.0; blob = record { store = p.1.0; id = p.1.1.0; timestamp = p.1.1.1 } })
    (exact_pairs nat_cmp rest_cmp exact_unsigned (exact_pairs name_cmp last_cmp exact_bytes (exact_pairs name_cmp nat_cmp exact_bytes exact_unsigned))
    (a.at, (a.blob.store, (a.blob.id, a.blob.timestamp))) (b.at, (b.blob.store, (b.blob.id, b.blob.timestamp))) h)
