-- The laws of the order of places.
use Rattle.std.proofs.Common.{ℕ, List, ap}
use Rattle.std.specs.Cmp.{IsTotalOrder}
use Rattle.std.specs.Cmp.Lexicographic.{nat_list_cmp_total}
use Rattle.std.proofs.lemmas.Cmp.{on_total, then_total}
use Rattle.std.proofs.lemmas.Map.Lookups.{CmpEqualImpliesEq, exact_pairs, exact_bytes}
use Rattle.nx_base.specs.Order.{name_cmp}
use Rattle.repo_model.specs.declared.spot.Spot.{Spot}
use Rattle.repo_model.specs.Spots.{spot_cmp}

pub spot_cmp_total : IsTotalOrder spot_cmp
spot_cmp_total = then_total (on_total (λ (s : Spot). s.store) nat_list_cmp_total) (on_total (λ (s : Spot). s.id) nat_list_cmp_total)

-- places that compare alike are one
pub exact_spots : CmpEqualImpliesEq spot_cmp
exact_spots a b h = ap (λ (p : List ℕ × List ℕ). record { store = p.0; id = p.1 }) (exact_pairs name_cmp name_cmp exact_bytes exact_bytes (a.store, a.id) (b.store, b.id) h)
