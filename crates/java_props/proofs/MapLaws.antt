-- Pairs as a map from keys to values.
use Rattle.std.proofs.Common.{◌≡◌, ◌≢◌, ℕ, zero, suc, List, [], ◌∷◌, map, Some, None, slice_get, refl, sym, ap, ◌∙◌}
use Rattle.std.proofs.lemmas.Cmp.{nat_list_cmp_total, tied_itself}
use Rattle.std.proofs.lemmas.Map.Lookups.{exact_bytes}
use Rattle.std.specs.List.{AllByRecursion}
use Rattle.std.specs.List.Sorted.{IsStrictlySortedBy}
use Rattle.std.specs.declared.cmp.Ordering.{Ordering}
use Rattle.std.specs.declared.cmp.Ordering.TheVariants.{Less, Equal, Greater}
use Rattle.std.specs.Ordering.{ordering_reverse}
use Rattle.java_props.specs.Kept.{text_cmp, put, put_at, value_of, value_at, IsOrdered}

value_first : (key : List ℕ) (p : List ℕ × List ℕ) (ps : List (List ℕ × List ℕ)) (o : Ordering) → text_cmp key p.0 ≡ o → value_of key (p ∷ ps) ≡ value_at o p.1 (value_of key ps)
unfolding value_of
value_first key p ps o e = ap (λ x. value_at x p.1 (value_of key ps)) e

pub set_gives : (key value : List ℕ) (pairs : List (List ℕ × List ℕ)) → value_of key (put key value pairs) ≡ Some value
unfolding put
set_gives key value [] = value_first key (key, value) [] Equal (tied_itself nat_list_cmp_total key)
set_gives key value (p ∷ ps) = by_order (text_cmp key p.0) refl (set_gives key value ps) where
  by_order : (o : Ordering) → text_cmp key p.0 ≡ o → value_of key (put key value ps) ≡ Some value → value_of key (put_at o (key, value) p ps (put key value ps)) ≡ Some value
  by_order Less e more = value_first key (key, value) (p ∷ ps) Equal (tied_itself nat_list_cmp_total key)
  by_order Equal e more = value_first key (p.0, value) ps Equal e
  by_order Greater e more = value_first key p (put key value ps) Greater e ∙ more

reversed : (a b : List ℕ) (o : Ordering) → text_cmp a b ≡ o → text_cmp b a ≡ ordering_reverse o
reversed a b o e = nat_list_cmp_total.antisymm b a ∙ ap ordering_reverse e

pub set_keeps : (key other value : List ℕ) (pairs : List (List ℕ × List ℕ)) → other ≢ key → value_of other (put key value pairs) ≡ value_of other pairs
unfolding put value_of
set_keeps key other value [] n = by_order (text_cmp other key) refl where
  by_order : (o : Ordering) → text_cmp other key ≡ o → value_at o value None ≡ None
  by_order Less e = refl
  by_order Equal e = absurd (n (exact_bytes other key e))
  by_order Greater e = refl
set_keeps key other value (p ∷ ps) n = by_place (text_cmp key p.0) refl (set_keeps key other value ps n) where
  less_too : text_cmp key p.0 ≡ Less → (o : Ordering) → text_cmp other key ≡ o → value_at o value (value_at (text_cmp other p.0) p.1 (value_of other ps)) ≡ value_at (text_cmp other p.0) p.1 (value_of other ps)
  less_too e Less l = sym (ap (λ x. value_at x p.1 (value_of other ps)) (nat_list_cmp_total.trans other key p.0 l e))
  less_too e Equal l = absurd (n (exact_bytes other key l))
  less_too e Greater l = refl

  equal_too : text_cmp key p.0 ≡ Equal → (o : Ordering) → text_cmp other p.0 ≡ o → value_at o value (value_of other ps) ≡ value_at o p.1 (value_of other ps)
  equal_too e Less l = refl
  equal_too e Equal l = absurd (n (exact_bytes other p.0 l ∙ sym (exact_bytes key p.0 e)))
  equal_too e Greater l = refl

  by_place : (o : Ordering) → text_cmp key p.0 ≡ o → value_of other (put key value ps) ≡ value_of other ps → value_of other (put_at o (key, value) p ps (put key value ps)) ≡ value_of other (p ∷ ps)
  by_place Less e more = less_too e (text_cmp other key) refl
  by_place Equal e more = equal_too e (text_cmp other p.0) refl
  by_place Greater e more = ap (λ x. value_at (text_cmp other p.0) p.1 x) more

all_get : (k : List ℕ) (ps : List (List ℕ × List ℕ)) (at : ℕ) (q : List ℕ × List ℕ) → AllByRecursion (λ y. text_cmp k y ≡ Less) (map (λ p. p.0) ps) → slice_get ps at ≡ Some q → text_cmp k q.0 ≡ Less
all_get k [] at q h e = cc
all_get k (p ∷ ps) zero q h e = let same : p ≡ q = cc in ap (λ x. text_cmp k x.0) (sym same) ∙ h.0
all_get k (p ∷ ps) (suc at) q h e = all_get k ps at q h.1 e

pub pairs_give : (pairs : List (List ℕ × List ℕ)) (at : ℕ) (q : List ℕ × List ℕ) → IsOrdered pairs → slice_get pairs at ≡ Some q → value_of q.0 pairs ≡ Some q.1
unfolding IsStrictlySortedBy
pairs_give [] at q o e = cc
pairs_give (p ∷ ps) zero q o e = let same : p ≡ q = cc in
    value_first q.0 p ps Equal (ap (λ x. text_cmp q.0 x.0) same ∙ tied_itself nat_list_cmp_total q.0) ∙ ap (λ x. Some x.1) same
pairs_give (p ∷ ps) (suc at) q o e = value_first q.0 p ps Greater (reversed p.0 q.0 Less (all_get p.0 ps at q o.0 e)) ∙ pairs_give ps at q o.1 e
