-- Setting a pair keeps the order of the keys.
use Rattle.std.proofs.Common.{◌≡◌, ◌<◌, ◌≤◌, ◌+◌, ◌||◌, ℕ, Bool, true, false, ltb, List, [], ◌∷◌, length, map, is_some, refl, sym, ap, ◌∙◌, arith}
use Rattle.std.proofs.lemmas.Bool.{false≢true}
use Rattle.std.proofs.lemmas.Bool.Decides.{nat_tests}
use Rattle.std.proofs.lemmas.Cmp.{nat_list_cmp_total}
use Rattle.std.specs.List.{AllByRecursion}
use Rattle.std.specs.List.Sorted.{IsStrictlySortedBy}
use Rattle.std.specs.declared.cmp.Ordering.{Ordering}
use Rattle.std.specs.declared.cmp.Ordering.TheVariants.{Less, Equal, Greater}
use Rattle.std.specs.Ordering.{ordering_reverse}
use Rattle.java_props.specs.Kept.{text_cmp, put, put_at, value_of, value_at, has_room, IsOrdered, ArePairs}

-- the keys of pairs
keys_of : List (List ℕ × List ℕ) → List (List ℕ)
keys_of ps = map (λ p. p.0) ps

all_from : (k m : List ℕ) (ks : List (List ℕ)) → text_cmp k m ≡ Less → AllByRecursion (λ y. text_cmp m y ≡ Less) ks → AllByRecursion (λ y. text_cmp k y ≡ Less) ks
all_from k m [] h a = tt
all_from k m (x ∷ ks) h a = (nat_list_cmp_total.trans k m x h a.0, all_from k m ks h a.1)

all_put : (k key v : List ℕ) (ps : List (List ℕ × List ℕ)) → text_cmp k key ≡ Less → AllByRecursion (λ y. text_cmp k y ≡ Less) (map (λ p. p.0) ps) → AllByRecursion (λ y. text_cmp k y ≡ Less) (map (λ p. p.0) (put key v ps))
unfolding put
all_put k key v [] h a = (h, tt)
all_put k key v (p ∷ ps) h a = by_order (text_cmp key p.0) (all_put k key v ps h a.1) where
  by_order : (o : Ordering) → AllByRecursion (λ y. text_cmp k y ≡ Less) (map (λ p. p.0) (put key v ps)) → AllByRecursion (λ y. text_cmp k y ≡ Less) (map (λ p. p.0) (put_at o (key, v) p ps (put key v ps)))
  by_order Less more = (h, a)
  by_order Equal more = a
  by_order Greater more = (a.0, more)

pub ordered_put : (key v : List ℕ) (ps : List (List ℕ × List ℕ)) → IsOrdered ps → IsOrdered (put key v ps)
unfolding IsStrictlySortedBy put
ordered_put key v [] h = (tt, tt)
ordered_put key v (p ∷ ps) h = by_order (text_cmp key p.0) refl (ordered_put key v ps h.1) where
  by_order : (o : Ordering) → text_cmp key p.0 ≡ o → IsOrdered (put key v ps) → IsOrdered (put_at o (key, v) p ps (put key v ps))
  by_order Less e more = ((e, all_from key p.0 (map (λ p. p.0) ps) e h.0), h)
  by_order Equal e more = h
  by_order Greater e more = (all_put p.0 key v ps (nat_list_cmp_total.antisymm p.0 key ∙ ap ordering_reverse e) h.0, more)

-- there is one pair more at most, and none where the key was there
length_put : (key v : List ℕ) (ps : List (List ℕ × List ℕ)) → (length (put key v ps) ≤ length ps + 1) × (is_some (value_of key ps) ≡ true → length (put key v ps) ≤ length ps)
unfolding put value_of
length_put key v [] = (omega arith, λ e. absurd (false≢true e))
length_put key v (p ∷ ps) = by_order (text_cmp key p.0) (length_put key v ps) where
  by_order : (o : Ordering) → (length (put key v ps) ≤ length ps + 1) × (is_some (value_of key ps) ≡ true → length (put key v ps) ≤ length ps)
      → (length (put_at o (key, v) p ps (put key v ps)) ≤ length (p ∷ ps) + 1) × (is_some (value_at o p.1 (value_of key ps)) ≡ true → length (put_at o (key, v) p ps (put key v ps)) ≤ length (p ∷ ps))
  by_order Less more = (omega arith, λ e. absurd (false≢true e))
  by_order Equal more = (omega arith, λ e. omega arith)
  by_order Greater more = (omega (arith, more.0), λ e. omega (arith, more.1 e))

pub are_put : (key v : List ℕ) (ps : List (List ℕ × List ℕ)) → ArePairs ps → has_room key ps ≡ true → ArePairs (put key v ps)
are_put key v ps h r = record {
  few = by_room (is_some (value_of key ps)) refl;
  ordered = ordered_put key v ps h.ordered;
} where
  by_room : (b : Bool) → is_some (value_of key ps) ≡ b → length (put key v ps) ≤ 256
  by_room true e = let l = (length_put key v ps).1 e in let f = h.few in omega arith
  by_room false e = let l = (length_put key v ps).0 in let f : length ps < 256 = below (length ps) (ap (λ b. b || ltb (length ps) 256) (sym e) ∙ r) in omega arith where
    below : (n : ℕ) → ltb n 256 ≡ true → n < 256
    below n h = grind (arith, nat_tests)

pub no_pairs : ArePairs []
unfolding IsStrictlySortedBy
no_pairs = record { few = omega arith; ordered = tt }
