-- Setting pairs: how many there are, how long their written form is, and which of them have no meaning.
use Rattle.std.proofs.Common.{◌≡◌, ◌≢◌, ℕ, zero, suc, ◌+◌, ◌<◌, ◌≤◌, Bool, true, false, true≢false, not, ◌&&◌, cond, List, [], ◌∷◌, ◌++◌, length, length-append, take, map, filter, Option, Some, None, is_some, slice_get, refl, sym, ap, ◌∙◌, subst, append_assoc, arith}
use Rattle.std.proofs.lemmas.List.{length-take-le}
use Rattle.std.specs.List.{flat_map, list_all, AllByRecursion}
use Rattle.std.specs.List.Sorted.{IsStrictlySortedBy}
use Rattle.std.specs.declared.cmp.Ordering.{Ordering}
use Rattle.std.specs.declared.cmp.Ordering.TheVariants.{Less, Equal, Greater}
use Rattle.std.specs.Ordering.{ordering_reverse}
use Rattle.std.proofs.lemmas.Cmp.{nat_list_cmp_total, tied_itself}
use Rattle.std.proofs.lemmas.Map.Lookups.{exact_bytes}
use Rattle.java_props.specs.Kept.{Entries, text_cmp, put, put_at, value_of, value_at, IsOrdered}
use Rattle.java_props.specs.Writing.{line_text, written}
use Rattle.blob_properties.specs.Keys.{is_own_key, others_of}
use Rattle.blob_properties.specs.Props.{AreOthers}

-- ---- how many

pub length-put : (key v : List ℕ) (e : Entries) → length (put key v e) ≤ length e + 1
unfolding put
length-put key v [] = omega arith
length-put key v (p ∷ e) = by_order (text_cmp key p.0) (length-put key v e) where
  by_order : (o : Ordering) → length (put key v e) ≤ length e + 1 → length (put_at o (key, v) p e (put key v e)) ≤ length (p ∷ e) + 1
  by_order Less more = omega arith
  by_order Equal more = omega arith
  by_order Greater more = omega arith

-- a key that isn't there makes one pair more
pub length-put_new : (key v : List ℕ) (e : Entries) → value_of key e ≡ None → length (put key v e) ≡ length e + 1
unfolding put value_of
length-put_new key v [] h = refl
length-put_new key v (p ∷ e) h = by_order (text_cmp key p.0) h (length-put_new key v e) where
  by_order : (o : Ordering) → value_at o p.1 (value_of key e) ≡ None → (value_of key e ≡ None → length (put key v e) ≡ length e + 1)
      → length (put_at o (key, v) p e (put key v e)) ≡ length (p ∷ e) + 1
  by_order Less k more = omega arith
  by_order Equal k more = absurd (true≢false (ap is_some k))
  by_order Greater k more = let l = more k in omega arith

-- and one line more
pub written-put_new : (key v : List ℕ) (e : Entries) → value_of key e ≡ None → length (written (put key v e)) ≡ length (written e) + length (line_text (key, v))
unfolding put value_of written
written-put_new key v [] h = omega (arith, length-append (line_text (key, v)) (flat_map line_text []))
written-put_new key v (p ∷ e) h = by_order (text_cmp key p.0) h (written-put_new key v e) where
  by_order : (o : Ordering) → value_at o p.1 (value_of key e) ≡ None
      → (value_of key e ≡ None → length (flat_map line_text (put key v e)) ≡ length (flat_map line_text e) + length (line_text (key, v)))
      → length (flat_map line_text (put_at o (key, v) p e (put key v e))) ≡ length (flat_map line_text (p ∷ e)) + length (line_text (key, v))
  by_order Less k more = omega (arith, length-append (line_text (key, v)) (flat_map line_text (p ∷ e)))
  by_order Equal k more = absurd (true≢false (ap is_some k))
  by_order Greater k more =
      let l = more k in
      omega (arith, length-append (line_text p) (flat_map line_text (put key v e)), length-append (line_text p) (flat_map line_text e))

-- ---- the pairs of other keys

pub others-put : (key v : List ℕ) (e : Entries) → is_own_key key ≡ true → others_of (put key v e) ≡ others_of e
unfolding put others_of
others-put key v [] own = rw own refl
others-put key v (p ∷ e) own = by_order (text_cmp key p.0) refl (others-put key v e own) where
  by_order : (o : Ordering) → text_cmp key p.0 ≡ o → others_of (put key v e) ≡ others_of e → others_of (put_at o (key, v) p e (put key v e)) ≡ others_of (p ∷ e)
  by_order Less k more = rw own refl
  by_order Equal k more =
      let same : is_own_key p.0 ≡ true = ap is_own_key (sym (exact_bytes key p.0 k)) ∙ own in
      rw same refl
  by_order Greater k more = ap (λ (x : Entries). cond (not (is_own_key p.0)) (p ∷ x) x) more

pub both : (a b : Bool) → a && b ≡ true → (a ≡ true) × (b ≡ true)
both true b h = (refl, h)
both false b h = absurd (true≢false (sym h))

not_own : (b : Bool) → not b ≡ true → b ≡ false
not_own true h = absurd (true≢false (sym h))
not_own false h = refl

-- all that is kept of other pairs
pub others-others : (e : Entries) → AreOthers e → others_of e ≡ e
unfolding others_of
others-others [] h = refl
others-others (p ∷ e) h =
    let parts = both (not (is_own_key p.0)) (list_all (λ p. not (is_own_key p.0)) e) h in
    rw parts.0 (ap (λ (x : Entries). p ∷ x) (others-others e parts.1))

-- what is kept has none of the nine keys
pub others-are : (e : Entries) → AreOthers (others_of e)
unfolding others_of
others-are [] = refl
others-are (p ∷ e) = by_test (not (is_own_key p.0)) refl (others-are e) where
  by_test : (b : Bool) → not (is_own_key p.0) ≡ b → AreOthers (others_of e) → AreOthers (cond b (p ∷ others_of e) (others_of e))
  by_test true k more = rw k more
  by_test false k more = more

-- no other pair has one of the nine keys
pub value_of-others : (key : List ℕ) (e : Entries) → is_own_key key ≡ true → AreOthers e → value_of key e ≡ None
unfolding value_of
value_of-others key [] own h = refl
value_of-others key (p ∷ e) own h =
    let parts = both (not (is_own_key p.0)) (list_all (λ p. not (is_own_key p.0)) e) h in
    by_order (text_cmp key p.0) refl (not_own (is_own_key p.0) parts.0) (value_of-others key e own parts.1) where
      by_order : (o : Ordering) → text_cmp key p.0 ≡ o → is_own_key p.0 ≡ false → value_of key e ≡ None → value_at o p.1 (value_of key e) ≡ None
      by_order Less k other more = refl
      by_order Equal k other more = absurd (true≢false (sym own ∙ ap is_own_key (exact_bytes key p.0 k) ∙ other))
      by_order Greater k other more = more

-- ---- pairs in their order, one after another

-- a key above all others goes to the end
put_above : (key v : List ℕ) (e : Entries) → AllByRecursion (λ y. text_cmp y key ≡ Less) (map (λ p. p.0) e) → put key v e ≡ e ++ (key, v) ∷ []
unfolding put
put_above key v [] h = refl
put_above key v (p ∷ e) h =
    ap (λ (o : Ordering). put_at o (key, v) p e (put key v e)) (nat_list_cmp_total.antisymm key p.0 ∙ ap ordering_reverse h.0)
    ∙ ap (λ (x : Entries). p ∷ x) (put_above key v e h.1)

all_get : (k : List ℕ) (e : Entries) (at : ℕ) (q : List ℕ × List ℕ) → AllByRecursion (λ y. text_cmp k y ≡ Less) (map (λ p. p.0) e) → slice_get e at ≡ Some q → text_cmp k q.0 ≡ Less
all_get k [] at q h e = cc
all_get k (p ∷ ps) zero q h e = let same : p ≡ q = cc in ap (λ x. text_cmp k x.0) (sym same) ∙ h.0
all_get k (p ∷ ps) (suc at) q h e = all_get k ps at q h.1 e

-- the pairs before one have lesser keys
before_it : (e : Entries) (at : ℕ) (q : List ℕ × List ℕ) → IsOrdered e → slice_get e at ≡ Some q → AllByRecursion (λ y. text_cmp y q.0 ≡ Less) (map (λ p. p.0) (take at e))
unfolding IsStrictlySortedBy
before_it [] zero q o h = tt
before_it [] (suc at) q o h = tt
before_it (p ∷ e) zero q o h = tt
before_it (p ∷ e) (suc at) q o h = (all_get p.0 e at q o.0 h, before_it e at q o.1 h)

-- and so do those of them that are kept
kept_before : (k : List ℕ) (e : Entries) → AllByRecursion (λ y. text_cmp y k ≡ Less) (map (λ p. p.0) e) → AllByRecursion (λ y. text_cmp y k ≡ Less) (map (λ p. p.0) (others_of e))
unfolding others_of
kept_before k [] h = tt
kept_before k (p ∷ e) h = by_test (not (is_own_key p.0)) (kept_before k e h.1) where
  by_test : (b : Bool) → AllByRecursion (λ y. text_cmp y k ≡ Less) (map (λ p. p.0) (others_of e))
      → AllByRecursion (λ y. text_cmp y k ≡ Less) (map (λ p. p.0) (cond b (p ∷ others_of e) (others_of e)))
  by_test true more = (h.0, more)
  by_test false more = more

take_next : (e : Entries) (at : ℕ) (q : List ℕ × List ℕ) → slice_get e at ≡ Some q → take (at + 1) e ≡ take at e ++ q ∷ []
take_next [] at q h = cc
take_next (p ∷ e) zero q h = let same : p ≡ q = cc in ap (λ (x : List ℕ × List ℕ). x ∷ []) same
take_next (p ∷ e) (suc at) q h =
    let same : suc at + 1 ≡ suc (at + 1) = omega arith in
    ap (λ (n : ℕ). take n (p ∷ e)) same ∙ ap (λ (x : Entries). p ∷ x) (take_next e at q h)

others-append : (e : Entries) (q : List ℕ × List ℕ) → others_of (e ++ q ∷ []) ≡ others_of e ++ cond (not (is_own_key q.0)) (q ∷ []) []
unfolding others_of
others-append [] q = refl
others-append (p ∷ e) q = by_test (not (is_own_key p.0)) (others-append e q) where
  by_test : (b : Bool) → others_of (e ++ q ∷ []) ≡ others_of e ++ cond (not (is_own_key q.0)) (q ∷ []) []
      → cond b (p ∷ others_of (e ++ q ∷ [])) (others_of (e ++ q ∷ [])) ≡ cond b (p ∷ others_of e) (others_of e) ++ cond (not (is_own_key q.0)) (q ∷ []) []
  by_test true more = ap (λ (x : Entries). p ∷ x) more
  by_test false more = more

append-nil : (e : Entries) → e ++ [] ≡ e
append-nil [] = refl
append-nil (p ∷ e) = ap (λ (x : Entries). p ∷ x) (append-nil e)

-- one more pair is set
pub next_set : (e : Entries) (at : ℕ) (q : List ℕ × List ℕ) → IsOrdered e → slice_get e at ≡ Some q → put q.0 q.1 (take at e) ≡ take (at + 1) e
next_set e at q o h = put_above q.0 q.1 (take at e) (before_it e at q o h) ∙ sym (take_next e at q h)

-- one more pair of another key is set
pub next_kept : (e : Entries) (at : ℕ) (q : List ℕ × List ℕ) → IsOrdered e → slice_get e at ≡ Some q → is_own_key q.0 ≡ false
    → put q.0 q.1 (others_of (take at e)) ≡ others_of (take (at + 1) e)
next_kept e at q o h other =
    put_above q.0 q.1 (others_of (take at e)) (kept_before q.0 (take at e) (before_it e at q o h))
    ∙ sym (ap others_of (take_next e at q h) ∙ others-append (take at e) q ∙ rw other refl)

-- one more pair of the nine keys is passed
pub next_passed : (e : Entries) (at : ℕ) (q : List ℕ × List ℕ) → slice_get e at ≡ Some q → is_own_key q.0 ≡ true
    → others_of (take at e) ≡ others_of (take (at + 1) e)
next_passed e at q h own =
    sym (ap others_of (take_next e at q h) ∙ others-append (take at e) q ∙ rw own (append-nil (others_of (take at e))))

pub length-others : (e : Entries) → length (others_of e) ≤ length e
unfolding others_of
length-others [] = omega arith
length-others (p ∷ e) = by_test (not (is_own_key p.0)) (length-others e) where
  by_test : (b : Bool) → length (others_of e) ≤ length e → length (cond b (p ∷ others_of e) (others_of e)) ≤ length (p ∷ e)
  by_test true more = omega arith
  by_test false more = omega arith

-- one more pair is set, unless its key is one of the nine
pub next_other : (e : Entries) (at : ℕ) (q : List ℕ × List ℕ) → IsOrdered e → slice_get e at ≡ Some q
    → cond (is_own_key q.0) (others_of (take at e)) (put q.0 q.1 (others_of (take at e))) ≡ others_of (take (at + 1) e)
next_other e at q o h = by_test (is_own_key q.0) refl where
  by_test : (b : Bool) → is_own_key q.0 ≡ b → cond b (others_of (take at e)) (put q.0 q.1 (others_of (take at e))) ≡ others_of (take (at + 1) e)
  by_test true k = next_passed e at q h k
  by_test false k = next_kept e at q o h k

-- there is room for one more while not all pairs were looked at
pub others-few : (e : Entries) (at : ℕ) → at < length e → length e ≤ 256 → length (others_of (take at e)) < 256
others-few e at lt few = omega (arith, length-others (take at e), length-take-le at e (omega arith))
