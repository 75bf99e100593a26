-- What a finite map and a finite set have after a change: at the key, and beside it.
use Rattle.std.proofs.Common.{◌≡◌, ◌≢◌, ◌⊎◌, inl, inr, Bool, true, false, not, ◌||◌, ◌&&◌, cond, Option, Some, None, refl, sym, ◌∙◌, ap, true≢false}
use Rattle.std.specs.Cmp.{IsTotalOrder, eq_by_cmp_equiv}
use Rattle.std.specs.FinMap as map
use Rattle.std.specs.FinMap.{IsAntisymmetric}
use Rattle.std.specs.FinSet as set
use Rattle.std.specs.Ordering.{eq_by_cmp, is_eq}
use Rattle.std.specs.declared.cmp.Ordering.{Ordering}
use Rattle.std.specs.declared.cmp.Ordering.TheVariants.{Less, Equal, Greater}

equal : (o : Ordering) → is_eq o ≡ true → o ≡ Equal
equal Less e = cc
equal Equal e = refl
equal Greater e = cc

two : (b : Bool) → (b ≡ true) ⊎ (b ≡ false)
two true = inl refl
two false = inr refl

either : (b c : Bool) → (b || c) ≡ true → (b ≡ true) ⊎ (c ≡ true)
either true c h = inl refl
either false c h = inr h

or_right : (b c : Bool) → c ≡ true → (b || c) ≡ true
or_right true c h = refl
or_right false c h = h

module _ {K : Type 0} {R : K → K → Ordering} (total : IsTotalOrder R) (exact : IsAntisymmetric R) where
  test_same : (a b : K) → a ≡ b → eq_by_cmp R a b ≡ true
  test_same a b e = ap (λ (k : K). eq_by_cmp R k b) e ∙ (eq_by_cmp_equiv total).refl b

  same_test : (a b : K) → eq_by_cmp R a b ≡ true → a ≡ b
  same_test a b e = exact a b (equal (R a b) e)

  test_other : (a b : K) → a ≢ b → eq_by_cmp R a b ≡ false
  test_other a b differ = elim (two (eq_by_cmp R a b)) [ inl same ↦ absurd (differ (same_test a b same)) | inr other ↦ other ]

  pub same_or_other : (a b : K) → (a ≡ b) ⊎ (a ≢ b)
  same_or_other a b = elim (two (eq_by_cmp R a b)) [
    | inl same ↦ inl (same_test a b same)
    | inr other ↦ inr (λ e. true≢false (sym (test_same a b e) ∙ other))
  ]

  module _ {X : Type 0} (m : map.FinMap R X) (k : K) where
    pub put_at : (x : X) (q : K) → q ≡ k → map.get (map.insert m k x) q ≡ Some x
    put_at x q is = map.get-insert total m k x q ∙ ap (λ (b : Bool). cond b (Some x) (map.get m q)) (test_same q k is)

    pub put_beside : (x : X) (q : K) → q ≢ k → map.get (map.insert m k x) q ≡ map.get m q
    put_beside x q differ = map.get-insert total m k x q ∙ ap (λ (b : Bool). cond b (Some x) (map.get m q)) (test_other q k differ)

    pub cut_at : (q : K) → q ≡ k → map.get (map.remove m k) q ≡ None
    cut_at q is = map.get-remove total m k q ∙ ap (λ (b : Bool). cond b None (map.get m q)) (test_same q k is)

    pub cut_beside : (q : K) → q ≢ k → map.get (map.remove m k) q ≡ map.get m q
    cut_beside q differ = map.get-remove total m k q ∙ ap (λ (b : Bool). cond b None (map.get m q)) (test_other q k differ)

  module _ (s : set.FinSet R) (k q : K) where
    pub added : set.contains (set.insert s k) q ≡ true → (q ≡ k) ⊎ (set.contains s q ≡ true)
    added h = elim (either (eq_by_cmp R q k) (set.contains s q) (sym (set.contains-insert total s k q) ∙ h)) [
      | inl same ↦ inl (same_test q k same)
      | inr there ↦ inr there
    ]

    pub new_there : q ≡ k → set.contains (set.insert s k) q ≡ true
    new_there is = set.contains-insert total s k q ∙ ap (λ (b : Bool). b || set.contains s q) (test_same q k is)

    pub still_there : set.contains s q ≡ true → set.contains (set.insert s k) q ≡ true
    still_there there = set.contains-insert total s k q ∙ or_right (eq_by_cmp R q k) (set.contains s q) there

    pub left : set.contains (set.remove s k) q ≡ true → (q ≢ k) × (set.contains s q ≡ true)
    left h = elim (same_or_other q k) [
      | inl same ↦ absurd (true≢false (sym h ∙ set.contains-remove total s k q ∙ ap (λ (b : Bool). not b && set.contains s q) (test_same q k same)))
      | inr differ ↦ (differ, sym (ap (λ (b : Bool). not b && set.contains s q) (test_other q k differ)) ∙ sym (set.contains-remove total s k q) ∙ h)
    ]

    pub stays_there : q ≢ k → set.contains s q ≡ true → set.contains (set.remove s k) q ≡ true
    stays_there differ there = set.contains-remove total s k q ∙ ap (λ (b : Bool). not b && set.contains s q) (test_other q k differ) ∙ there
