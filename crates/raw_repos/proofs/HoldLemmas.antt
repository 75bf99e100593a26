-- Whether a blob is among those that are held.
use Rattle.std.proofs.Common.{◌≡◌, ℕ, ◌+◌, ◌<◌, ◌≤◌, Bool, true, false, IsTrue, List, length, Option, Some, Contains, get_or, refl, sym, ◌∙◌, ap, arith, below_more, true≢false}
use Rattle.std.specs.Ordering.{is_eq, eq_by_cmp}
use Rattle.std.specs.declared.cmp.Ordering.{Ordering}
use Rattle.std.specs.declared.cmp.Ordering.TheVariants.{Less, Equal, Greater}
use Rattle.std.specs.Cmp.{eq_by_cmp_equiv}
use Rattle.std.proofs.lemmas.List.{get_or_default}
use Rattle.nx_base.specs.declared.blob_ref.BlobRef.{BlobRef}
use Rattle.nx_base.specs.Order.{age_cmp}
use Rattle.nx_base.proofs.Orders.{age_cmp_total, exact_blobs}

is_equal : (o : Ordering) → is_eq o ≡ true → o ≡ Equal
is_equal Less e = absurd cc
is_equal Equal e = refl
is_equal Greater e = absurd cc

-- blobs are the same where they compare alike
pub same_held : (held blob : BlobRef) (b : Bool) → b ≡ eq_by_cmp age_cmp held blob → (IsTrue b → Some held ≡ Some blob) × (Some held ≡ Some blob → IsTrue b)
same_held held blob b is = (
  λ yes. ap (λ (x : BlobRef). Some x) (exact_blobs held blob (is_equal (age_cmp held blob) (sym is ∙ yes))),
  λ same. let e : held ≡ blob = cc in is ∙ ap (λ (x : BlobRef). eq_by_cmp age_cmp x blob) e ∙ (eq_by_cmp_equiv age_cmp_total).refl blob,
)

-- nothing follows from what isn't
pub from_false : {P : Type 0} → IsTrue false → P
from_false h = absurd (true≢false (sym h))

-- one more that isn't it
pub not_yet : (held : List (Option BlobRef)) (i : ℕ) (item wanted : Option BlobRef) → i < length held → item ≡ get_or held i item → (item ≡ wanted → ⊥)
    → ((k : ℕ) → k < i → get_or held k wanted ≡ wanted → ⊥) → (k : ℕ) → k < i + 1 → get_or held k wanted ≡ wanted → ⊥
not_yet held i item wanted within is other before =
    below_more (λ k. get_or held k wanted ≡ wanted → ⊥) i before (λ found. other (is ∙ get_or_default held i item wanted within ∙ found))

-- here it is
pub found_at : (held : List (Option BlobRef)) (i : ℕ) (item wanted : Option BlobRef) → i < length held → item ≡ get_or held i item → item ≡ wanted → Contains held wanted
found_at held i item wanted within is same = (i, within, get_or_default held i wanted item within ∙ sym is ∙ same)

-- it is nowhere
pub nowhere : (held : List (Option BlobRef)) (i : ℕ) (wanted : Option BlobRef) → length held ≤ i → ((k : ℕ) → k < i → get_or held k wanted ≡ wanted → ⊥) → Contains held wanted → ⊥
nowhere held i wanted past before found = before found.0 (omega (arith, found.1, past)) found.2
