-- What finite maps of keys and of blobs have after a change: at the key, and beside it.
use Rattle.std.proofs.Common.{◌≡◌, ◌≢◌, ◌⊎◌, inl, inr, Bool, true, false, cond, Some, None, refl, sym, ◌∙◌, ap, true≢false}
use Rattle.std.specs.Cmp.{eq_by_cmp_equiv}
use Rattle.std.specs.FinMap as map
use Rattle.std.specs.Ordering.{eq_by_cmp, is_eq}
use Rattle.std.specs.declared.cmp.Ordering.{Ordering}
use Rattle.std.specs.declared.cmp.Ordering.TheVariants.{Less, Equal, Greater}
use Rattle.nx_base.specs.Order.{key_cmp, age_cmp}
use Rattle.nx_base.specs.declared.key.Key.{Key}
use Rattle.nx_base.specs.declared.blob_ref.BlobRef.{BlobRef}
use Rattle.nx_base.proofs.Orders.{key_cmp_total, age_cmp_total, exact_keys, exact_blobs}

pub equal : (o : Ordering) → is_eq o ≡ true → o ≡ Equal
equal Less e = cc
equal Equal e = refl
equal Greater e = cc

pub two : (b : Bool) → (b ≡ true) ⊎ (b ≡ false)
two true = inl refl
two false = inr refl

pub same_key : (a b : Key) → eq_by_cmp key_cmp a b ≡ true → a ≡ b
same_key a b e = exact_keys a b (equal (key_cmp a b) e)

pub same_ref : (a b : BlobRef) → eq_by_cmp age_cmp a b ≡ true → a ≡ b
same_ref a b e = exact_blobs a b (equal (age_cmp a b) e)

pub key_test : (a b : Key) → a ≡ b → eq_by_cmp key_cmp a b ≡ true
key_test a b e = ap (λ (k : Key). eq_by_cmp key_cmp k b) e ∙ (eq_by_cmp_equiv key_cmp_total).refl b

pub ref_test : (a b : BlobRef) → a ≡ b → eq_by_cmp age_cmp a b ≡ true
ref_test a b e = ap (λ (k : BlobRef). eq_by_cmp age_cmp k b) e ∙ (eq_by_cmp_equiv age_cmp_total).refl b

pub other_key_test : (a b : Key) → a ≢ b → eq_by_cmp key_cmp a b ≡ false
other_key_test a b differ = elim (two (eq_by_cmp key_cmp a b)) [ inl same ↦ absurd (differ (same_key a b same)) | inr other ↦ other ]

pub other_ref_test : (a b : BlobRef) → a ≢ b → eq_by_cmp age_cmp a b ≡ false
other_ref_test a b differ = elim (two (eq_by_cmp age_cmp a b)) [ inl same ↦ absurd (differ (same_ref a b same)) | inr other ↦ other ]

pub same_or_other_ref : (a b : BlobRef) → (a ≡ b) ⊎ (a ≢ b)
same_or_other_ref a b = elim (two (eq_by_cmp age_cmp a b)) [
  | inl same ↦ inl (same_ref a b same)
  | inr other ↦ inr (λ e. true≢false (sym (ref_test a b e) ∙ other))
]

module _ {X : Type 0} (m : map.FinMap key_cmp X) (key : Key) where
  pub set_at : (x : X) (k : Key) → k ≡ key → map.get (map.insert m key x) k ≡ Some x
  set_at x k is = map.get-insert key_cmp_total m key x k ∙ ap (λ (b : Bool). cond b (Some x) (map.get m k)) (key_test k key is)

  pub set_beside : (x : X) (k : Key) → k ≢ key → map.get (map.insert m key x) k ≡ map.get m k
  set_beside x k differ = map.get-insert key_cmp_total m key x k ∙ ap (λ (b : Bool). cond b (Some x) (map.get m k)) (other_key_test k key differ)

  pub cut_at : (k : Key) → k ≡ key → map.get (map.remove m key) k ≡ None
  cut_at k is = map.get-remove key_cmp_total m key k ∙ ap (λ (b : Bool). cond b None (map.get m k)) (key_test k key is)

  pub cut_beside : (k : Key) → k ≢ key → map.get (map.remove m key) k ≡ map.get m k
  cut_beside k differ = map.get-remove key_cmp_total m key k ∙ ap (λ (b : Bool). cond b None (map.get m k)) (other_key_test k key differ)

module _ {X : Type 0} (m : map.FinMap age_cmp X) (blob : BlobRef) (x : X) where
  pub put_at : (b : BlobRef) → b ≡ blob → map.get (map.insert m blob x) b ≡ Some x
  put_at b is = map.get-insert age_cmp_total m blob x b ∙ ap (λ (t : Bool). cond t (Some x) (map.get m b)) (ref_test b blob is)

  pub put_beside : (b : BlobRef) → b ≢ blob → map.get (map.insert m blob x) b ≡ map.get m b
  put_beside b differ = map.get-insert age_cmp_total m blob x b ∙ ap (λ (t : Bool). cond t (Some x) (map.get m b)) (other_ref_test b blob differ)
