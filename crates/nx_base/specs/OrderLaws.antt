-- The orders of keys and of blobs are total.
use Rattle.std.proofs.Common.{ℕ}
use Rattle.std.specs.Cmp.{IsTotalOrder, nat_cmp_total}
use Rattle.std.specs.Cmp.Lexicographic.{nat_list_cmp_total}
use Rattle.std.proofs.lemmas.Cmp.{on_total, then_total}
use Rattle.nx_base.specs.declared.key.Key.{Key}
use Rattle.nx_base.specs.declared.blob_ref.BlobRef.{BlobRef}
use Rattle.nx_base.specs.Order.{key_cmp, age_cmp}

pub key_cmp_total : IsTotalOrder key_cmp
key_cmp_total = then_total (on_total (λ (k : Key). k.repo) nat_list_cmp_total) (on_total (λ (k : Key). k.path) nat_list_cmp_total)

pub age_cmp_total : IsTotalOrder age_cmp
age_cmp_total =
    then_total (on_total (λ (b : BlobRef). b.timestamp) nat_cmp_total)
    (then_total (on_total (λ (b : BlobRef). b.store) nat_list_cmp_total) (on_total (λ (b : BlobRef). b.id) nat_list_cmp_total))
