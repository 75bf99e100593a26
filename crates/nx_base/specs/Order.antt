-- The orders of keys and of blobs. Both go by the byte order of texts.
use Rattle.std.specs.declared.cmp.Ordering.{Ordering}
use Rattle.std.specs.Ordering.{nat_cmp, ordering_then}
pub use Rattle.nx_base.specs.Texts.{name_cmp, same_name}
use Rattle.nx_base.specs.declared.key.Key.{Key}
use Rattle.nx_base.specs.declared.blob_ref.BlobRef.{BlobRef}

-- keys by repository, and then by path
abbrev pub key_cmp : Key → Key → Ordering
key_cmp a b = ordering_then (name_cmp a.repo b.repo) (name_cmp a.path b.path)

-- blobs from the oldest: by timestamp, then by store, then by id. The order of ids as texts is that of their bytes.
abbrev pub age_cmp : BlobRef → BlobRef → Ordering
age_cmp a b = ordering_then (nat_cmp a.timestamp b.timestamp) (ordering_then (name_cmp a.store b.store) (name_cmp a.id b.id))
