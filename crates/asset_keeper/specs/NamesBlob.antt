-- When a row names a blob.
use Rattle.std.specs.Prelude.{◌≡◌, ℕ, List}
use Rattle.nx_base.specs.declared.key.Key.{Key}
use Rattle.nx_base.specs.declared.blob_ref.BlobRef.{BlobRef}
use Rattle.nx_base.specs.declared.row.Row.{Row}

-- what the properties of a blob say of its content
pub record Described : Type 0 where
  pub key : Key
  pub size : ℕ
  pub sha1 : List ℕ

-- the row has the blob, and says of its content what the blob's properties say
pub record NamesBlob (row : Row) (blob : BlobRef) (described : Described) : Type 0 where
  pub blob_is : row.asset.blob ≡ blob
  pub key_is : row.key ≡ described.key
  pub size_is : row.asset.size ≡ described.size
  pub sha1_is : row.asset.sha1 ≡ described.sha1
