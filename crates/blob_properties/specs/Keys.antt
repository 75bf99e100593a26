-- The nine keys of a blob's properties that have a meaning here, after nexus-public.
use Rattle.std.specs.Prelude.{ℕ, Bool, not, ◌||◌, List, codes, filter}
use Rattle.nx_base.specs.Texts.{same_name}
use Rattle.java_props.specs.Kept.{Entries}

-- the six that each blob has, in byte order
abbrev pub path_key : List ℕ
path_key = codes "@BlobStore.blob-name"

abbrev pub type_key : List ℕ
type_key = codes "@BlobStore.content-type"

abbrev pub repo_key : List ℕ
repo_key = codes "@Bucket.repo-name"

abbrev pub timestamp_key : List ℕ
timestamp_key = codes "creationTime"

abbrev pub sha1_key : List ℕ
sha1_key = codes "sha1"

abbrev pub size_key : List ℕ
size_key = codes "size"

-- the three of a mark
abbrev pub deleted_key : List ℕ
deleted_key = codes "deleted"

abbrev pub date_key : List ℕ
date_key = codes "deletedDateTime"

abbrev pub reason_key : List ℕ
reason_key = codes "deletedReason"

-- a key that says of what asset the blob is the content
abbrev pub is_asset_key : List ℕ → Bool
is_asset_key key = same_name key path_key || same_name key type_key || same_name key repo_key

-- a key of the content
abbrev pub is_content_key : List ℕ → Bool
is_content_key key = same_name key timestamp_key || same_name key sha1_key || same_name key size_key

-- a key of a mark
abbrev pub is_mark_key : List ℕ → Bool
is_mark_key key = same_name key deleted_key || same_name key date_key || same_name key reason_key

-- one of the nine
unfoldable pub is_own_key : List ℕ → Bool
is_own_key key = is_asset_key key || is_content_key key || is_mark_key key

-- the pairs of all other keys
unfoldable pub others_of : Entries → Entries
others_of pairs = filter (λ p. not (is_own_key p.0)) pairs
