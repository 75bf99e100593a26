-- The content of a tree: for each key its newest live blob.
use Rattle.std.specs.Prelude.{◌≡◌, ◌≢◌, ◌⊎◌, ◌↔◌, ℕ, List, [], ◌∷◌, Option, Some, None, if◌then◌else◌}
use Rattle.std.specs.Ordering.{is_eq, is_lt}
use Rattle.std.specs.declared.cmp.Ordering.TheVariants.{Less}
use Rattle.nx_base.specs.Order.{key_cmp, age_cmp}
use Rattle.nx_base.specs.declared.key.Key.{Key}
use Rattle.nx_base.specs.declared.blob_ref.BlobRef.{BlobRef}
use Rattle.disk_model.specs.Disk.{Tree}
use Rattle.blob_properties.specs.Props.{Props}
use Rattle.tree_content.specs.Blobs.{Homes, Live, SameFiles, timestamped}

-- what a key has: a blob, with its size and SHA-1
pub record Content : Type 0 where
  pub blob : BlobRef
  pub size : ℕ
  pub sha1 : List ℕ

-- what a blob gives its key, if its properties say this
abbrev pub content_of : BlobRef → Props → Content
content_of blob props = record { blob = blob; size = props.size; sha1 = props.sha1 }

-- the tree has this content of the key: the newest of its live blobs, or nothing where there is none
abbrev pub ContentOf : Homes → Tree → Key → Option Content → Type 0
ContentOf homes tree key None = (blob : BlobRef) (props : Props) → Live homes tree key blob props → ⊥
ContentOf homes tree key (Some content) =
    ((props : Props) × Live homes tree key content.blob props × (content ≡ content_of content.blob props))
    × ((blob : BlobRef) (props : Props) → Live homes tree key blob props → (blob ≡ content.blob) ⊎ (age_cmp blob content.blob ≡ Less))

-- of a content and perhaps another, that of the newer blob
abbrev pub newer : Content → Option Content → Option Content
newer a None = Some a
newer a (Some b) = if is_lt (age_cmp a.blob b.blob) then Some b else Some a

-- of blobs with their properties, the content that the newest gives
abbrev pub newest_of : List (BlobRef × Props) → Option Content
newest_of [] = None
newest_of (b ∷ bs) = newer (content_of b.0 b.1) (newest_of bs)

-- one of the blobs
abbrev pub IsOneOf : BlobRef × Props → List (BlobRef × Props) → Type 0
IsOneOf b [] = ⊥
IsOneOf b (x ∷ xs) = (b ≡ x) ⊎ IsOneOf b xs

-- just the live blobs of the key
pub record AreLive (homes : Homes) (tree : Tree) (key : Key) (lives : List (BlobRef × Props)) : Type 0 where
  pub all : (blob : BlobRef) (props : Props) → Live homes tree key blob props → IsOneOf (blob, props) lives
  pub only : (blob : BlobRef) (props : Props) → IsOneOf (blob, props) lives → Live homes tree key blob props

-- a content for each key, or nothing
abbrev pub Contents : Type 0
Contents = Key → Option Content

-- the tree has these contents
abbrev pub HasContents : Homes → Contents → Tree → Type 0
HasContents homes contents tree = (key : Key) → ContentOf homes tree key (contents key)

-- these contents, but for one key
abbrev pub with_content : Key → Option Content → Contents → Contents
with_content key changed contents k = if is_eq (key_cmp k key) then changed else contents k

-- each key has the content that it had, and no other
abbrev pub SameContents : Homes → Tree → Tree → Type 0
SameContents homes old new = (key : Key) (content : Option Content) → ContentOf homes old key content ↔ ContentOf homes new key content

-- the same of every other key
abbrev pub SameBeside : Homes → Key → Tree → Tree → Type 0
SameBeside homes key old new =
    (other : Key) (content : Option Content) → other ≢ key → ContentOf homes old other content ↔ ContentOf homes new other content

-- each key has the content that it had, or it is this key and has this new content, or none any more
abbrev pub OldOrNew : Homes → Tree → Key → Option Content → Tree → Type 0
OldOrNew homes old key changed new =
    (k : Key) (content : Option Content) → ContentOf homes old k content
    → ContentOf homes new k content ⊎ ((k ≡ key) × ContentOf homes new k changed)

-- each key has the content that it had, or it is the key of the properties that were read and has the blob with them; where
-- none could be read, each key has what it had, and nothing else
abbrev pub OldOrBlob : Homes → Tree → BlobRef → Option Props → Tree → Type 0
OldOrBlob homes old blob None new = SameContents homes old new
OldOrBlob homes old blob (Some props) new = OldOrNew homes old props.key (Some (content_of (timestamped blob props.timestamp) props)) new

-- the content is that of the blob with these files
abbrev pub IsFrom : BlobRef → Option Content → Type 0
IsFrom blob None = ⊥
IsFrom blob (Some content) = SameFiles content.blob blob

-- each key has the content that it had, or that was the blob with these files
abbrev pub OldOrLost : Homes → Tree → BlobRef → Tree → Type 0
OldOrLost homes old blob new =
    (k : Key) (content : Option Content) → ContentOf homes old k content → ContentOf homes new k content ⊎ IsFrom blob content

-- no key has the blob with these files as its content
abbrev pub IsNoContent : Homes → Tree → BlobRef → Type 0
IsNoContent homes tree blob = (key : Key) (content : Option Content) → ContentOf homes tree key content → IsFrom blob content → ⊥

-- no live blob of the key has other files than these
abbrev pub OnlyLive : Homes → Tree → Key → BlobRef → Type 0
OnlyLive homes tree key blob = (other : BlobRef) (props : Props) → Live homes tree key other props → SameFiles other blob

-- no blob with these files is live
abbrev pub NoneLive : Homes → Tree → BlobRef → Type 0
NoneLive homes tree blob =
    (key : Key) (other : BlobRef) (props : Props) → Live homes tree key other props → SameFiles other blob → ⊥

-- contents and live blobs name each other: each content is that of a live blob of its key, and each live blob is its key's
-- content. So no key has two live blobs.
pub record NamesEachLive (homes : Homes) (contents : Contents) (tree : Tree) : Type 0 where
  pub named : (key : Key) (content : Content) → contents key ≡ Some content → (props : Props) × Live homes tree key content.blob props × (content ≡ content_of content.blob props)
  pub only : (key : Key) (blob : BlobRef) (props : Props) → Live homes tree key blob props → (content : Content) × (contents key ≡ Some content) × (content.blob ≡ blob)
