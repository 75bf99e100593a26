-- The blobs of a tree.
use Rattle.std.specs.Prelude.{◌≡◌, ℕ, Bool, true, false, List, ◌++◌, codes, length, Ok, Some, None}
use Rattle.sha1.specs.Sha1.{sha1}
use Rattle.nx_base.specs.Names.{store_name_of}
use Rattle.nx_base.specs.declared.key.Key.{Key}
use Rattle.nx_base.specs.declared.blob_ref.BlobRef.{BlobRef}
use Rattle.disk_model.specs.Disk.{Tree}
use Rattle.blob_paths.specs.Ids.{IsId}
use Rattle.blob_paths.specs.Places.{place_of, file_at}
use Rattle.blob_paths.specs.declared.ending.Ending.TheVariants.{Bytes, Properties}
use Rattle.blob_properties.specs.Props.{Props}
use Rattle.blob_properties.specs.Readable.{Readable}

-- the names of the two files at a place
abbrev pub bytes_at : List ℕ → List ℕ
bytes_at place = file_at place Bytes

abbrev pub props_at : List ℕ → List ℕ
props_at place = file_at place Properties

-- the names of the two files of a blob. Its timestamp plays no part in them.
abbrev pub bytes_name : BlobRef → List ℕ
bytes_name blob = bytes_at (place_of blob)

abbrev pub props_name : BlobRef → List ℕ
props_name blob = props_at (place_of blob)

-- the same blob with another timestamp: it has the same files
abbrev pub timestamped : BlobRef → ℕ → BlobRef
timestamped blob timestamp = record blob { timestamp = timestamp }

-- the same but for the timestamp: the same store, and the same id
abbrev pub SameFiles : BlobRef → BlobRef → Type 0
SameFiles a b = (a.store ≡ b.store) × (a.id ≡ b.id)

-- a name in the folder `content` of a store
abbrev pub IsInContent : List ℕ → Type 0
IsInContent name = (store : List ℕ) × (rest : List ℕ) × (store_name_of store ≡ Ok store) × (name ≡ store ++ (codes "/content/" ++ rest))

-- its store has a store's name, and its id is one
pub record IsRef (blob : BlobRef) : Type 0 where
  pub store : store_name_of blob.store ≡ Ok blob.store
  pub id : IsId blob.id

-- a blob of the tree: its properties file is there
abbrev pub IsBlob : Tree → BlobRef → Type 0
IsBlob tree blob = IsRef blob × ((text : List ℕ) × (tree (props_name blob) ≡ Some text))

-- whether a store is one of those of a repository: first the repository's name, and then the store's
abbrev pub Homes : Type 0
Homes = List ℕ → List ℕ → Bool

-- a readable blob: its properties file is there, its text can be read, and says the blob's timestamp
pub record Reads (tree : Tree) (blob : BlobRef) (props : Props) : Type 0 where
  pub named : IsRef blob
  pub text : List ℕ
  pub stands : tree (props_name blob) ≡ Some text
  pub says : Readable text props
  pub timestamp_is : props.timestamp ≡ blob.timestamp

-- an intact blob: it is readable, and its bytes file has the size and the SHA-1 that its properties say
pub record IsIntact (tree : Tree) (blob : BlobRef) (props : Props) : Type 0 where
  pub readable : Reads tree blob props
  pub bytes : List ℕ
  pub there : tree (bytes_name blob) ≡ Some bytes
  pub sized : length bytes ≡ props.size
  pub digested : sha1 bytes ≡ props.sha1

-- a stray blob: its store isn't one of its key's repository
abbrev pub IsStray : Homes → BlobRef → Props → Type 0
IsStray homes blob props = homes props.key.repo blob.store ≡ false

-- a live blob of a key: intact, not marked, of that key, and no stray
pub record Live (homes : Homes) (tree : Tree) (key : Key) (blob : BlobRef) (props : Props) : Type 0 where
  pub intact : IsIntact tree blob props
  pub unmarked : props.deleted ≡ None
  pub of_key : props.key ≡ key
  pub home : homes key.repo blob.store ≡ true
