-- What a call does to the two files at a place, and what it leaves of them in a crash.
use Rattle.std.specs.Prelude.{◌≡◌, ◌≢◌, ◌⊎◌, ℕ, List, Option, Some, None, IsSome}
use Rattle.disk_model.specs.Disk.{Tree, Lists, Outside, Among}
use Rattle.disk_model.specs.Moments.{Alone}
use Rattle.blob_properties.specs.Props.{Props}
use Rattle.blob_properties.specs.Readable.{Readable}
use Rattle.tree_content.specs.Blobs.{bytes_at, props_at}

-- outside tmp nothing changed but the two files at the place
abbrev pub RestOfPlace : {V : Type 0} → List ℕ → (List ℕ → V) → (List ℕ → V) → Type 0
RestOfPlace place old new = (n : List ℕ) → Outside n → n ≢ bytes_at place → n ≢ props_at place → new n ≡ old n

-- Since the first lists at most the whole bytes joined, and the new text of the properties only where the whole bytes are alone.
pub record Creates (place bytes text : List ℕ) (first now : Lists) : Type 0 where
  pub bytes_list : (v : Option (List ℕ)) → Among v (now (bytes_at place)) → Among v (first (bytes_at place)) ⊎ (v ≡ Some bytes)
  pub props_list : (v : Option (List ℕ)) → Among v (now (props_at place)) → Among v (first (props_at place)) ⊎ ((v ≡ Some text) × Alone (Some bytes) (now (bytes_at place)))
  pub others : RestOfPlace place first now

-- no properties file; or both files whole; and the tree beside them
abbrev pub IsCreatedIn : List ℕ → List ℕ → List ℕ → Tree → Tree → Type 0
IsCreatedIn place bytes text tree image =
    RestOfPlace place tree image × ((image (props_at place) ≡ None) ⊎ ((image (props_at place) ≡ Some text) × (image (bytes_at place) ≡ Some bytes)))

-- Since the first lists at most absent joined, at the two names of the place alone, and of the properties only where the bytes are absent for sure.
pub record Erases (place : List ℕ) (first now : Lists) : Type 0 where
  pub bytes_list : (v : Option (List ℕ)) → Among v (now (bytes_at place)) → Among v (first (bytes_at place)) ⊎ (v ≡ None)
  pub props_list : (v : Option (List ℕ)) → Among v (now (props_at place)) → Among v (first (props_at place)) ⊎ ((v ≡ None) × Alone None (now (bytes_at place)))
  pub others : RestOfPlace place first now

-- a text that says that its blob is marked
abbrev pub SaysMarked : List ℕ → Type 0
SaysMarked text = (props : Props) × Readable text props × IsSome props.deleted

-- the blob at the place is marked
abbrev pub IsMarkedAt : List ℕ → Tree → Type 0
IsMarkedAt place tree = (text : List ℕ) × (tree (props_at place) ≡ Some text) × SaysMarked text

-- it is marked, or both its files are gone
abbrev pub MarkedOrGone : List ℕ → Tree → Type 0
MarkedOrGone place tree = IsMarkedAt place tree ⊎ ((tree (props_at place) ≡ None) × (tree (bytes_at place) ≡ None))
