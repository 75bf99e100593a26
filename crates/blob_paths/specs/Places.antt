-- The place of a blob, and the names of its two files: `<store>/content/vol-VV/chap-CC/<id>.bytes` and `.properties`.
-- The layout is after Sonatype Nexus; the hash and the numbers 43 and 47 are this project's own choice.
use Rattle.std.specs.Prelude.{◌≡◌, ◌⊎◌, ℕ, ◌+◌, ◌≤◌, length, ◌/◌, ◌%◌, List, [], ◌∷◌, ◌++◌, take, codes}
use Rattle.nx_base.specs.Ids.{id_text}
use Rattle.nx_base.specs.declared.blob_ref.BlobRef.{BlobRef}
use Rattle.blob_paths.specs.declared.ending.Ending.{Ending}
use Rattle.blob_paths.specs.declared.ending.Ending.TheVariants.{Bytes, Properties}
use Rattle.blob_paths.specs.Hash.{tier_of}

-- a number below 100
abbrev pub two_digits : ℕ → List ℕ
two_digits n = (48 + n / 10) ∷ (48 + n % 10) ∷ []

-- the folders between a store and the text of an id
unfoldable pub folders_of : List ℕ → List ℕ
folders_of text =
    codes "/content/vol-" ++ two_digits (tier_of text).0 ++ codes "/chap-" ++ two_digits (tier_of text).1 ++ codes "/"

-- the place of an id in a store
unfoldable pub volume_place : List ℕ → List ℕ → List ℕ
volume_place store id = store ++ (folders_of (id_text id) ++ id_text id)

-- the place of a blob
abbrev pub place_of : BlobRef → List ℕ
place_of blob = volume_place blob.store blob.id

abbrev pub ending_of : Ending → List ℕ
ending_of Bytes = codes ".bytes"
ending_of Properties = codes ".properties"

-- the name of one of the two files at a place
abbrev pub file_at : List ℕ → Ending → List ℕ
file_at place ending = place ++ ending_of ending

-- the name of one of the two files of a blob
abbrev pub file_of : BlobRef → Ending → List ℕ
file_of blob ending = file_at (place_of blob) ending

-- a place so short that the names of both its files have at most 1,000 bytes
abbrev pub HasRoom : List ℕ → Type 0
HasRoom place = length place + 11 ≤ 1000

-- a name that isn't `tmp` and doesn't lie below it, where the disk has its temporary files
abbrev pub IsOutsideTmp : List ℕ → Type 0
IsOutsideTmp name = (name ≡ codes "tmp") ⊎ (take 4 name ≡ codes "tmp/") → ⊥
