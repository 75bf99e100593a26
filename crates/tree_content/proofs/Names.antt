-- The names of the files of blobs.
use Rattle.std.proofs.Common.{◌≡◌, ◌≢◌, ◌⊎◌, inl, inr, ℕ, List, ◌++◌, append_assoc}
use Rattle.nx_base.specs.declared.blob_ref.BlobRef.{BlobRef}
use Rattle.disk_model.specs.Disk.{Outside}
use Rattle.disk_model.proofs.Names.{same_or_not}
use Rattle.blob_paths.specs.Ids.{IsId}
use Rattle.nx_base.specs.Ids.{id_text}
use Rattle.std.specs.Prelude.{codes}
use Rattle.blob_paths.specs.Hash.{tier_of}
use Rattle.blob_paths.specs.Places.{two_digits, volume_place, folders_of, ending_of, place_of, file_of}
use Rattle.blob_paths.specs.declared.ending.Ending.{Ending}
use Rattle.blob_paths.specs.declared.ending.Ending.TheVariants.{Bytes, Properties}
use Rattle.blob_paths.proofs.Apart.{same_id, same_ending, same_place, outside as file_outside}
use Rattle.tree_content.specs.Blobs.{bytes_name, props_name, SameFiles, IsRef, IsInContent}

-- one name is that of one file
file_is : (a b : BlobRef) (e f : Ending) → IsId a.id → IsId b.id → file_of a e ≡ file_of b f → (a.store ≡ b.store) × (a.id ≡ b.id) × (e ≡ f)
file_is a b e f x y same =
    let ends = same_ending (place_of a) (place_of b) e f same in
    let places = same_place a.store b.store a.id b.id ends.1 in
    (places.0, same_id a.id b.id x y places.1, ends.0)

pub outside : (blob : BlobRef) (ending : Ending) → IsRef blob → Outside (file_of blob ending)
outside blob ending ref = file_outside blob.store blob.id (ending_of ending) ref.store

pub same_names : (a b : BlobRef) (ending : Ending) → SameFiles a b → file_of a ending ≡ file_of b ending
same_names a b ending same = let store = same.0 in let id = same.1 in cc

pub same_files : (a b : BlobRef) (e f : Ending) → IsRef a → IsRef b → file_of a e ≡ file_of b f → SameFiles a b
same_files a b e f x y is = let all = file_is a b e f x.id y.id is in (all.0, all.1)

-- the bytes file of a blob is no properties file
pub bytes_or_props : (a b : BlobRef) → IsRef a → IsRef b → bytes_name a ≢ props_name b
bytes_or_props a b x y is = let all = file_is a b Bytes Properties x.id y.id is in let differ = all.2 in cc

pub same_or_other : (a b : BlobRef) → SameFiles a b ⊎ (SameFiles a b → ⊥)
same_or_other a b = elim (same_or_not a.store b.store) [
  | inl store ↦ elim (same_or_not a.id b.id) [
    | inl id ↦ inl (store, id)
    | inr other ↦ inr (λ same. other same.1)
  ]
  | inr other ↦ inr (λ same. other same.0)
]

-- the files of blobs stand in the folders `content`
pub in_content : (blob : BlobRef) (ending : Ending) → IsRef blob → IsInContent (file_of blob ending)
unfolding volume_place folders_of
in_content blob ending ref =
    let t = id_text blob.id in
    let folders : List ℕ = codes "vol-" ++ (two_digits (tier_of t).0 ++ codes "/chap-" ++ two_digits (tier_of t).1 ++ codes "/") in
    (blob.store, (folders ++ t) ++ ending_of ending, ref.store, append_assoc blob.store (folders_of t ++ t) (ending_of ending))
