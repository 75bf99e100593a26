-- What the images have while the files of one blob change.
use Rattle.std.proofs.Common.{◌≡◌, ◌≢◌, ◌⊎◌, inl, inr, ⊎_elim, ℕ, List, Option, Some, None, refl, sym, ◌∙◌, subst}
use Rattle.nx_base.specs.declared.blob_ref.BlobRef.{BlobRef}
use Rattle.disk_model.specs.Disk.{Tree, Lists, Outside, Among, Rest}
use Rattle.disk_model.specs.Moments.{MayPut, Settled, IsImage, EachImage}
use Rattle.disk_model.proofs.Images.{put_image}
use Rattle.disk_model.proofs.Names.{same_or_not}
use Rattle.blob_paths.specs.Places.{place_of}
use Rattle.blob_paths.specs.declared.ending.Ending.TheVariants.{Bytes, Properties}
use Rattle.blob_properties.specs.Props.{Props}
use Rattle.blob_properties.specs.Readable.{readable_of}
use Rattle.tree_content.specs.Blobs.{bytes_at, props_at, bytes_name, props_name, IsRef, Homes, Reads}
use Rattle.tree_content.specs.Contents.{SameContents, OldOrNew, OldOrBlob, OldOrLost, IsNoContent, NoneLive, OnlyLive}
use Rattle.tree_content.specs.Files.{RestOfPlace, Creates, IsCreatedIn, Erases, SaysMarked, IsMarkedAt, MarkedOrGone}
use Rattle.tree_content.proofs.Names.{outside}
use Rattle.tree_content.proofs.Blobs.{absent_is_not_live, marked_is_not_live, marked_or_gone_is_not_live}
use Rattle.tree_content.proofs.Changes.{tmp_same, kept, lost, gained_text, given_up, forgotten}

-- a new text of the properties alone
rest_of_props : (blob : BlobRef) (old new : Tree) → Rest (props_name blob) old new → RestOfPlace (place_of blob) old new
rest_of_props blob old new rest n out not_bytes not_props = rest n out not_props

-- the contents before are among those that are said
same_or_blob : (homes : Homes) (tree : Tree) (blob : BlobRef) (image : Tree) (read : Option Props) → SameContents homes tree image → OldOrBlob homes tree blob read image
same_or_blob homes tree blob image None same = same
same_or_blob homes tree blob image (Some props) same = λ key content has. inl ((same key content).0 has)

-- a tree with no properties file, or both files whole, where no properties stood, has the contents, or the blob for its key
pub created_tree : (homes : Homes) (blob : BlobRef) → IsRef blob → (tree image : Tree) (bytes text : List ℕ) → tree (props_name blob) ≡ None → IsCreatedIn (place_of blob) bytes text tree image
    → OldOrBlob homes tree blob (readable_of text) image
created_tree homes blob ref tree image bytes text free created =
    let was = absent_is_not_live homes tree blob free in
    elim created.1 [
      | inl none ↦ same_or_blob homes tree blob image (readable_of text) (kept homes blob ref tree image created.0 was (absent_is_not_live homes image blob none))
      | inr both ↦ gained_text homes blob ref tree image created.0 text was both.0
    ]

module _ (homes : Homes) (blob : BlobRef) (ref : IsRef blob) (tree : Tree) (first now : Lists) (settled : Settled tree first) where
  -- while a marked text is put, each image has the contents, or lost the blob
  pub marking : (text : List ℕ) → SaysMarked text → MayPut (props_name blob) (Some text) first now → EachImage (OldOrLost homes tree blob) now
  marking text marked put image is = ⊎_elim
      (λ same. λ key content has. inl ((tmp_same homes tree image same key content).0 has))
      (λ new. lost homes blob ref tree image (rest_of_props blob tree image new.1) (marked_is_not_live homes image blob text new.0 marked))
      (put_image (props_name blob) (Some text) tree first now (outside blob Properties ref) settled put image is)

  -- where the blob is no key's content, no image has other contents
  pub marking_unnamed : (text : List ℕ) → IsNoContent homes tree blob → SaysMarked text
      → MayPut (props_name blob) (Some text) first now → EachImage (SameContents homes tree) now
  marking_unnamed text unnamed marked put image is = ⊎_elim
      (λ same. tmp_same homes tree image same)
      (λ new. forgotten homes blob ref tree image (rest_of_props blob tree image new.1) (marked_is_not_live homes image blob text new.0 marked) unnamed)
      (put_image (props_name blob) (Some text) tree first now (outside blob Properties ref) settled put image is)

  -- where it is the only live blob of its key, each image has the contents, or nothing for the key
  pub marking_only : (text : List ℕ) (props : Props) → Reads tree blob props → OnlyLive homes tree props.key blob → SaysMarked text
      → MayPut (props_name blob) (Some text) first now → EachImage (OldOrNew homes tree props.key None) now
  marking_only text props reads alone marked put image is = ⊎_elim
      (λ same. λ key content has. inl ((tmp_same homes tree image same key content).0 has))
      (λ new. given_up homes blob ref tree image (rest_of_props blob tree image new.1) props reads (marked_is_not_live homes image blob text new.0 marked) alone)
      (put_image (props_name blob) (Some text) tree first now (outside blob Properties ref) settled put image is)

  -- while a text is put of a blob that was not live, each image has the contents, or the blob for its key
  pub unmarking : (text : List ℕ) → NoneLive homes tree blob → MayPut (props_name blob) (Some text) first now → EachImage (OldOrBlob homes tree blob (readable_of text)) now
  unmarking text was put image is = ⊎_elim
      (λ same. same_or_blob homes tree blob image (readable_of text) (tmp_same homes tree image same))
      (λ new. gained_text homes blob ref tree image (rest_of_props blob tree image new.1) text was new.0)
      (put_image (props_name blob) (Some text) tree first now (outside blob Properties ref) settled put image is)

  -- an image while the two files are made
  pub created_in : (bytes text : List ℕ) → tree (props_name blob) ≡ None → Creates (place_of blob) bytes text first now → (image : Tree) → IsImage now image → IsCreatedIn (place_of blob) bytes text tree image
  created_in bytes text free creates image is = (
    rest,
    ⊎_elim
        (λ old. inl (settled (props_name blob) (outside blob Properties ref) (image (props_name blob)) old ∙ free))
        (λ new. inr (new.0, new.1 (image (bytes_name blob)) (is (bytes_name blob) (outside blob Bytes ref))))
        (creates.props_list (image (props_name blob)) (is (props_name blob) (outside blob Properties ref))),
  )
    where
      rest : RestOfPlace (place_of blob) tree image
      rest n out not_bytes not_props =
          settled n out (image n) (subst (λ (l : List (Option (List ℕ))). Among (image n) l) (creates.others n out not_bytes not_props) (is n out))

  -- each of them has the contents, or the blob for its key
  pub creating : (bytes text : List ℕ) → tree (props_name blob) ≡ None → Creates (place_of blob) bytes text first now → EachImage (OldOrBlob homes tree blob (readable_of text)) now
  creating bytes text free creates image is = created_tree homes blob ref tree image bytes text free (created_in bytes text free creates image is)

-- the tree with another value at one name
module _ (name : List ℕ) (tree : Tree) (value : Option (List ℕ)) where
  abbrev pick : (n : List ℕ) → (n ≡ name) ⊎ (n ≢ name) → Option (List ℕ)
  pick n (inl same) = value
  pick n (inr other) = tree n

  abbrev with_value : Tree
  with_value n = pick n (same_or_not n name)

  with_value-at : (s : (name ≡ name) ⊎ (name ≢ name)) → pick name s ≡ value
  with_value-at (inl same) = refl
  with_value-at (inr other) = absurd (other refl)

  pick-among : (first : Lists) → IsImage first tree → Among value (first name) → (n : List ℕ) (s : (n ≡ name) ⊎ (n ≢ name)) → Outside n → Among (pick n s) (first n)
  pick-among first present there n (inl same) out = subst (λ (m : List ℕ). Among value (first m)) (sym same) there
  pick-among first present there n (inr other) out = present n out

-- where the blob at a place is marked in each image, each value that a crash may leave of its properties is a text that says so
each_value : (place : List ℕ) (tree : Tree) (first : Lists) → IsImage first tree → EachImage (IsMarkedAt place) first
    → (v : Option (List ℕ)) → Among v (first (props_at place)) → (text : List ℕ) × (v ≡ Some text) × SaysMarked text
each_value place tree first present each v there =
    let p = props_at place in
    let marked = each (with_value p tree v) (λ n out. pick-among p tree v first present there n (same_or_not n p) out) in
    (marked.0, sym (with_value-at p tree v (same_or_not p p)) ∙ marked.1, marked.2)

-- a marked blob that is erased is marked or gone in each image
pub marked_or_gone : (place : List ℕ) (tree : Tree) (first now : Lists) → Outside (bytes_at place) → Outside (props_at place) → IsImage first tree → EachImage (IsMarkedAt place) first
    → Erases place first now → EachImage (MarkedOrGone place) now
marked_or_gone place tree first now bytes_out props_out present each erases image is = ⊎_elim
    (λ old. inl (each_value place tree first present each (image (props_at place)) old))
    (λ gone. inr (gone.0, gone.1 (image (bytes_at place)) (is (bytes_at place) bytes_out)))
    (erases.props_list (image (props_at place)) (is (props_at place) props_out))

-- and no image has other contents
pub erasing : (homes : Homes) (blob : BlobRef) (ref : IsRef blob) (tree : Tree) (first now : Lists) → Settled tree first → IsImage first tree → EachImage (IsMarkedAt (place_of blob)) first
    → Erases (place_of blob) first now → EachImage (SameContents homes tree) now
erasing homes blob ref tree first now settled present each erases image is =
    kept homes blob ref tree image rest (marked_or_gone_is_not_live homes tree blob (inl (each tree present)))
    (marked_or_gone_is_not_live homes image blob (marked_or_gone (place_of blob) tree first now (outside blob Bytes ref) (outside blob Properties ref) present each erases image is))
  where
    rest : RestOfPlace (place_of blob) tree image
    rest n out not_bytes not_props =
        settled n out (image n) (subst (λ (l : List (Option (List ℕ))). Among (image n) l) (erases.others n out not_bytes not_props) (is n out))
