-- What the images have while a text replaces the properties of a blob.
use Rattle.std.proofs.Common.{◌≡◌, ℕ, List, Option, Some, None, inl, refl, sym, subst}
use Rattle.disk_model.specs.Disk.{Tree, Lists, Outside}
use Rattle.disk_model.specs.Moments.{During, MayPut, Settled, IsImage, EachImage}
use Rattle.disk_model.proofs.Chain.{started, weaker}
use Rattle.disk_model.proofs.Images.{put_image, same_image}
use Rattle.nx_base.specs.declared.blob_ref.BlobRef.{BlobRef}
use Rattle.blob_paths.specs.Places.{place_of}
use Rattle.blob_properties.specs.Readable.{readable_of}
use Rattle.tree_content.specs.Blobs.{Homes, IsRef, props_at}
use Rattle.tree_content.specs.Contents.{SameContents, OldOrBlob, OldOrLost, NoneLive}
use Rattle.tree_content.specs.Files.{SaysMarked}
use Rattle.blob_properties.specs.Props.{Props}
use Rattle.tree_content.proofs.Moments.{marked_images, unmarked_images}
use Rattle.tree_content.proofs.Changes.{tmp_same}
use Rattle.soft_delete.specs.Marks.{OldOrText}

same_or_blob : (homes : Homes) (tree : Tree) (blob : BlobRef) (image : Tree) (read : Option Props) → SameContents homes tree image → OldOrBlob homes tree blob read image
same_or_blob homes tree blob image None same = same
same_or_blob homes tree blob image (Some props) same = λ key content has. inl ((same key content).0 has)

module _ {D : Type 0} (clock : D → ℕ) (lists : D → ℕ → Lists) (old new : D) (tree : Tree) (place text : List ℕ)
    (settled : Settled tree (lists old (clock old)))
    (run : During clock lists old new (MayPut (props_at place) (Some text) (lists old (clock old)))) where
  -- the old tree, or the new text
  pub old_or_text : Outside (props_at place) → During clock lists old new (EachImage (OldOrText tree (props_at place) text))
  old_or_text out =
      weaker clock lists (MayPut (props_at place) (Some text) (lists old (clock old))) (EachImage (OldOrText tree (props_at place) text)) old new
      (λ l put image is. put_image (props_at place) (Some text) tree (lists old (clock old)) l out settled put image is) run

  module _ (homes : Homes) (blob : BlobRef) (ref : IsRef blob) (at : place_of blob ≡ place) where
    at_blob : During clock lists old new (MayPut (props_at (place_of blob)) (Some text) (lists old (clock old)))
    at_blob = subst (λ (p : List ℕ). During clock lists old new (MayPut (props_at p) (Some text) (lists old (clock old)))) (sym at) run

    -- the contents, but for a key whose content was the blob
    pub old_or_lost : SaysMarked text → During clock lists old new (EachImage (OldOrLost homes tree blob))
    old_or_lost says = marked_images clock lists old new tree homes blob text ref settled says at_blob

    -- the contents, or the blob for its key
    pub old_or_blob : NoneLive homes tree blob → During clock lists old new (EachImage (OldOrBlob homes tree blob (readable_of text)))
    old_or_blob none = unmarked_images clock lists old new tree homes blob text ref settled none at_blob

-- a disk that nothing was asked of
module _ {D : Type 0} (clock : D → ℕ) (lists : D → ℕ → Lists) (old : D) (tree : Tree) (settled : Settled tree (lists old (clock old))) where
  unmoved : (name : List ℕ) (value : Option (List ℕ)) → During clock lists old old (MayPut name value (lists old (clock old)))
  unmoved name value = started clock lists (MayPut name value (lists old (clock old))) old (record { named = λ v here. inl here; rest = λ n out other. refl })

  pub old_text : (place text : List ℕ) → Outside (props_at place) → During clock lists old old (EachImage (OldOrText tree (props_at place) text))
  old_text place text out = old_or_text clock lists old old tree place text settled (unmoved (props_at place) (Some text)) out

  same_now : (homes : Homes) (image : Tree) → IsImage (lists old (clock old)) image → SameContents homes tree image
  same_now homes image is = tmp_same homes tree image (same_image tree (lists old (clock old)) (lists old (clock old)) settled (λ n out. refl) image is)

  pub nothing_lost : (homes : Homes) (blob : BlobRef) → During clock lists old old (EachImage (OldOrLost homes tree blob))
  nothing_lost homes blob = started clock lists (EachImage (OldOrLost homes tree blob)) old (λ image is key content has. inl ((same_now homes image is key content).0 has))

  pub nothing_new : (homes : Homes) (blob : BlobRef) (read : Option Props) → During clock lists old old (EachImage (OldOrBlob homes tree blob read))
  nothing_new homes blob read = started clock lists (EachImage (OldOrBlob homes tree blob read)) old (λ image is. same_or_blob homes tree blob image read (same_now homes image is))
