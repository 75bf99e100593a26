-- What stands of the two files at a place at each moment of a run that puts them, or takes them away.
use Rattle.std.proofs.Common.{◌≡◌, ◌≢◌, inl, inr, ⊎_elim, ℕ, List, [], ◌∷◌, Option, Some, None, sym, ◌∙◌, subst, arith}
use Rattle.nx_base.specs.declared.blob_ref.BlobRef.{BlobRef}
use Rattle.disk_model.specs.Disk.{Tree, Lists, Outside, Among}
use Rattle.disk_model.specs.Moments.{During, MayPut, Settled, IsImage, EachImage}
use Rattle.disk_model.proofs.Chain.{and_then, weaker}
use Rattle.blob_paths.specs.Places.{place_of}
use Rattle.blob_paths.specs.declared.ending.Ending.TheVariants.{Bytes, Properties}
use Rattle.blob_paths.proofs.Apart.{same_ending}
use Rattle.blob_properties.specs.Readable.{readable_of}
use Rattle.tree_content.specs.Blobs.{bytes_at, props_at, props_name, IsRef, Homes}
use Rattle.tree_content.specs.Contents.{OldOrBlob, OldOrLost, SameContents, NoneLive}
use Rattle.tree_content.specs.Files.{Creates, Erases, SaysMarked, IsMarkedAt, MarkedOrGone}
use Rattle.tree_content.proofs.Images.{creating, marking, unmarking, marked_or_gone, erasing}

-- the two names of a place differ
pub two_names : (place : List ℕ) → bytes_at place ≢ props_at place
two_names place same = let ends = same_ending place place Bytes Properties same in let differ = ends.0 in cc

-- what is in a list of one value
one_value : (v w : Option (List ℕ)) → Among w (v ∷ []) → w ≡ v
one_value v w (inl is) = is
one_value v w (inr none) = absurd none

module _ (place : List ℕ) (bytes_out : Outside (bytes_at place)) (props_out : Outside (props_at place)) where
  not_bytes : props_at place ≢ bytes_at place
  not_bytes same = two_names place (sym same)

  module _ (first l : Lists) where
    -- while the bytes file is put
    creates_bytes : (bytes text : List ℕ) → MayPut (bytes_at place) (Some bytes) first l → Creates place bytes text first l
    creates_bytes bytes text put = record {
      bytes_list = put.named;
      props_list = λ v here. inl (subst (λ (list : List (Option (List ℕ))). Among v list) (put.rest (props_at place) props_out not_bytes) here);
      others = λ n out other_bytes other_props. put.rest n out other_bytes;
    }

    erases_bytes : MayPut (bytes_at place) None first l → Erases place first l
    erases_bytes put = record {
      bytes_list = put.named;
      props_list = λ v here. inl (subst (λ (list : List (Option (List ℕ))). Among v list) (put.rest (props_at place) props_out not_bytes) here);
      others = λ n out other_bytes other_props. put.rest n out other_bytes;
    }

  module _ (first mid l : Lists) where
    -- while the properties file is put, after the bytes file was settled
    creates_props : (bytes text : List ℕ) → MayPut (bytes_at place) (Some bytes) first mid → mid (bytes_at place) ≡ Some bytes ∷ []
        → MayPut (props_at place) (Some text) mid l → Creates place bytes text first l
    creates_props bytes text before settled put = record {
      bytes_list = λ v here. before.named v (subst (λ (list : List (Option (List ℕ))). Among v list) still here);
      props_list = λ v here. ⊎_elim
          (λ old. inl (subst (λ (list : List (Option (List ℕ))). Among v list) (before.rest (props_at place) props_out not_bytes) old))
          (λ new. inr (new, λ w there. one_value (Some bytes) w (subst (λ (list : List (Option (List ℕ))). Among w list) (still ∙ settled) there)))
          (put.named v here);
      others = λ n out other_bytes other_props. put.rest n out other_props ∙ before.rest n out other_bytes;
    }
      where
        still : l (bytes_at place) ≡ mid (bytes_at place)
        still = put.rest (bytes_at place) bytes_out (two_names place)

    -- while the properties file is taken away, after the bytes file was settled as absent
    erases_props : MayPut (bytes_at place) None first mid → mid (bytes_at place) ≡ None ∷ [] → MayPut (props_at place) None mid l → Erases place first l
    erases_props before settled put = record {
      bytes_list = λ v here. before.named v (subst (λ (list : List (Option (List ℕ))). Among v list) still here);
      props_list = λ v here. ⊎_elim
          (λ old. inl (subst (λ (list : List (Option (List ℕ))). Among v list) (before.rest (props_at place) props_out not_bytes) old))
          (λ gone. inr (gone, λ w there. one_value None w (subst (λ (list : List (Option (List ℕ))). Among w list) (still ∙ settled) there)))
          (put.named v here);
      others = λ n out other_bytes other_props. put.rest n out other_props ∙ before.rest n out other_bytes;
    }
      where
        still : l (bytes_at place) ≡ mid (bytes_at place)
        still = put.rest (bytes_at place) bytes_out (two_names place)

  module _ {D : Type 0} (clock : D → ℕ) (lists : D → ℕ → Lists) where
    -- a run that puts the bytes file
    pub creates_first : (bytes text : List ℕ) (old new : D) → During clock lists old new (MayPut (bytes_at place) (Some bytes) (lists old (clock old)))
        → During clock lists old new (Creates place bytes text (lists old (clock old)))
    creates_first bytes text old new run =
        let first = lists old (clock old) in
        weaker clock lists (MayPut (bytes_at place) (Some bytes) first) (Creates place bytes text first) old new (λ l put. creates_bytes first l bytes text put) run

    -- and then, where the bytes file is settled, one that puts the properties file
    pub creates_both : (bytes text : List ℕ) (old mid new : D) → During clock lists old mid (MayPut (bytes_at place) (Some bytes) (lists old (clock old)))
        → lists mid (clock mid) (bytes_at place) ≡ Some bytes ∷ []
        → During clock lists mid new (MayPut (props_at place) (Some text) (lists mid (clock mid)))
        → During clock lists old new (Creates place bytes text (lists old (clock old)))
    creates_both bytes text old mid new run settled next =
        let first = lists old (clock old) in
        let between = lists mid (clock mid) in
        let here = run.each (clock mid) run.later (omega arith) in
        and_then clock lists (Creates place bytes text first) old mid new
        (creates_first bytes text old mid run)
        (weaker clock lists (MayPut (props_at place) (Some text) between) (Creates place bytes text first) mid new
        (λ l put. creates_props first between l bytes text here settled put) next)

    -- a run that takes the bytes file away
    pub erases_first : (old new : D) → During clock lists old new (MayPut (bytes_at place) None (lists old (clock old))) → During clock lists old new (Erases place (lists old (clock old)))
    erases_first old new run =
        let first = lists old (clock old) in
        weaker clock lists (MayPut (bytes_at place) None first) (Erases place first) old new (λ l put. erases_bytes first l put) run

    -- and then, where the bytes file is settled as absent, one that takes the properties file away
    pub erases_both : (old mid new : D) → During clock lists old mid (MayPut (bytes_at place) None (lists old (clock old)))
        → lists mid (clock mid) (bytes_at place) ≡ None ∷ []
        → During clock lists mid new (MayPut (props_at place) None (lists mid (clock mid)))
        → During clock lists old new (Erases place (lists old (clock old)))
    erases_both old mid new run settled next =
        let first = lists old (clock old) in
        let between = lists mid (clock mid) in
        let here = run.each (clock mid) run.later (omega arith) in
        and_then clock lists (Erases place first) old mid new
        (erases_first old mid run)
        (weaker clock lists (MayPut (props_at place) None between) (Erases place first) mid new
        (λ l put. erases_props first between l here settled put) next)

module _ {D : Type 0} (clock : D → ℕ) (lists : D → ℕ → Lists) (old new : D) (tree : Tree) where
  abbrev first : Lists
  first = lists old (clock old)

  -- at every moment each image has the contents before, or the blob for its key alone
  pub created_images : (homes : Homes) (blob : BlobRef) (bytes text : List ℕ) → IsRef blob → Settled tree (lists old (clock old)) → tree (props_name blob) ≡ None
      → During clock lists old new (Creates (place_of blob) bytes text (lists old (clock old)))
      → During clock lists old new (EachImage (OldOrBlob homes tree blob (readable_of text)))
  created_images homes blob bytes text ref settled free run =
      weaker clock lists (Creates (place_of blob) bytes text first) (EachImage (OldOrBlob homes tree blob (readable_of text))) old new
      (λ l creates. creating homes blob ref tree first l settled bytes text free creates) run

  -- at every moment the blob at the place is marked or gone in each image
  pub erased_images : (place : List ℕ) → Outside (bytes_at place) → Outside (props_at place) → IsImage (lists old (clock old)) tree → EachImage (IsMarkedAt place) (lists old (clock old))
      → During clock lists old new (Erases place (lists old (clock old)))
      → During clock lists old new (EachImage (MarkedOrGone place))
  erased_images place bytes_out props_out present each run =
      weaker clock lists (Erases place first) (EachImage (MarkedOrGone place)) old new (λ l erases. marked_or_gone place tree first l bytes_out props_out present each erases) run

  -- and each image has the contents before
  pub erased_contents : (homes : Homes) (blob : BlobRef) → IsRef blob → Settled tree (lists old (clock old)) → IsImage (lists old (clock old)) tree
      → EachImage (IsMarkedAt (place_of blob)) (lists old (clock old))
      → During clock lists old new (Erases (place_of blob) (lists old (clock old)))
      → During clock lists old new (EachImage (SameContents homes tree))
  erased_contents homes blob ref settled present each run =
      weaker clock lists (Erases (place_of blob) first) (EachImage (SameContents homes tree)) old new (λ l erases. erasing homes blob ref tree first l settled present each erases) run

  -- while a text with the mark is put
  pub marked_images : (homes : Homes) (blob : BlobRef) (text : List ℕ) → IsRef blob → Settled tree (lists old (clock old)) → SaysMarked text
      → During clock lists old new (MayPut (props_name blob) (Some text) (lists old (clock old)))
      → During clock lists old new (EachImage (OldOrLost homes tree blob))
  marked_images homes blob text ref settled marked run =
      weaker clock lists (MayPut (props_name blob) (Some text) first) (EachImage (OldOrLost homes tree blob)) old new (λ l put. marking homes blob ref tree first l settled text marked put) run

  -- while a text is put of a blob that is not live
  pub unmarked_images : (homes : Homes) (blob : BlobRef) (text : List ℕ) → IsRef blob → Settled tree (lists old (clock old)) → NoneLive homes tree blob
      → During clock lists old new (MayPut (props_name blob) (Some text) (lists old (clock old)))
      → During clock lists old new (EachImage (OldOrBlob homes tree blob (readable_of text)))
  unmarked_images homes blob text ref settled was run =
      weaker clock lists (MayPut (props_name blob) (Some text) first) (EachImage (OldOrBlob homes tree blob (readable_of text))) old new (λ l put. unmarking homes blob ref tree first l settled text was put) run
