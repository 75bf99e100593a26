-- What the images of a settled disk have, and when a disk is settled again.
use Rattle.std.proofs.Common.{◌≡◌, ◌⊎◌, inl, inr, ⊎_elim, ℕ, List, [], ◌∷◌, Option, sym, ◌∙◌, ap, subst}
use Rattle.disk_model.specs.Disk.{Tree, Lists, Outside, Among, Same, Rest}
use Rattle.disk_model.specs.Moments.{MayPut, Settled, IsImage}
use Rattle.disk_model.proofs.Names.{same_or_not}

-- a settled disk has one image, and so does a disk whose lists are still those of a settled one
pub same_image : (tree : Tree) (first now : Lists) → Settled tree first → Same first now → (image : Tree) → IsImage now image → Same tree image
same_image tree first now settled same image is n out = settled n out (image n) (subst (λ (l : List (Option (List ℕ))). Among (image n) l) (same n out) (is n out))

-- where at most one value joined since the disk was settled, an image is the old tree, or that tree with the value
pub put_image : (name : List ℕ) (value : Option (List ℕ)) (tree : Tree) (first now : Lists) → Outside name → Settled tree first → MayPut name value first now
    → (image : Tree) → IsImage now image → Same tree image ⊎ ((image name ≡ value) × Rest name tree image)
put_image name value tree first now out settled put image is =
    ⊎_elim (λ old. inl (whole (settled name out (image name) old))) (λ new. inr (new, rest)) (put.named (image name) (is name out))
  where
    rest : Rest name tree image
    rest n n_out other = settled n n_out (image n) (subst (λ (l : List (Option (List ℕ))). Among (image n) l) (put.rest n n_out other) (is n n_out))

    whole : image name ≡ tree name → Same tree image
    whole same n n_out = elim (same_or_not n name) [ inl at ↦ subst (λ (m : List ℕ). image m ≡ tree m) (sym at) same | inr other ↦ rest n n_out other ]

-- a disk on which nothing changed is settled as before
pub settled_same : (old new : Tree) (first now : Lists) → Settled old first → Same old new → Same first now → Settled new now
settled_same old new first now settled trees lists n out w here =
    settled n out w (subst (λ (l : List (Option (List ℕ))). Among w l) (lists n out) here) ∙ sym (trees n out)

-- a disk on which one value was put and settled is settled again
pub settled_put : (name : List ℕ) (value : Option (List ℕ)) (old new : Tree) (first now : Lists) → Settled old first → Rest name old new → Rest name first now
    → new name ≡ value → now name ≡ value ∷ [] → Settled new now
settled_put name value old new first now settled trees lists is alone n out w here = elim (same_or_not n name) [
  | inl at ↦
      let there : Among w (value ∷ []) = subst (λ (l : List (Option (List ℕ))). Among w l) (ap now at ∙ alone) here in
      one w there ∙ sym (ap new at ∙ is)
  | inr other ↦ settled n out w (subst (λ (l : List (Option (List ℕ))). Among w l) (lists n out other) here) ∙ sym (trees n out other)
]
  where
    one : (w : Option (List ℕ)) → Among w (value ∷ []) → w ≡ value
    one w (inl e) = e
    one w (inr none) = absurd none
