-- A tree as lists in which each value is alone: what is said of images is then said of trees.
use Rattle.std.proofs.Common.{◌≡◌, ◌⊎◌, inl, inr, ⊎_elim, ℕ, List, [], ◌∷◌, Option, refl, sym, ◌∙◌, ap}
use Rattle.disk_model.specs.Disk.{Tree, Lists, Among, Rest}
use Rattle.disk_model.specs.Moments.{MayPut, Settled, IsImage}

abbrev pub alone : Tree → Lists
alone tree n = tree n ∷ []

only : (v w : Option (List ℕ)) → Among v (w ∷ []) → v ≡ w
only v w (inl is) = is
only v w (inr none) = absurd none

pub alone_settled : (tree : Tree) → Settled tree (alone tree)
alone_settled tree n out w here = only w (tree n) here

pub alone_image : (tree : Tree) → IsImage (alone tree) tree
alone_image tree n out = inl refl

-- one name has its value, or a new one
pub alone_put : (name : List ℕ) (value : Option (List ℕ)) (old new : Tree) → (new name ≡ old name) ⊎ (new name ≡ value) → Rest name old new → MayPut name value (alone old) (alone new)
alone_put name value old new either rest = record {
  named = λ v here. ⊎_elim (λ same. inl (inl (only v (new name) here ∙ same))) (λ is. inr (only v (new name) here ∙ is)) either;
  rest = λ n out other. ap (λ (v : Option (List ℕ)). v ∷ []) (rest n out other);
}
