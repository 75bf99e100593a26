use Rattle.std.proofs.Common.{◌≡◌, List, ℕ, [], ◌∷◌, ◌++◌, get_or, codes, ap, ◌∙◌, refl}
use Rattle.blob_paths.specs.Places.{folders_of, two_digits}
use Rattle.blob_paths.proofs.place.folders.Goals as goal

-- the four digits written one by one
spelt : (v c : List ℕ) (volume chapter : ℕ) → v ≡ two_digits volume → c ≡ two_digits chapter
    → codes "/content/vol-" ++ (get_or v 0 0 ∷ get_or v 1 0 ∷ []) ++ codes "/chap-" ++ (get_or c 0 0 ∷ get_or c 1 0 ∷ []) ++ codes "/"
    ≡ codes "/content/vol-" ++ two_digits volume ++ codes "/chap-" ++ two_digits chapter ++ codes "/"
spelt v c volume chapter e f = rw (e, f) refl

pub returns : goal.returns
unfolding folders_of
returns c =
    spelt c.two_digits-volume.result c.two_digits-chapter.result c.tier-volume.result.0 c.tier-volume.result.1 c.two_digits-volume.ensures c.two_digits-chapter.ensures
    ∙ ap (λ t. codes "/content/vol-" ++ two_digits t.0 ++ codes "/chap-" ++ two_digits t.1 ++ codes "/") c.tier-volume.ensures.tier
