-- Where the live blobs of a key are a list, its content is that of the newest.
use Rattle.std.proofs.Common.{◌≡◌, ◌⊎◌, inl, inr, ⊎_elim, Bool, true, false, List, [], ◌∷◌, Option, Some, None, refl, sym, ◌∙◌, ap, subst}
use Rattle.std.specs.Ordering.{is_lt}
use Rattle.std.specs.declared.cmp.Ordering.{Ordering}
use Rattle.std.specs.declared.cmp.Ordering.TheVariants.{Less, Equal, Greater}
use Rattle.nx_base.specs.Order.{age_cmp}
use Rattle.nx_base.specs.declared.key.Key.{Key}
use Rattle.nx_base.specs.declared.blob_ref.BlobRef.{BlobRef}
use Rattle.disk_model.specs.Disk.{Tree}
use Rattle.blob_properties.specs.Props.{Props}
use Rattle.tree_content.specs.Blobs.{Homes}
use Rattle.tree_content.specs.Contents.{Content, content_of, ContentOf, newer, newest_of, IsOneOf, AreLive}
use Rattle.tree_content.proofs.Blobs.{ages, older_than}

-- the content is that of the newest in the list
abbrev IsNewestIn : List (BlobRef × Props) → Option Content → Type 0
IsNewestIn lives None = (b : BlobRef × Props) → IsOneOf b lives → ⊥
IsNewestIn lives (Some content) =
    ((props : Props) × IsOneOf (content.blob, props) lives × (content ≡ content_of content.blob props))
    × ((b : BlobRef × Props) → IsOneOf b lives → (b.0 ≡ content.blob) ⊎ (age_cmp b.0 content.blob ≡ Less))

less_is : (o : Ordering) → is_lt o ≡ true → o ≡ Less
less_is Less e = refl
less_is Equal e = cc
less_is Greater e = cc

not_less : (o : Ordering) → is_lt o ≡ false → o ≡ Less → ⊥
not_less Less e is = cc
not_less Equal e is = cc
not_less Greater e is = cc

first : (b : BlobRef × Props) → (b.0, b.1) ≡ b
first b = refl

step : (x : BlobRef × Props) (xs : List (BlobRef × Props)) (o : Option Content) → IsNewestIn xs o → IsNewestIn (x ∷ xs) (newer (content_of x.0 x.1) o)
step x xs None none = (
  (x.1, inl refl, refl),
  λ b here. ⊎_elim (λ is. inl (ap (λ (y : BlobRef × Props). y.0) is)) (λ there. absurd (none b there)) here,
)
step x xs (Some content) is = by_age (is_lt (age_cmp x.0 content.blob)) refl
  where
    old_wins : age_cmp x.0 content.blob ≡ Less → IsNewestIn (x ∷ xs) (Some content)
    old_wins less = (
      (is.0.0, inr is.0.1, is.0.2),
      λ b here. ⊎_elim
          (λ same. inr (subst (λ (r : BlobRef). age_cmp r content.blob ≡ Less) (sym (ap (λ (y : BlobRef × Props). y.0) same)) less))
          (λ there. is.1 b there) here,
    )

    new_wins : (age_cmp x.0 content.blob ≡ Less → ⊥) → IsNewestIn (x ∷ xs) (Some (content_of x.0 x.1))
    new_wins never = (
      (x.1, inl refl, refl),
      λ b here. ⊎_elim (λ same. inl (ap (λ (y : BlobRef × Props). y.0) same)) (λ there. below b (is.1 b there)) here,
    )
      where
        below : (b : BlobRef × Props) → (b.0 ≡ content.blob) ⊎ (age_cmp b.0 content.blob ≡ Less) → (b.0 ≡ x.0) ⊎ (age_cmp b.0 x.0 ≡ Less)
        below b at = elim (ages x.0 content.blob) [
          | inl less ↦ absurd (never less)
          | inr not ↦ elim not [
            | inl same ↦ ⊎_elim (λ e. inl (e ∙ sym same)) (λ less. inr (subst (λ (r : BlobRef). age_cmp b.0 r ≡ Less) (sym same) less)) at
            | inr newer_one ↦ ⊎_elim
                (λ e. inr (subst (λ (r : BlobRef). age_cmp r x.0 ≡ Less) (sym e) newer_one))
                (λ less. inr (older_than b.0 content.blob x.0 less newer_one)) at
          ]
        ]

    by_age : (b : Bool) → is_lt (age_cmp x.0 content.blob) ≡ b → IsNewestIn (x ∷ xs) (newer (content_of x.0 x.1) (Some content))
    by_age true e = subst (λ (o : Option Content). IsNewestIn (x ∷ xs) o) (sym (chosen true e)) (old_wins (less_is (age_cmp x.0 content.blob) e))
      where
        chosen : (b : Bool) → is_lt (age_cmp x.0 content.blob) ≡ true → newer (content_of x.0 x.1) (Some content) ≡ Some content
        chosen b t = cc
    by_age false e = subst (λ (o : Option Content). IsNewestIn (x ∷ xs) o) (sym (chosen e)) (new_wins (not_less (age_cmp x.0 content.blob) e))
      where
        chosen : is_lt (age_cmp x.0 content.blob) ≡ false → newer (content_of x.0 x.1) (Some content) ≡ Some (content_of x.0 x.1)
        chosen t = cc

newest_is : (lives : List (BlobRef × Props)) → IsNewestIn lives (newest_of lives)
newest_is [] = λ b none. none
newest_is (x ∷ xs) = step x xs (newest_of xs) (newest_is xs)

pub newest_content : (homes : Homes) (tree : Tree) (key : Key) (lives : List (BlobRef × Props)) → AreLive homes tree key lives → ContentOf homes tree key (newest_of lives)
newest_content homes tree key lives are = of_newest (newest_of lives) (newest_is lives)
  where
    of_newest : (o : Option Content) → IsNewestIn lives o → ContentOf homes tree key o
    of_newest None none = λ blob props live. none (blob, props) (are.all blob props live)
    of_newest (Some content) is = (
      (is.0.0, are.only content.blob is.0.0 is.0.1, is.0.2),
      λ blob props live. is.1 (blob, props) (are.all blob props live),
    )
