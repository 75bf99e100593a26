-- The places stay those of the deleted blobs.
use Rattle.std.proofs.Common.{◌≡◌, ◌≢◌, ◌⊎◌, inl, inr, ℕ, true, false, Option, Some, None, refl, sym, ◌∙◌, ap, subst, true≢false}
use Rattle.std.specs.Option.{option_map}
use Rattle.std.specs.FinMap as map
use Rattle.std.specs.FinSet as set
use Rattle.nx_base.specs.declared.blob_ref.BlobRef.{BlobRef}
use Rattle.nx_base.specs.Order.{age_cmp}
use Rattle.nx_base.proofs.Orders.{age_cmp_total, exact_blobs}
use Rattle.repo_model.specs.declared.deletion.Deletion.{Deletion}
use Rattle.deletion_queue.specs.declared.place.QueuePlace.{QueuePlace}
use Rattle.deletion_queue.specs.Order.{place_cmp}
use Rattle.deletion_queue.specs.OrderLaws.{place_cmp_total}
use Rattle.deletion_queue.specs.Ties.{time_in, ArePlacesOf, place_of}
use Rattle.deletion_queue.proofs.Exact.{exact_places}
use Rattle.deletion_queue.proofs.Lookups.{same_or_other, put_at, put_beside, cut_at, cut_beside, added, new_there, still_there, left, stays_there}

abbrev time : Option Deletion → Option ℕ
time found = option_map (λ (d : Deletion). d.at) found

-- the place of a blob at a time
abbrev place_at : ℕ → BlobRef → QueuePlace
place_at at blob = record { at = at; blob = blob }

one_place : (p : QueuePlace) (at : ℕ) (blob : BlobRef) → p.at ≡ at → p.blob ≡ blob → p ≡ place_at at blob
one_place p at blob e f = λ i. record { at = e i; blob = f i }

some_same : (a b : ℕ) → Some a ≡ Some b → a ≡ b
some_same a b h = cc

none_some : (o : Option ℕ) (a : ℕ) → o ≡ None → o ≡ Some a → ⊥
none_some o a h g = cc

pub no_places : ArePlacesOf map.empty set.empty
no_places p = (
  (λ there. absurd (true≢false (sym there ∙ set.contains-empty place_cmp p))),
  (λ is. absurd (none_some (time_in map.empty p.blob) p.at (ap time (map.get-empty age_cmp p.blob)) is)),
)

module _ (m : map.FinMap age_cmp Deletion) (places : set.FinSet place_cmp) (ties : ArePlacesOf m places) (blob : BlobRef) where
  module _ (d : Deletion) where
    at_blob : (b : BlobRef) → b ≡ blob → time_in (map.insert m blob d) b ≡ Some d.at
    at_blob b is = ap time (put_at age_cmp_total exact_blobs m blob d b is)

    beside : (b : BlobRef) → b ≢ blob → time_in (map.insert m blob d) b ≡ time_in m b
    beside b differ = ap time (put_beside age_cmp_total exact_blobs m blob d b differ)

    at_new : (p : QueuePlace) → p ≡ place_of blob d → time_in (map.insert m blob d) p.blob ≡ Some p.at
    at_new p is = at_blob p.blob (ap (λ (q : QueuePlace). q.blob) is) ∙ ap (λ (q : QueuePlace). Some q.at) (sym is)

    -- a blob that is new, or that stays at its time
    pub tied_put : ((t : ℕ) → time_in m blob ≡ Some t → t ≡ d.at) → ArePlacesOf (map.insert m blob d) (set.insert places (place_of blob d))
    tied_put steady p = (
      (λ there. elim (added place_cmp_total exact_places places (place_of blob d) p there) [
        | inl new ↦ at_new p new
        | inr was ↦ elim (same_or_other age_cmp_total exact_blobs p.blob blob) [
          | inl here ↦ at_blob p.blob here ∙ ap (λ (t : ℕ). Some t) (sym (steady p.at (ap (λ (b : BlobRef). time_in m b) (sym here) ∙ (ties p).0 was)))
          | inr differ ↦ beside p.blob differ ∙ (ties p).0 was
        ]
      ]),
      (λ is. elim (same_or_other age_cmp_total exact_blobs p.blob blob) [
        | inl here ↦ new_there place_cmp_total exact_places places (place_of blob d) p (one_place p d.at blob (some_same p.at d.at (sym is ∙ at_blob p.blob here)) here)
        | inr differ ↦ still_there place_cmp_total exact_places places (place_of blob d) p ((ties p).1 (sym (beside p.blob differ) ∙ is))
      ]),
    )

    -- a blob that moves from another time
    pub tied_moved : (before : ℕ) → time_in m blob ≡ Some before → before ≢ d.at
        → ArePlacesOf (map.insert m blob d) (set.remove (set.insert places (place_of blob d)) (place_at before blob))
    tied_moved before was_at other p = (
      (λ there. let rest = left place_cmp_total exact_places (set.insert places (place_of blob d)) (place_at before blob) p there in
          elim (added place_cmp_total exact_places places (place_of blob d) p rest.1) [
            | inl new ↦ at_new p new
            | inr was ↦ elim (same_or_other age_cmp_total exact_blobs p.blob blob) [
              | inl here ↦ absurd (rest.0 (one_place p before blob (some_same p.at before (sym ((ties p).0 was) ∙ ap (λ (b : BlobRef). time_in m b) here ∙ was_at)) here))
              | inr differ ↦ beside p.blob differ ∙ (ties p).0 was
            ]
          ]),
      (λ is. elim (same_or_other age_cmp_total exact_blobs p.blob blob) [
        | inl here ↦
            let at_is : p.at ≡ d.at = some_same p.at d.at (sym is ∙ at_blob p.blob here) in
            stays_there place_cmp_total exact_places (set.insert places (place_of blob d)) (place_at before blob) p
            (λ same. other (ap (λ (q : QueuePlace). q.at) (sym same) ∙ at_is))
            (new_there place_cmp_total exact_places places (place_of blob d) p (one_place p d.at blob at_is here))
        | inr differ ↦
            stays_there place_cmp_total exact_places (set.insert places (place_of blob d)) (place_at before blob) p
            (λ same. differ (ap (λ (q : QueuePlace). q.blob) same))
            (still_there place_cmp_total exact_places places (place_of blob d) p ((ties p).1 (sym (beside p.blob differ) ∙ is)))
      ]),
    )

  -- a place that is taken back
  pub tied_back : (at : ℕ) → time_in m blob ≡ None → ArePlacesOf m (set.remove (set.insert places (place_at at blob)) (place_at at blob))
  tied_back at absent p = (
    (λ there. let rest = left place_cmp_total exact_places (set.insert places (place_at at blob)) (place_at at blob) p there in
        elim (added place_cmp_total exact_places places (place_at at blob) p rest.1) [
          | inl new ↦ absurd (rest.0 new)
          | inr was ↦ (ties p).0 was
        ]),
    (λ is. stays_there place_cmp_total exact_places (set.insert places (place_at at blob)) (place_at at blob) p
        (λ same. none_some (time_in m p.blob) p.at (ap (λ (q : QueuePlace). time_in m q.blob) same ∙ absent) is)
        (still_there place_cmp_total exact_places places (place_at at blob) p ((ties p).1 is))),
  )

  -- a blob that is taken out
  pub tied_taken : (at : ℕ) → time_in m blob ≡ Some at → ArePlacesOf (map.remove m blob) (set.remove places (place_at at blob))
  tied_taken at was_at p = (
    (λ there. let rest = left place_cmp_total exact_places places (place_at at blob) p there in
        elim (same_or_other age_cmp_total exact_blobs p.blob blob) [
          | inl here ↦ absurd (rest.0 (one_place p at blob (some_same p.at at (sym ((ties p).0 rest.1) ∙ ap (λ (b : BlobRef). time_in m b) here ∙ was_at)) here))
          | inr differ ↦ ap time (cut_beside age_cmp_total exact_blobs m blob p.blob differ) ∙ (ties p).0 rest.1
        ]),
    (λ is. elim (same_or_other age_cmp_total exact_blobs p.blob blob) [
      | inl here ↦ absurd (none_some (time_in (map.remove m blob) p.blob) p.at (ap time (cut_at age_cmp_total exact_blobs m blob p.blob here)) is)
      | inr differ ↦ stays_there place_cmp_total exact_places places (place_at at blob) p
          (λ same. differ (ap (λ (q : QueuePlace). q.blob) same))
          ((ties p).1 (ap time (sym (cut_beside age_cmp_total exact_blobs m blob p.blob differ)) ∙ is))
    ]),
  )

module _ (m : map.FinMap age_cmp Deletion) (places : set.FinSet place_cmp) (ties : ArePlacesOf m places) (blob : BlobRef) where
  module _ (now : map.FinMap age_cmp Deletion) (kept : set.FinSet place_cmp) where
    tied_so : (m_now : map.FinMap age_cmp Deletion) (places_now : set.FinSet place_cmp) → now ≡ m_now → kept ≡ places_now → ArePlacesOf m_now places_now → ArePlacesOf now kept
    tied_so m_now places_now now_is kept_is tied =
        subst (λ (x : map.FinMap age_cmp Deletion). ArePlacesOf x kept) (sym now_is)
        (subst (λ (y : set.FinSet place_cmp). ArePlacesOf m_now y) (sym kept_is) tied)

    module _ (d : Deletion) (now_is : now ≡ map.insert m blob d) (grown : set.FinSet place_cmp) (copy : BlobRef) (copy_is : copy ≡ blob) (grown_is : grown ≡ set.insert places (place_at d.at copy)) where
      grown_so : grown ≡ set.insert places (place_of blob d)
      grown_so = grown_is ∙ ap (λ (b : BlobRef). set.insert places (place_at d.at b)) copy_is

      pub put_new : map.get m blob ≡ None → kept ≡ grown → ArePlacesOf now kept
      put_new absent kept_is =
          tied_so (map.insert m blob d) (set.insert places (place_of blob d)) now_is (kept_is ∙ grown_so)
          (tied_put m places ties blob d (λ t at. absurd (none_some (time_in m blob) t (ap time absent) at)))

      pub put_again : (before : Deletion) → map.get m blob ≡ Some before → before.at ≡ d.at → kept ≡ grown → ArePlacesOf now kept
      put_again before there same kept_is =
          tied_so (map.insert m blob d) (set.insert places (place_of blob d)) now_is (kept_is ∙ grown_so)
          (tied_put m places ties blob d (λ t at. some_same t before.at (sym at ∙ ap time there) ∙ same))

      pub put_moved : (before : Deletion) → map.get m blob ≡ Some before → before.at ≢ d.at → (again : BlobRef) → again ≡ blob → kept ≡ set.remove grown (place_at before.at again) → ArePlacesOf now kept
      put_moved before there differ again again_is kept_is =
          tied_so (map.insert m blob d) (set.remove (set.insert places (place_of blob d)) (place_at before.at blob)) now_is
          (kept_is ∙ ap (λ (s : set.FinSet place_cmp). set.remove s (place_at before.at again)) grown_so
          ∙ ap (λ (b : BlobRef). set.remove (set.insert places (place_of blob d)) (place_at before.at b)) again_is)
          (tied_moved m places ties blob d before.at (ap time there) differ)

    pub put_back : (at : ℕ) (grown : set.FinSet place_cmp) (copy again : BlobRef) → copy ≡ blob → again ≡ blob → now ≡ m → map.get m blob ≡ None
        → grown ≡ set.insert places (place_at at copy) → kept ≡ set.remove grown (place_at at again) → ArePlacesOf now kept
    put_back at grown copy again copy_is again_is now_is absent grown_is kept_is =
        tied_so m (set.remove (set.insert places (place_at at blob)) (place_at at blob)) now_is
        (kept_is ∙ ap (λ (s : set.FinSet place_cmp). set.remove s (place_at at again)) (grown_is ∙ ap (λ (b : BlobRef). set.insert places (place_at at b)) copy_is)
        ∙ ap (λ (b : BlobRef). set.remove (set.insert places (place_at at blob)) (place_at at b)) again_is)
        (tied_back m places ties blob at (ap time absent))

    pub taken_out : (d : Deletion) (out : BlobRef) → out ≡ blob → map.get m blob ≡ Some d → now ≡ map.remove m blob → kept ≡ set.remove places (place_at d.at out) → ArePlacesOf now kept
    taken_out d out out_is there now_is kept_is =
        tied_so (map.remove m blob) (set.remove places (place_at d.at blob)) now_is
        (kept_is ∙ ap (λ (b : BlobRef). set.remove places (place_at d.at b)) out_is)
        (tied_taken m places ties blob d.at (ap time there))
