-- The first key of a range, as the first place behind another, and the deleted blob that stands there.
use Rattle.std.proofs.Common.{◌≡◌, ◌≢◌, ℕ, List, [], ◌∷◌, true, false, Option, Some, None, refl, sym, ◌∙◌, ap, subst, true≢false, Bor}
use Rattle.std.specs.Prelude.{MatchOption}
use Rattle.std.specs.Option.{option_map, option_copied}
use Rattle.std.specs.declared.cmp.Ordering.{Ordering}
use Rattle.std.specs.declared.cmp.Ordering.TheVariants.{Less, Equal, Greater}
use Rattle.std.specs.declared.ops.Bound.{Bound}
use Rattle.std.specs.declared.ops.Bound.TheVariants.{Unbounded}
use Rattle.std.specs.Ordering.{is_gt}
use Rattle.std.specs.BTreeSet.{BTreeSet, contains, IsKeyRangeOf}
use Rattle.std.specs.BTreeMap.Range.{IsInRange}
use Rattle.std.specs.FinMap as map
use Rattle.std.specs.FinSet as set
use Rattle.nx_base.specs.declared.blob_ref.BlobRef.{BlobRef}
use Rattle.nx_base.specs.Order.{age_cmp}
use Rattle.repo_model.specs.declared.deletion.Deletion.{Deletion}
use Rattle.deletion_queue.specs.declared.place.QueuePlace.{QueuePlace}
use Rattle.deletion_queue.specs.Order.{place_cmp}
use Rattle.deletion_queue.specs.OrderLaws.{place_cmp_total}
use Rattle.deletion_queue.specs.Behind.{IsBehind, IsFirstBehind}
use Rattle.deletion_queue.specs.Ties.{time_in, ArePlacesOf, place_of, IsNext, NoneBehind}

-- of two places, one that is not above the other isn't behind it
not_less : (a b : QueuePlace) → is_gt (place_cmp a b) ≡ false → place_cmp b a ≢ Less
not_less a b h less = true≢false (sym (rw (place_cmp_total.antisymm a b, less) refl) ∙ h)

module _ (s : BTreeSet QueuePlace) (lo : Bound QueuePlace) (other : Option QueuePlace) (r : List QueuePlace)
    (into : (p : QueuePlace) → IsBehind other p → IsInRange place_cmp lo Unbounded p)
    (out : (p : QueuePlace) → IsInRange place_cmp lo Unbounded p → IsBehind other p)
    (ranged : IsKeyRangeOf place_cmp lo Unbounded s r) where
  in_tree : (p : QueuePlace) → set.contains (set.from_list {R = place_cmp} s.keys) p ≡ true → contains place_cmp s p ≡ true
  in_tree p there = sym (set.contains-from_list place_cmp_total s.keys p) ∙ there

  pub first_of_range : (found : Option (Bor QueuePlace)) (rest : List QueuePlace) → MatchOption found ((r ≡ []) × (rest ≡ [])) (λ x. r ≡ x.now ∷ rest)
      → IsFirstBehind (set.from_list s.keys) other (option_copied found)
  first_of_range None rest h = λ p there behind. true≢false (sym (in_tree p there) ∙ ranged.5 h.0 p (into p behind))
  first_of_range (Some x) rest h =
      let here = rw h at ranged.1 in (
        set.contains-from_list place_cmp_total s.keys x.now ∙ here.1,
        out x.now here.0,
        (λ p there behind. not_less x.now p (rw h at (ranged.2 p (into p behind) (in_tree p there)))),
      )

lacks : (o : Option Deletion) (at : ℕ) → o ≡ None → option_map (λ (x : Deletion). x.at) o ≡ Some at → ⊥
lacks None at none is = cc
lacks (Some d) at none is = cc

gives : (o : Option Deletion) (d : Deletion) (at : ℕ) → o ≡ Some d → option_map (λ (x : Deletion). x.at) o ≡ Some at → d.at ≡ at
gives None d at some is = cc
gives (Some e) d at some is =
    let same : e ≡ d = cc in
    let time : e.at ≡ at = cc in
    ap (λ (x : Deletion). x.at) (sym same) ∙ time

module _ (m : map.FinMap age_cmp Deletion) (places : set.FinSet place_cmp) (ties : ArePlacesOf m places) (other : Option QueuePlace) where
  stands : (b : BlobRef) (d : Deletion) → map.get m b ≡ Some d → set.contains places (place_of b d) ≡ true
  stands b d is = (ties (place_of b d)).1 (ap (λ (o : Option Deletion). option_map (λ (x : Deletion). x.at) o) is)

  pub none_behind : IsFirstBehind places other None → NoneBehind m other
  none_behind h = λ b d is behind. h (place_of b d) (stands b d is) behind

  pub first_is_deleted : (first : QueuePlace) → IsFirstBehind places other (Some first) → map.get m first.blob ≢ None
  first_is_deleted first h none = lacks (map.get m first.blob) first.at none ((ties first).0 h.0)

  pub next_of : (first : QueuePlace) (d : Deletion) → IsFirstBehind places other (Some first) → map.get m first.blob ≡ Some d → IsNext m other first.blob d
  next_of first d h is =
      let at_is : d.at ≡ first.at = gives (map.get m first.blob) d first.at is ((ties first).0 h.0) in
      let same : place_of first.blob d ≡ first = λ i. record { at = at_is i; blob = first.blob } in
      record {
        deleted = is;
        behind = subst (λ (q : QueuePlace). IsBehind other q) (sym same) h.1;
        first = λ b e there behind. subst (λ (q : QueuePlace). place_cmp (place_of b e) q ≢ Less) (sym same) (h.2 (place_of b e) (stands b e there) behind);
      }
