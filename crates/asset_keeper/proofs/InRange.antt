-- Entries in range, through what a tree does to them.
use Rattle.std.proofs.Common.{◌≡◌, ◌&&◌, Bool, true, false, cond, List, [], ◌∷◌, Some, refl}
use Rattle.std.specs.declared.cmp.Ordering.TheVariants.{Less, Equal, Greater}
use Rattle.std.specs.Ordering.{match_ordering}
use Rattle.std.specs.Map.{lookup, remove_entry}
use Rattle.std.specs.BTreeMap.{insert_entry}
use Rattle.nx_base.specs.declared.key.Key.{Key}
use Rattle.nx_base.specs.declared.asset.Asset.{Asset}
use Rattle.nx_base.specs.Order.{key_cmp}
use Rattle.asset_keeper.specs.Ranges.{in_range, found_in_range, entries_in_range}

pub and_left : (a b : Bool) → (a && b) ≡ true → a ≡ true
and_left true b h = refl
and_left false b h = h

pub and_right : (a b : Bool) → (a && b) ≡ true → b ≡ true
and_right true b h = h
and_right false b h = cc

pub looked_up : (p : Key → Bool) (es : List (Key × Asset)) → entries_in_range es ≡ true → found_in_range (lookup p es) ≡ true
looked_up p [] h = refl
looked_up p (e ∷ es) h =
    elim (p e.0) as (λ b. found_in_range (cond b (Some e.1) (lookup p es)) ≡ true) [
      | true ↦ and_left (in_range e.1) (entries_in_range es) h
      | false ↦ looked_up p es (and_right (in_range e.1) (entries_in_range es) h)
    ]

pub removed : (p : Key → Bool) (es : List (Key × Asset)) → entries_in_range es ≡ true → entries_in_range (remove_entry p es) ≡ true
removed p [] h = refl
removed p (e ∷ es) h =
    let rest = and_right (in_range e.1) (entries_in_range es) h in
    elim (p e.0) as (λ b. entries_in_range (cond b es (e ∷ remove_entry p es)) ≡ true) [
      | true ↦ rest
      | false ↦ rw (and_left (in_range e.1) (entries_in_range es) h) (removed p es rest)
    ]

pub inserted : (k : Key) (a : Asset) (es : List (Key × Asset)) → in_range a ≡ true → entries_in_range es ≡ true → entries_in_range (insert_entry key_cmp es k a) ≡ true
inserted k a [] one h = rw one refl
inserted k a (e ∷ es) one h =
    let rest = and_right (in_range e.1) (entries_in_range es) h in
    elim (key_cmp k e.0) as (λ r. entries_in_range (match_ordering r ((k, a) ∷ e ∷ es) ((e.0, a) ∷ es) (e ∷ insert_entry key_cmp es k a)) ≡ true) [
      | Less ↦ rw one h
      | Equal ↦ rw one rest
      | Greater ↦ rw (and_left (in_range e.1) (entries_in_range es) h) (inserted k a es one rest)
    ]
