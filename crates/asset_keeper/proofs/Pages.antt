-- What a page that is told has besides its rows.
use Rattle.std.proofs.Common.{◌≡◌, true, List, map, take, Option, Result, Ok, Err, ℕ, sym, subst, ap, ◌∙◌}
use Rattle.std.specs.Prelude.{IfOk}
use Rattle.std.specs.Map.{keys_of}
use Rattle.std.specs.List.Sorted.{IsStrictlySortedBy}
use Rattle.nx_base.specs.declared.key.Key.{Key}
use Rattle.nx_base.specs.declared.asset.Asset.{Asset}
use Rattle.nx_base.specs.declared.row.Row.{Row}
use Rattle.nx_base.specs.Order.{key_cmp}
use Rattle.asset_keeper.specs.Table.{row_of, entries_after}
use Rattle.asset_keeper.specs.Ranges.{rows_in_range, entries_in_range}
use Rattle.asset_keeper.specs.Pages.{IsPageAfter}
use Rattle.asset_keeper.proofs.Paging.{rising_sorted, page_rises, page_few, page_in_range}

if_ok : {X E : Type 0} (r : Result X E) (P Q : X → Type 0) → ((x : X) → P x → Q x) → IfOk r P → IfOk r Q
if_ok (Ok x) P Q h p = h x p
if_ok (Err e) P Q h p = p

pub shaped : {X E : Type 0} (items : X → List Row) (r : Result X E) (after : Option Key) (es : List (Key × Asset)) (n : ℕ)
    → IsStrictlySortedBy key_cmp (keys_of es)
    → IfOk r (λ out. items out ≡ map row_of (take n (entries_after after es))) → IfOk r (λ out. IsPageAfter after n (items out))
shaped items r after es n sorted value =
    let whole : IsPageAfter after n (map row_of (take n (entries_after after es))) =
    record { few = page_few (entries_after after es) n; rising = page_rises after es n (rising_sorted es sorted) } in
    if_ok r (λ out. items out ≡ map row_of (take n (entries_after after es))) (λ out. IsPageAfter after n (items out))
    (λ out is. subst (IsPageAfter after n) (sym is) whole) value

pub ranged : {X E : Type 0} (items : X → List Row) (r : Result X E) (after : Option Key) (es : List (Key × Asset)) (n : ℕ)
    → entries_in_range es ≡ true
    → IfOk r (λ out. items out ≡ map row_of (take n (entries_after after es))) → IfOk r (λ out. rows_in_range (items out) ≡ true)
ranged items r after es n h value =
    if_ok r (λ out. items out ≡ map row_of (take n (entries_after after es))) (λ out. rows_in_range (items out) ≡ true)
    (λ out is. ap rows_in_range is ∙ page_in_range after es n h) value
