-- Pages that are read one after another give the table.
use Rattle.std.proofs.Common.{◌≡◌, ◌≤◌, ◌<◌, ◌&&◌, ℕ, Bool, true, false, List, [], ◌∷◌, ◌++◌, length, map, take, drop, Option, refl, sym, ap, ◌∙◌, arith}
use Rattle.std.proofs.lemmas.List.{length-take, length-map, take_all, map-append, take-append-drop}
use lib.Dec.{T}
use Rattle.std.specs.declared.cmp.Ordering.{Ordering}
use Rattle.std.specs.declared.cmp.Ordering.TheVariants.{Less, Equal, Greater}
use Rattle.std.specs.Ordering.{is_lt}
use Rattle.std.specs.FinMap as table
use Rattle.std.specs.FinMap.Entries.{below_all, is_sorted}
use Rattle.nx_base.specs.declared.key.Key.{Key}
use Rattle.nx_base.specs.declared.asset.Asset.{Asset}
use Rattle.nx_base.specs.declared.row.Row.{Row}
use Rattle.nx_base.specs.Order.{key_cmp}
use Rattle.asset_keeper.specs.Table.{Table, row_of, entries_after}
use Rattle.asset_keeper.specs.Pages.{last_key, AreRead, joined}
use Rattle.asset_keeper.proofs.Paging.{Above, Rising, page_rest}

left : (a b : Bool) → T (a && b) → T a
left true b h = tt
left false b h = h

right : (a b : Bool) → T (a && b) → T b
right true b h = h
right false b h = absurd h

less_of : (r : Ordering) → T (is_lt r) → r ≡ Less
less_of Less h = refl
less_of Equal h = absurd h
less_of Greater h = absurd h

above_sorted : (k : Key) (es : List (Key × Asset)) → T (below_all key_cmp k es) → Above k es
above_sorted k [] h = tt
above_sorted k (e ∷ es) h = (less_of (key_cmp k e.0) (left (is_lt (key_cmp k e.0)) (below_all key_cmp k es) h), above_sorted k es (right (is_lt (key_cmp k e.0)) (below_all key_cmp k es) h))

rising_entries : (es : List (Key × Asset)) → T (is_sorted key_cmp es) → Rising es
rising_entries [] h = tt
rising_entries (e ∷ es) h = (above_sorted e.0 es (left (below_all key_cmp e.0 es) (is_sorted key_cmp es) h), rising_entries es (right (below_all key_cmp e.0 es) (is_sorted key_cmp es) h))

-- the entries of a table rise
pub table_rises : (t : Table) → Rising (table.entries t.rows)
table_rises t = rising_entries (table.entries t.rows) (table.entries_sorted t.rows)

last_page : (xs : List (Key × Asset)) (page : List Row) (n : ℕ) → page ≡ map row_of (take n xs) → length page < n → page ≡ map row_of xs
last_page xs page n is few =
    let short : length xs ≤ n = omega (arith, few, ap length is, length-map (take n xs) row_of, length-take n xs) in
    is ∙ ap (map row_of) (take_all n xs short)

append_right : (page : List Row) → page ++ [] ≡ page
append_right [] = refl
append_right (row ∷ page) = ap (λ rows. row ∷ rows) (append_right page)

pub pages_join : (n : ℕ) (after : Option Key) (t : Table) (pages : List (List Row)) → AreRead n after t pages
    → joined pages ≡ map row_of (entries_after after (table.entries t.rows))
pages_join n after t [] read = absurd read
pages_join n after t (page ∷ []) read = append_right page ∙ last_page (entries_after after (table.entries t.rows)) page n read.0 read.1
pages_join n after t (page ∷ (next ∷ pages)) read =
    let es = table.entries t.rows in
    let xs = entries_after after es in
    let u = read.0 in
    let rest : joined (next ∷ pages) ≡ map row_of (entries_after (last_key after page) (table.entries u.rows)) = pages_join n (last_key after page) u (next ∷ pages) read.4 in
    let left_over : entries_after (last_key after page) es ≡ drop n xs =
    ap (λ p. entries_after (last_key after p) es) read.1 ∙ page_rest after es n (table_rises t) in
    let others : joined (next ∷ pages) ≡ map row_of (drop n xs) = rest ∙ ap (map row_of) (read.3 ∙ left_over) in
    ap (λ p. p ++ joined (next ∷ pages)) read.1
    ∙ ap (λ rows. map row_of (take n xs) ++ rows) others
    ∙ sym (map-append row_of (take n xs) (drop n xs))
    ∙ ap (map row_of) (take-append-drop n xs)
