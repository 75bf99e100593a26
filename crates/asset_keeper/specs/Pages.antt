-- The shape of a page, and the reading of a table page by page.
use Rattle.std.specs.Prelude.{◌≡◌, ◌≤◌, ◌<◌, ℕ, List, [], ◌∷◌, ◌++◌, length, Option, Some, None, IsTrue}
use Rattle.std.specs.declared.cmp.Ordering.TheVariants.{Less}
use Rattle.std.specs.FinMap as table
use Rattle.nx_base.specs.declared.key.Key.{Key}
use Rattle.nx_base.specs.declared.row.Row.{Row}
use Rattle.nx_base.specs.Order.{key_cmp}
use Rattle.asset_keeper.specs.Ranges.{rows_in_range}
use Rattle.asset_keeper.specs.Table.{Table, page_of, entries_after}

-- the key comes after the other, if there is one
abbrev pub IsAfter : Option Key → Key → Type 0
IsAfter None key = Unit {0}
IsAfter (Some other) key = key_cmp other key ≡ Less

-- keys strictly rise, from the first, which comes after the one before it
abbrev pub RiseAfter : Option Key → List Row → Type 0
RiseAfter after [] = Unit {0}
RiseAfter after (row ∷ rows) = IsAfter after row.key × RiseAfter (Some row.key) rows

-- at most n rows, in strictly rising order, all after the key
pub record IsPageAfter (after : Option Key) (n : ℕ) (rows : List Row) : Type 0 where
  pub few : length rows ≤ n
  pub rising : RiseAfter after rows

-- what a table may give as the next n rows after the key
abbrev pub MayGive : Option Key → ℕ → List Row → Type 0
MayGive after n rows = IsPageAfter after n rows × IsTrue (rows_in_range rows)

-- the key of the last row, or else the one given
abbrev pub last_key : Option Key → List Row → Option Key
last_key after [] = after
last_key after (row ∷ rows) = last_key (Some row.key) rows

-- one after another, the pages of n rows from the key on, up to the first that has fewer. Between two of them the table changes at no key after the first's last.
abbrev pub AreRead : ℕ → Option Key → Table → List (List Row) → Type 0
AreRead n after t [] = ⊥
AreRead n after t (page ∷ []) = (page ≡ page_of t after n) × (length page < n)
AreRead n after t (page ∷ (next ∷ pages)) =
    (u : Table) × (page ≡ page_of t after n) × (n ≤ length page)
    × (entries_after (last_key after page) (table.entries u.rows) ≡ entries_after (last_key after page) (table.entries t.rows))
    × AreRead n (last_key after page) u (next ∷ pages)

abbrev pub joined : List (List Row) → List Row
joined [] = []
joined (page ∷ pages) = page ++ joined pages
