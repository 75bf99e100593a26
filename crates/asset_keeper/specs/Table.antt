-- A finite map from keys to assets, and one generation.
use Rattle.std.specs.Prelude.{ℕ, List, map, take, filter, fold, Option, Some, None}
use Rattle.std.specs.Ordering.{is_lt}
use Rattle.std.specs.FinMap.{FinMap, empty, insert, remove, entries}
use Rattle.nx_base.specs.declared.key.Key.{Key}
use Rattle.nx_base.specs.declared.asset.Asset.{Asset}
use Rattle.nx_base.specs.declared.row.Row.{Row}
use Rattle.nx_base.specs.Order.{key_cmp}
use Rattle.asset_keeper.specs.declared.generation.Generation.{Generation}
use Rattle.asset_keeper.specs.declared.change.Change.{Change}
use Rattle.asset_keeper.specs.declared.change.Change.TheVariants as change

pub record Table : Type 0 where
  pub rows : FinMap key_cmp Asset
  pub generation : Generation

-- the table after a change
abbrev pub changed : Table → Change → Table
changed t (change.Set row) = record { rows = insert t.rows row.key row.asset; generation = t.generation }
changed t (change.Remove key) = record { rows = remove t.rows key; generation = t.generation }
changed t (change.Generation generation) = record { rows = t.rows; generation = generation }

-- the entries after a key, in order
abbrev pub entries_after : Option Key → List (Key × Asset) → List (Key × Asset)
entries_after None es = es
entries_after (Some key) es = filter (λ e. is_lt (key_cmp key e.0)) es

abbrev pub row_of : Key × Asset → Row
row_of e = record { key = e.0; asset = e.1 }

-- all rows, by repository and then by path
abbrev pub rows_of : Table → List Row
rows_of t = map row_of (entries t.rows)

-- the next n rows after the key, and fewer at the end
abbrev pub page_of : Table → Option Key → ℕ → List Row
page_of t after n = map row_of (take n (entries_after after (entries t.rows)))

-- the rows, with that one set
abbrev pub with_row : FinMap key_cmp Asset → Row → FinMap key_cmp Asset
with_row rows row = insert rows row.key row.asset

-- the table in which those rows were set, one after another
abbrev pub table_made : List Row → Generation → Table
table_made rows generation = record { rows = fold with_row empty rows; generation = generation }
