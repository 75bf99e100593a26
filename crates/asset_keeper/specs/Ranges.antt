-- What stands in a table: timestamps, times and the number of a generation below 2 ^ 48, and sizes below 2 ^ 63.
use Rattle.std.specs.Prelude.{ℕ, ◌^◌, Bool, true, ◌&&◌, nat_lt, List, Option}
use Rattle.std.specs.List.{list_all}
use Rattle.std.specs.Option.{option_map_or}
use Rattle.nx_base.specs.declared.key.Key.{Key}
use Rattle.nx_base.specs.declared.asset.Asset.{Asset}
use Rattle.nx_base.specs.declared.row.Row.{Row}
use Rattle.asset_keeper.specs.declared.generation.Generation.{Generation}
use Rattle.asset_keeper.specs.declared.change.Change.{Change}
use Rattle.asset_keeper.specs.declared.change.Change.TheVariants as change

abbrev pub is_time : ℕ → Bool
is_time n = nat_lt n (2 ^ 48)

abbrev pub in_range : Asset → Bool
in_range asset =
    is_time asset.blob.timestamp && nat_lt asset.size (2 ^ 63) && is_time asset.verified && option_map_or is_time asset.downloaded true

abbrev pub found_in_range : Option Asset → Bool
found_in_range asset = option_map_or in_range asset true

abbrev pub rows_in_range : List Row → Bool
rows_in_range rows = list_all (λ row. in_range row.asset) rows

abbrev pub entries_in_range : List (Key × Asset) → Bool
entries_in_range es = list_all (λ e. in_range e.1) es

abbrev pub generation_in_range : Generation → Bool
generation_in_range generation = is_time generation.number

-- a change that leaves a table in range so
abbrev pub change_in_range : Change → Bool
change_in_range (change.Set row) = in_range row.asset
change_in_range (change.Remove key) = true
change_in_range (change.Generation generation) = generation_in_range generation
