-- What rows say of the contents.
use Rattle.std.specs.Prelude.{Option, Some, None}
use Rattle.std.specs.Option.{option_map}
use Rattle.std.specs.FinMap as map
use Rattle.nx_base.specs.Order.{key_cmp}
use Rattle.nx_base.specs.declared.asset.Asset.{Asset}
use Rattle.asset_keeper.specs.Table.{Table}
use Rattle.tree_content.specs.Contents.{Content, Contents}

-- what a row gives its key
abbrev pub content_in : Asset → Content
content_in asset = record { blob = asset.blob; size = asset.size; sha1 = asset.sha1 }

-- what rows give each key
abbrev pub contents_in : map.FinMap key_cmp Asset → Contents
contents_in rows key = option_map content_in (map.get rows key)

-- the rows, where the keeper tells them
abbrev pub rows_in : Option Table → map.FinMap key_cmp Asset
rows_in None = map.empty
rows_in (Some table) = table.rows
