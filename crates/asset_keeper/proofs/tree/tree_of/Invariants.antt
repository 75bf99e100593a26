use Rattle.std.specs.Prelude.{◌≡◌, fold, IsTrue}
use Rattle.std.specs.FinMap.{empty, from_entries}
use Rattle.std.specs.Vec.Iter.{into_iter_items}
use Rattle.nx_base.specs.Order.{key_cmp}
use Rattle.asset_keeper.specs.Table.{with_row}
use Rattle.asset_keeper.specs.Ranges.{rows_in_range, entries_in_range}
use Rattle.asset_keeper.proofs.tree.tree_of.Given as goal

-- the rows that are left lead from the tree to the same map, and all are in range
abbrev pub invariant-loop-row : goal.invariant-loop-row
invariant-loop-row l = record {
  value : fold with_row (from_entries {R = key_cmp} l.tree.entries) (into_iter_items l.row-iterator) ≡ fold with_row empty l.fn.rows.items;
  whole : IsTrue (entries_in_range l.tree.entries);
  left : IsTrue (rows_in_range (into_iter_items l.row-iterator));
}
