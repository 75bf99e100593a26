use Rattle.std.specs.Prelude.{◌≡◌, ◌-◌, ◌++◌, length, map, take}
use Rattle.asset_keeper.specs.Table.{row_of}
use Rattle.asset_keeper.proofs.page.copy_rows.Given as goal

-- the rows so far and those that are left are the first rows of all
abbrev pub invariant-loop-rest : goal.invariant-loop-rest
invariant-loop-rest l = l.out.items ++ map row_of (take (l.n - length l.out.items) l.rest) ≡ map row_of (take l.n l.fn.rest)

abbrev pub decreases-loop-rest : goal.decreases-loop-rest
decreases-loop-rest l = l.n - length l.out.items
