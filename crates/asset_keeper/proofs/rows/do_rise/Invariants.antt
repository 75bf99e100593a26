use Rattle.std.proofs.Common.{drop}
use Rattle.std.specs.Option.{option_copied}
use Rattle.asset_keeper.specs.Pages.{RiseAfter}
use Rattle.asset_keeper.proofs.rows.do_rise.Given as goal

-- the keys that are left rise after the last one exactly where all rise
abbrev pub invariant-loop-row : goal.invariant-loop-row
invariant-loop-row l =
    (RiseAfter (option_copied l.last) (drop l.row-index l.rows) → RiseAfter (option_copied l.fn.after) l.rows)
    × (RiseAfter (option_copied l.fn.after) l.rows → RiseAfter (option_copied l.last) (drop l.row-index l.rows))
