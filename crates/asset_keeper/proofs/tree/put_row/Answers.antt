use Rattle.std.proofs.Common.{ap, ◌∙◌}
use Rattle.nx_base.proofs.Orders.{key_cmp_total, exact_keys}
use Rattle.nx_base.proofs.Trees.{one_set}
use Rattle.asset_keeper.specs.Ranges.{entries_in_range}
use Rattle.asset_keeper.proofs.InRange.{inserted}
use Rattle.asset_keeper.proofs.tree.put_row.Goals as goal

pub returns-in-Ok-clause-ok : goal.returns-in-Ok-clause-ok
returns-in-Ok-clause-ok c =
    one_set key_cmp_total exact_keys c.args.rows.now.entries c.insert.new.self.entries c.args.row.key c.args.row.asset c.in-Ok.ensures.updates.0

pub returns-in-Ok-clause-range : goal.returns-in-Ok-clause-range
returns-in-Ok-clause-range c =
    ap entries_in_range c.in-Ok.ensures.entries ∙ inserted c.args.row.key c.args.row.asset c.args.rows.now.entries c.requires.row c.requires.whole
