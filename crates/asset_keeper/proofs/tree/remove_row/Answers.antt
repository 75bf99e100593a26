use Rattle.std.proofs.Common.{ap, ◌∙◌}
use Rattle.std.specs.BTreeMap.{is_at}
use Rattle.nx_base.specs.Order.{key_cmp}
use Rattle.nx_base.proofs.Orders.{key_cmp_total, exact_keys}
use Rattle.nx_base.proofs.Trees.{one_removed}
use Rattle.asset_keeper.specs.Ranges.{entries_in_range}
use Rattle.asset_keeper.proofs.InRange.{removed}
use Rattle.asset_keeper.proofs.tree.remove_row.Goals as goal

pub returns-clause-value : goal.returns-clause-value
returns-clause-value c = one_removed key_cmp_total exact_keys c.args.rows.now.entries c.remove-old.new.self.entries c.args.key.now c.remove-old.ensures.updates.0

pub returns-clause-range : goal.returns-clause-range
returns-clause-range c = ap entries_in_range c.remove-old.ensures.entries ∙ removed (is_at (key_cmp c.args.key.now)) c.args.rows.now.entries c.requires
