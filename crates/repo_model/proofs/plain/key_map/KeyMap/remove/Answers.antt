use Rattle.std.proofs.Common.{ap, ◌∙◌}
use Rattle.std.specs.FinMap.{remove}
use Rattle.nx_base.proofs.Orders.{key_cmp_total, exact_keys}
use Rattle.nx_base.proofs.Trees.{one_removed}
use Rattle.repo_model.proofs.plain.key_map.KeyMap.remove.Goals as goal

pub returns : goal.returns
returns g c =
    one_removed key_cmp_total exact_keys c.self.inside.tree.entries c.remove-value.new.self.entries c.args.key.now c.remove-value.ensures.updates.0
    ∙ ap (λ m. remove m c.args.key.now) c.self.view_is
