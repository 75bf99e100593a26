use Rattle.std.proofs.Common.{ap, ◌∙◌}
use Rattle.std.specs.FinMap.{insert}
use Rattle.nx_base.proofs.Orders.{key_cmp_total, exact_keys}
use Rattle.nx_base.proofs.Trees.{one_set}
use Rattle.repo_model.proofs.plain.key_map.KeyMap.insert.Goals as goal

pub returns-in-Ok-clause-ok : goal.returns-in-Ok-clause-ok
returns-in-Ok-clause-ok g c =
    one_set key_cmp_total exact_keys c.self.inside.tree.entries c.insert.new.self.entries c.args.key c.args.value c.in-Ok.ensures.updates.0
    ∙ ap (λ m. insert m c.args.key c.args.value) c.self.view_is
