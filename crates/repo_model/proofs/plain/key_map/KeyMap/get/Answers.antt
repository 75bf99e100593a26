use Rattle.std.proofs.Common.{ap, sym, ◌∙◌}
use Rattle.std.specs.FinMap.{get}
use Rattle.nx_base.proofs.Orders.{key_cmp_total, exact_keys}
use Rattle.nx_base.proofs.Trees.{get_at}
use Rattle.repo_model.proofs.plain.key_map.KeyMap.get.Goals as goal

pub returns : goal.returns
returns g c = c.get.ensures.value ∙ sym (get_at key_cmp_total exact_keys c.self.inside.tree.entries c.args.key.now) ∙ ap (λ m. get m c.args.key.now) c.self.view_is
