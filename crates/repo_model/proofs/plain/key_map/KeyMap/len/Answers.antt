use Rattle.std.proofs.Common.{ap, sym, ◌∙◌}
use Rattle.std.specs.FinMap.{len}
use Rattle.nx_base.proofs.Orders.{key_cmp_total, exact_keys}
use Rattle.nx_base.proofs.Trees.{len_is}
use Rattle.repo_model.proofs.plain.key_map.KeyMap.len.Goals as goal

pub returns : goal.returns
returns g c = c.len.ensures.len ∙ sym (len_is key_cmp_total exact_keys c.self.inside.tree.entries c.len.ensures.ordered) ∙ ap (λ m. len m) c.self.view_is
