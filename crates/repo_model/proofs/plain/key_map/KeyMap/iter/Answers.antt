use Rattle.std.proofs.Common.{ap, sym, ◌∙◌}
use Rattle.std.specs.FinMap.{entries}
use Rattle.nx_base.proofs.Orders.{key_cmp_total, exact_keys}
use Rattle.nx_base.proofs.Trees.{entries_are}
use Rattle.repo_model.proofs.plain.key_map.KeyMap.iter.Goals as goal

pub returns : goal.returns
returns g c = c.iter.ensures.rest ∙ sym (entries_are key_cmp_total exact_keys c.self.inside.tree.entries c.iter.ensures.ordered) ∙ ap (λ m. entries m) c.self.view_is
