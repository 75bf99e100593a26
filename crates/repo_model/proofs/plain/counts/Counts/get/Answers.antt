use Rattle.std.proofs.Common.{ap, sym, ◌∙◌}
use Rattle.std.specs.Cmp.Lexicographic.{nat_list_cmp_total}
use Rattle.std.specs.FinMap.{get}
use Rattle.std.proofs.lemmas.Map.Lookups.{exact_bytes}
use Rattle.nx_base.proofs.Trees.{get_at}
use Rattle.repo_model.proofs.plain.counts.Counts.get.Goals as goal

pub returns : goal.returns
returns c =
    c.copied.ensures ∙ c.get.ensures.value
    ∙ sym (get_at nat_list_cmp_total exact_bytes c.self.inside.tree.entries c.args.store.now) ∙ ap (λ m. get m c.args.store.now) c.self.view_is
