use Rattle.std.proofs.Common.{ap, ◌∙◌}
use Rattle.std.specs.Cmp.Lexicographic.{nat_list_cmp_total}
use Rattle.std.specs.FinMap.{insert}
use Rattle.std.proofs.lemmas.Map.Lookups.{exact_bytes}
use Rattle.nx_base.proofs.Trees.{one_set}
use Rattle.repo_model.proofs.plain.counts.Counts.insert.Goals as goal
use Rattle.repo_model.proofs.plain.counts.Counts.insert.Goals.{in-Ok, in-Err}

pub returns-clause-ok : goal.returns-clause-ok
returns-clause-ok c =
    elim c.match-insert.branch [
      | in-Ok w ↦ rw w.result-is (one_set nat_list_cmp_total exact_bytes c.self.inside.tree.entries c.insert.new.self.entries c.args.store c.args.count w.in-Ok.ensures.updates.0
          ∙ ap (λ m. insert m c.args.store c.args.count) c.self.view_is)
      | in-Err w ↦ rw w.result-is tt
    ]
