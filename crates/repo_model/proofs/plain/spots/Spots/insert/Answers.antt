use Rattle.std.proofs.Common.{ap, ◌∙◌}
use Rattle.std.specs.FinSet.{insert}
use Rattle.repo_model.proofs.SpotOrder.{spot_cmp_total, exact_spots}
use Rattle.nx_base.proofs.Trees.{one_added}
use Rattle.repo_model.proofs.plain.spots.Spots.insert.Goals as goal
use Rattle.repo_model.proofs.plain.spots.Spots.insert.Goals.{in-Ok, in-Err}

pub returns-clause-ok : goal.returns-clause-ok
returns-clause-ok c =
    elim c.match-insert.branch [
      | in-Ok w ↦ rw w.result-is (one_added spot_cmp_total exact_spots c.self.inside.tree.keys c.insert.new.self.keys c.args.spot w.in-Ok.ensures.updates.0
          ∙ ap (λ s. insert s c.args.spot) c.self.view_is)
      | in-Err w ↦ rw w.result-is tt
    ]
