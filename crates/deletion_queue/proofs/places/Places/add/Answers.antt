use Rattle.std.proofs.Common.{ap, ◌∙◌}
use Rattle.std.specs.FinSet.{insert}
use Rattle.nx_base.proofs.Trees.{one_added}
use Rattle.deletion_queue.specs.OrderLaws.{place_cmp_total}
use Rattle.deletion_queue.proofs.Exact.{exact_places}
use Rattle.deletion_queue.proofs.places.Places.add.Goals as goal
use Rattle.deletion_queue.proofs.places.Places.add.Goals.{in-Ok, in-Err}

pub returns-clause-ok : goal.returns-clause-ok
returns-clause-ok c =
    elim c.match-insert.branch [
      | in-Ok w ↦ rw w.result-is (one_added place_cmp_total exact_places c.self.inside.tree.keys c.insert.new.self.keys c.args.place w.in-Ok.ensures.updates.0
          ∙ ap (λ s. insert s c.args.place) c.self.view_is)
      | in-Err w ↦ rw w.result-is tt
    ]
