use Rattle.std.proofs.Common.{ap, ◌∙◌}
use Rattle.std.specs.FinSet.{remove}
use Rattle.nx_base.proofs.Trees.{one_dropped}
use Rattle.deletion_queue.specs.OrderLaws.{place_cmp_total}
use Rattle.deletion_queue.proofs.Exact.{exact_places}
use Rattle.deletion_queue.proofs.places.Places.remove.Goals as goal

pub returns : goal.returns
returns c =
    one_dropped place_cmp_total exact_places c.self.inside.tree.keys c.remove-was_there.new.self.keys c.args.place.now c.remove-was_there.ensures.updates.0
    ∙ ap (λ s. remove s c.args.place.now) c.self.view_is
