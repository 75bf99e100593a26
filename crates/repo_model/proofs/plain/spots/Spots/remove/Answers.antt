use Rattle.std.proofs.Common.{ap, ◌∙◌}
use Rattle.std.specs.FinSet.{remove}
use Rattle.repo_model.proofs.SpotOrder.{spot_cmp_total, exact_spots}
use Rattle.nx_base.proofs.Trees.{one_dropped}
use Rattle.repo_model.proofs.plain.spots.Spots.remove.Goals as goal

pub returns : goal.returns
returns c =
    one_dropped spot_cmp_total exact_spots c.self.inside.tree.keys c.remove-was_there.new.self.keys c.args.spot.now c.remove-was_there.ensures.updates.0
    ∙ ap (λ s. remove s c.args.spot.now) c.self.view_is
