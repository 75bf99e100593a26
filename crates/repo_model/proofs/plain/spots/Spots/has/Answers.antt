use Rattle.std.proofs.Common.{ap, sym, ◌∙◌}
use Rattle.std.specs.FinSet.{contains, contains-from_list}
use Rattle.repo_model.proofs.SpotOrder.{spot_cmp_total}
use Rattle.repo_model.proofs.plain.spots.Spots.has.Goals as goal

pub returns : goal.returns
returns c = c.contains.ensures ∙ sym (contains-from_list spot_cmp_total c.self.inside.tree.keys c.args.spot.now) ∙ ap (λ s. contains s c.args.spot.now) c.self.view_is
