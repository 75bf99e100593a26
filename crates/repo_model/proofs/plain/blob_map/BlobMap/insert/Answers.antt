use Rattle.std.proofs.Common.{ap, ◌∙◌}
use Rattle.std.specs.FinMap.{insert}
use Rattle.nx_base.proofs.Orders.{age_cmp_total, exact_blobs}
use Rattle.nx_base.proofs.Trees.{one_set}
use Rattle.repo_model.proofs.plain.blob_map.BlobMap.insert.Goals as goal

pub returns-in-Ok-clause-ok : goal.returns-in-Ok-clause-ok
returns-in-Ok-clause-ok g c =
    one_set age_cmp_total exact_blobs c.self.inside.tree.entries c.insert.new.self.entries c.args.blob c.args.value c.in-Ok.ensures.updates.0
    ∙ ap (λ m. insert m c.args.blob c.args.value) c.self.view_is
