use Rattle.std.proofs.Common.{ap, ◌∙◌}
use Rattle.std.specs.FinMap.{remove}
use Rattle.nx_base.proofs.Orders.{age_cmp_total, exact_blobs}
use Rattle.nx_base.proofs.Trees.{one_removed}
use Rattle.repo_model.proofs.plain.blob_map.BlobMap.remove.Goals as goal

pub returns : goal.returns
returns g c =
    one_removed age_cmp_total exact_blobs c.self.inside.tree.entries c.remove-value.new.self.entries c.args.blob.now c.remove-value.ensures.updates.0
    ∙ ap (λ m. remove m c.args.blob.now) c.self.view_is
