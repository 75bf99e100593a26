use Rattle.std.proofs.Common.{ap, sym, ◌∙◌}
use Rattle.std.specs.FinMap.{entries}
use Rattle.nx_base.proofs.Orders.{age_cmp_total, exact_blobs}
use Rattle.nx_base.proofs.Trees.{entries_are}
use Rattle.repo_model.proofs.plain.blob_map.BlobMap.iter.Goals as goal

pub returns : goal.returns
returns g c = c.iter.ensures.rest ∙ sym (entries_are age_cmp_total exact_blobs c.self.inside.tree.entries c.iter.ensures.ordered) ∙ ap (λ m. entries m) c.self.view_is
