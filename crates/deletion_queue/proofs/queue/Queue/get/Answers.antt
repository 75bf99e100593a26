use Rattle.std.proofs.Common.{ap, sym, ◌∙◌}
use Rattle.std.specs.FinMap.{get}
use Rattle.nx_base.proofs.Orders.{age_cmp_total, exact_blobs}
use Rattle.nx_base.proofs.Trees.{get_at}
use Rattle.deletion_queue.proofs.queue.Queue.get.Goals as goal

pub returns : goal.returns
returns c = c.get.ensures.value ∙ sym (get_at age_cmp_total exact_blobs c.self.inside.deletions.entries c.args.blob.now) ∙ ap (λ m. get m c.args.blob.now) c.self.view_is
