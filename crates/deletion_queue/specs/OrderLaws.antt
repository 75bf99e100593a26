-- The order of the queue is total.
use Rattle.std.specs.Cmp.{IsTotalOrder, nat_cmp_total}
use Rattle.std.specs.Cmp.Lexicographic.{nat_list_cmp_total}
use Rattle.std.proofs.lemmas.Cmp.{on_total, then_total}
use Rattle.deletion_queue.specs.declared.place.QueuePlace.{QueuePlace}
use Rattle.deletion_queue.specs.Order.{place_cmp}

pub place_cmp_total : IsTotalOrder place_cmp
place_cmp_total =
    then_total (on_total (λ (p : QueuePlace). p.at) nat_cmp_total)
    (then_total (on_total (λ (p : QueuePlace). p.blob.store) nat_list_cmp_total)
    (then_total (on_total (λ (p : QueuePlace). p.blob.id) nat_list_cmp_total) (on_total (λ (p : QueuePlace). p.blob.timestamp) nat_cmp_total)))
