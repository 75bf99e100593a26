-- The order of the queue.
use Rattle.std.specs.declared.cmp.Ordering.{Ordering}
use Rattle.std.specs.Ordering.{nat_cmp, ordering_then}
use Rattle.nx_base.specs.Order.{name_cmp}
use Rattle.deletion_queue.specs.declared.place.QueuePlace.{QueuePlace}

-- by the time of deletion, then by store, by id and by timestamp
abbrev pub place_cmp : QueuePlace → QueuePlace → Ordering
place_cmp a b =
    ordering_then (nat_cmp a.at b.at)
    (ordering_then (name_cmp a.blob.store b.blob.store) (ordering_then (name_cmp a.blob.id b.blob.id) (nat_cmp a.blob.timestamp b.blob.timestamp)))
