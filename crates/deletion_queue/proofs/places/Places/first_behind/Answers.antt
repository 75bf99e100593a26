use Rattle.std.proofs.Common.{Option, Some, None, sym, subst}
use Rattle.std.specs.Option.{option_copied}
use Rattle.std.specs.FinSet as set
use Rattle.std.specs.declared.ops.Bound.TheVariants.{Excluded, Unbounded}
use Rattle.deletion_queue.specs.declared.place.QueuePlace.{QueuePlace}
use Rattle.deletion_queue.specs.Order.{place_cmp}
use Rattle.deletion_queue.specs.Behind.{IsFirstBehind}
use Rattle.deletion_queue.proofs.Firsts.{first_of_range}
use Rattle.deletion_queue.proofs.places.Places.first_behind.Goals as goal

pub returns-in-Some : goal.returns-in-Some
returns-in-Some c =
    let first =
    first_of_range c.self.inside.tree (Excluded c.in-Some.other.now) (Some c.in-Some.other.now) c.range.result (λ p behind. (behind, tt)) (λ p inside. inside.0) (c.range.ensures.in_range tt)
    c.next.result c.next.new.self c.next.ensures.steps in
    rw c.in-Some.is (subst (λ (s : set.FinSet place_cmp). IsFirstBehind s (Some c.in-Some.other.now) (option_copied c.next.result)) c.self.view_is first)

pub returns-in-None : goal.returns-in-None
returns-in-None c =
    let first =
    first_of_range c.self.inside.tree Unbounded None c.range-in-None.result (λ p behind. (tt, tt)) (λ p inside. tt) (c.range-in-None.ensures.in_range tt)
    c.next-in-None.result c.next-in-None.new.self c.next-in-None.ensures.steps in
    rw c.in-None.is (subst (λ (s : set.FinSet place_cmp). IsFirstBehind s None (option_copied c.next-in-None.result)) c.self.view_is first)
