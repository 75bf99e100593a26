use Rattle.std.proofs.Common.{◌≡◌, Option, Some, None, Bor, sym, ap, subst, ◌∙◌}
use Rattle.std.specs.Option.{option_copied}
use Rattle.std.specs.FinMap.{FinMap, get, from_entries}
use Rattle.nx_base.specs.Order.{age_cmp}
use Rattle.nx_base.proofs.Orders.{age_cmp_total, exact_blobs}
use Rattle.nx_base.proofs.Trees.{get_at}
use Rattle.repo_model.specs.declared.deletion.Deletion.{Deletion}
use Rattle.deletion_queue.specs.declared.place.QueuePlace.{QueuePlace}
use Rattle.deletion_queue.specs.Behind.{IsFirstBehind}
use Rattle.deletion_queue.specs.Ties.{IsNext}
use Rattle.deletion_queue.proofs.Firsts.{first_is_deleted, next_of}
use Rattle.deletion_queue.proofs.queue.Queue.after.Goals as goal

pub returns-in_err-deletion : goal.returns-in_err-deletion
returns-in_err-deletion c =
    let es = c.self.inside.deletions.entries in
    let other = option_copied c.args.place in
    let first = c.in_ok-first.first.now in
    let h : IsFirstBehind c.self.inside.places other (Some first) =
    subst (λ (r : Option (Bor QueuePlace)). IsFirstBehind c.self.inside.places other (option_copied r)) (c.in_ok-first.was) c.first_behind.ensures in
    let none : get (from_entries {R = age_cmp} es) first.blob ≡ None =
    get_at age_cmp_total exact_blobs es first.blob ∙ sym c.get.ensures.value ∙ ap (λ (r : Option (Bor Deletion)). option_copied r) (c.in_err-deletion.was) in
    absurd (first_is_deleted (from_entries es) c.self.inside.places c.self.invariant other first h none)

pub returns : goal.returns
returns c =
    let es = c.self.inside.deletions.entries in
    let other = option_copied c.args.place in
    let first = c.in_ok-first.first.now in
    let h : IsFirstBehind c.self.inside.places other (Some first) =
    subst (λ (r : Option (Bor QueuePlace)). IsFirstBehind c.self.inside.places other (option_copied r)) (c.in_ok-first.was) c.first_behind.ensures in
    let there : get (from_entries {R = age_cmp} es) first.blob ≡ Some c.in_ok-deletion.deletion.now =
    get_at age_cmp_total exact_blobs es first.blob ∙ sym c.get.ensures.value ∙ ap (λ (r : Option (Bor Deletion)). option_copied r) (c.in_ok-deletion.was) in
    subst (λ (m : FinMap age_cmp Deletion). IsNext m other first.blob c.in_ok-deletion.deletion.now) c.self.view_is
    (next_of (from_entries es) c.self.inside.places c.self.invariant other first c.in_ok-deletion.deletion.now h there)
