use Rattle.std.proofs.Common.{◌≡◌, Option, Some, None, sym, ap, ◌∙◌}
use Rattle.std.specs.FinMap.{get, insert, from_entries}
use Rattle.nx_base.specs.Order.{age_cmp}
use Rattle.nx_base.proofs.Orders.{age_cmp_total, exact_blobs}
use Rattle.nx_base.proofs.Trees.{get_at, one_set}
use Rattle.repo_model.specs.declared.deletion.Deletion.{Deletion}
use Rattle.deletion_queue.proofs.Moves.{put_new, put_again, put_moved, put_back}
use Rattle.deletion_queue.proofs.queue.Queue.add.Goals as goal
use Rattle.deletion_queue.proofs.queue.Queue.add.Goals.{then-before-at, else-before-at}

pub invariant_of-self-in-Ok-None : goal.invariant_of-self-in-Ok-None
invariant_of-self-in-Ok-None c =
    let es = c.self.inside.deletions.entries in
    let fs = c.insert.new.self.entries in
    let absent : get (from_entries {R = age_cmp} es) c.args.blob ≡ None =
    get_at age_cmp_total exact_blobs es c.args.blob ∙ sym (rw c.in-Ok-None.field-0-is at c.in-Ok-None.ensures.old) in
    put_new (from_entries es) c.self.inside.places c.self.invariant c.args.blob (from_entries fs) c.add.new.self c.args.deletion
    (one_set age_cmp_total exact_blobs es fs c.args.blob c.args.deletion c.in-Ok-None.ensures.updates.0) c.add.new.self c.in_ok-try_clone.field-0 c.in_ok-try_clone.ensures c.in_ok-add.ensures.ok absent (λ i. c.add.new.self)

pub returns-in-Ok-None-clause-ok : goal.returns-in-Ok-None-clause-ok
returns-in-Ok-None-clause-ok c =
    one_set age_cmp_total exact_blobs c.self.inside.deletions.entries c.insert.new.self.entries c.args.blob c.args.deletion c.in-Ok-None.ensures.updates.0
    ∙ ap (λ m. insert m c.args.blob c.args.deletion) c.self.view_is

pub invariant_of-self-then-before-at : goal.invariant_of-self-then-before-at
invariant_of-self-then-before-at c =
    let es = c.self.inside.deletions.entries in
    let fs = c.insert.new.self.entries in
    let there : get (from_entries {R = age_cmp} es) c.args.blob ≡ Some c.in-Ok-Some.before =
    get_at age_cmp_total exact_blobs es c.args.blob ∙ sym (rw c.in-Ok-Some.field-0-is at c.in-Ok-Some.ensures.old) in
    put_moved (from_entries es) c.self.inside.places c.self.invariant c.args.blob (from_entries fs) c.remove.new.self c.args.deletion
    (one_set age_cmp_total exact_blobs es fs c.args.blob c.args.deletion c.in-Ok-Some.ensures.updates.0) c.add.new.self c.in_ok-try_clone.field-0 c.in_ok-try_clone.ensures c.in_ok-add.ensures.ok
    c.in-Ok-Some.before there c.if-before-at.true c.in_ok-try_clone-2.field-0 c.in_ok-try_clone-2.ensures c.remove.ensures

pub invariant_of-self-else-before-at : goal.invariant_of-self-else-before-at
invariant_of-self-else-before-at c =
    let es = c.self.inside.deletions.entries in
    let fs = c.insert.new.self.entries in
    let there : get (from_entries {R = age_cmp} es) c.args.blob ≡ Some c.in-Ok-Some.before =
    get_at age_cmp_total exact_blobs es c.args.blob ∙ sym (rw c.in-Ok-Some.field-0-is at c.in-Ok-Some.ensures.old) in
    put_again (from_entries es) c.self.inside.places c.self.invariant c.args.blob (from_entries fs) c.add.new.self c.args.deletion
    (one_set age_cmp_total exact_blobs es fs c.args.blob c.args.deletion c.in-Ok-Some.ensures.updates.0) c.add.new.self c.in_ok-try_clone.field-0 c.in_ok-try_clone.ensures c.in_ok-add.ensures.ok
    c.in-Ok-Some.before there c.if-before-at.false (λ i. c.add.new.self)

pub returns-in-Ok-Some-clause-ok : goal.returns-in-Ok-Some-clause-ok
returns-in-Ok-Some-clause-ok c =
    let put : from_entries {R = age_cmp} c.insert.new.self.entries ≡ insert c.args.self.now c.args.blob c.args.deletion =
    one_set age_cmp_total exact_blobs c.self.inside.deletions.entries c.insert.new.self.entries c.args.blob c.args.deletion c.in-Ok-Some.ensures.updates.0
    ∙ ap (λ m. insert m c.args.blob c.args.deletion) c.self.view_is in
    elim c.if-before-at.branch [
      | then-before-at w ↦ w.self-is ∙ put
      | else-before-at w ↦ w.self-is ∙ put
    ]

pub invariant_of-self-in-Err : goal.invariant_of-self-in-Err
invariant_of-self-in-Err c =
    let es = c.self.inside.deletions.entries in
    let fs = c.insert.new.self.entries in
    put_back (from_entries es) c.self.inside.places c.self.invariant c.args.blob (from_entries fs) c.remove-in-Err.new.self c.args.deletion.at c.add.new.self
    c.in_ok-try_clone.field-0 c.in_ok-try_clone-2.field-0 c.in_ok-try_clone.ensures c.in_ok-try_clone-2.ensures (ap from_entries c.in-Err.ensures.err)
    (get_at age_cmp_total exact_blobs es c.args.blob ∙ c.in-Err.ensures.absent) c.in_ok-add.ensures.ok c.remove-in-Err.ensures
