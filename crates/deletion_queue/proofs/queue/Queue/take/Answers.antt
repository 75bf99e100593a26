use Rattle.std.proofs.Common.{◌≡◌, Some, sym, ap, ◌∙◌}
use Rattle.std.specs.Option.{option_map}
use Rattle.std.specs.FinMap.{get, remove, from_entries}
use Rattle.nx_base.specs.Order.{age_cmp}
use Rattle.nx_base.specs.declared.blob_ref.BlobRef.{BlobRef}
use Rattle.nx_base.proofs.Orders.{age_cmp_total, exact_blobs}
use Rattle.nx_base.proofs.Trees.{get_at, one_removed}
use Rattle.repo_model.specs.declared.deletion.Deletion.{Deletion}
use Rattle.deletion_queue.proofs.Moves.{taken_out}
use Rattle.deletion_queue.proofs.queue.Queue.take.Goals as goal

pub returns-in_err-blob-clause-taken : goal.returns-in_err-blob-clause-taken
returns-in_err-blob-clause-taken c =
    c.from_residual.ensures ∙ sym (ap (option_map (λ (p : BlobRef × Deletion). p.1)) (c.in_err-blob.was)) ∙ c.remove_entry.ensures.value
    ∙ sym (get_at age_cmp_total exact_blobs c.self.inside.deletions.entries c.args.blob.now) ∙ ap (λ m. get m c.args.blob.now) c.self.view_is

pub returns-in_err-blob-clause-left : goal.returns-in_err-blob-clause-left
returns-in_err-blob-clause-left c =
    one_removed age_cmp_total exact_blobs c.self.inside.deletions.entries c.remove_entry.new.self.entries c.args.blob.now c.remove_entry.ensures.updates.0
    ∙ ap (λ m. remove m c.args.blob.now) c.self.view_is

pub invariant_of-self-2 : goal.invariant_of-self-2
invariant_of-self-2 c =
    let es = c.self.inside.deletions.entries in
    let there : get (from_entries {R = age_cmp} es) c.args.blob.now ≡ Some c.in_ok-blob.deletion =
    get_at age_cmp_total exact_blobs es c.args.blob.now ∙ sym c.remove_entry.ensures.value ∙ ap (option_map (λ (p : BlobRef × Deletion). p.1)) (c.in_ok-blob.was) in
    taken_out (from_entries es) c.self.inside.places c.self.invariant c.args.blob.now (from_entries c.remove_entry.new.self.entries) c.remove.new.self
    c.in_ok-blob.deletion c.in_ok-blob.blob (sym (exact_blobs c.args.blob.now c.in_ok-blob.blob c.in_ok-blob.ensures.same_key)) there
    (one_removed age_cmp_total exact_blobs es c.remove_entry.new.self.entries c.args.blob.now c.remove_entry.ensures.updates.0) c.remove.ensures

pub returns-clause-taken : goal.returns-clause-taken
returns-clause-taken c =
    sym (ap (option_map (λ (p : BlobRef × Deletion). p.1)) (c.in_ok-blob.was)) ∙ c.remove_entry.ensures.value
    ∙ sym (get_at age_cmp_total exact_blobs c.self.inside.deletions.entries c.args.blob.now) ∙ ap (λ m. get m c.args.blob.now) c.self.view_is

pub returns-clause-left : goal.returns-clause-left
returns-clause-left c =
    one_removed age_cmp_total exact_blobs c.self.inside.deletions.entries c.remove_entry.new.self.entries c.args.blob.now c.remove_entry.ensures.updates.0
    ∙ ap (λ m. remove m c.args.blob.now) c.self.view_is
