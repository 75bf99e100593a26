use Rattle.std.proofs.Common.{◌≡◌, List, [], sym, ap, subst, ◌∙◌}
use Rattle.std.specs.FinMap as map
use Rattle.std.specs.FinSet as set
use Rattle.nx_base.specs.Order.{age_cmp}
use Rattle.nx_base.specs.declared.blob_ref.BlobRef.{BlobRef}
use Rattle.repo_model.specs.declared.deletion.Deletion.{Deletion}
use Rattle.deletion_queue.specs.Order.{place_cmp}
use Rattle.deletion_queue.specs.Ties.{ArePlacesOf}
use Rattle.deletion_queue.proofs.Moves.{no_places}
use Rattle.deletion_queue.proofs.queue.Queue.new.Goals as goal

pub invariant_of-result : goal.invariant_of-result
invariant_of-result c =
    subst (λ (es : List (BlobRef × Deletion)). ArePlacesOf (map.from_entries es) c.new-2.result) (sym c.new.ensures.empty)
    (subst (λ (s : set.FinSet place_cmp). ArePlacesOf map.empty s) (sym c.new-2.ensures) no_places)
