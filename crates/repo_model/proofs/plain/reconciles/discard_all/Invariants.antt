use Rattle.std.proofs.Common.{◌≡◌, fold}
use Rattle.std.specs.Vec.Iter.{into_iter_items}
use Rattle.repo_model.specs.Reconciling.{with_superseded, without_superseded}
use Rattle.repo_model.proofs.plain.reconciles.discard_all.Given as goal

-- what is left leads to the same trash, and to the same loose blobs
abbrev pub invariant-loop-blob : goal.invariant-loop-blob
invariant-loop-blob l = record {
  trash : fold with_superseded l.trash (into_iter_items l.blob-iterator) ≡ fold with_superseded l.fn.trash l.fn.list.items;
  loose : fold without_superseded l.loose (into_iter_items l.blob-iterator) ≡ fold without_superseded l.fn.loose l.fn.list.items;
}
