use Rattle.std.proofs.Common.{◌≡◌, ℕ, ◌<◌, Some, slice_index_or}
use Rattle.raw_repos.proofs.holds.holds_blob.Given as goal

abbrev pub invariant-loop-held : goal.invariant-loop-held
invariant-loop-held l = (k : ℕ) → k < l.held-index → slice_index_or l.blobs k (Some l.blob) ≡ Some l.blob → ⊥
