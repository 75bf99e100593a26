use Rattle.std.proofs.Common.{◌≡◌, ◌++◌, filter}
use Rattle.repo_model.specs.Plain.{state_of}
use Rattle.repo_model.specs.Reconciling.{is_superseded, superseded}
use Rattle.repo_model.proofs.plain.reconciles.superseded_blobs.Given as goal

-- those found and those left to find are all
abbrev pub invariant-loop-blob : goal.invariant-loop-blob
invariant-loop-blob l = l.list.items ++ filter (is_superseded (state_of l.state)) l.blob-iterator ≡ superseded (state_of l.state)
