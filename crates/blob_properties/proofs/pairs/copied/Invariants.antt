use Rattle.std.proofs.Common.{◌≡◌, take, length, ◌≤◌}
use Rattle.blob_properties.proofs.pairs.copied.Given as goal

abbrev pub invariant-loop-at : goal.invariant-loop-at
invariant-loop-at l = l.copy ≡ take l.at l.pairs
