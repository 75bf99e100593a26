use Rattle.std.proofs.Common.{length, ◌-◌, ◌≤◌, take}
use Rattle.http_chunks.specs.Found.{HasTaken}
use Rattle.http_chunks.proofs.found.some_reading.Given as goal

abbrev pub invariant-loop-n : goal.invariant-loop-n
invariant-loop-n l = record {
  within : l.at ≤ length l.stream;
  taken : HasTaken l.chunks (take l.at l.stream);
}

abbrev pub decreases-loop-n : goal.decreases-loop-n
decreases-loop-n l = length l.stream - l.at
