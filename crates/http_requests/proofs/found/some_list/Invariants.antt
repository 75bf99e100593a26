use Rattle.std.proofs.Common.{ℕ, ◌<◌, drop}
use Rattle.http_requests.specs.Found.{HasOpening}
use Rattle.http_requests.proofs.found.some_list.Given as goal

abbrev pub invariant-loop-at : goal.invariant-loop-at
invariant-loop-at l = (k : ℕ) → k < l.at → HasOpening (drop k l.bytes)
