use Rattle.std.proofs.Common.{◌≤◌, length}
use Rattle.worked_rows.proofs.requests.chunked.Given as goal

abbrev pub invariant-loop : goal.invariant-loop
invariant-loop l = l.at ≤ length l.text
