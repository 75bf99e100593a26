use Rattle.std.proofs.Common.{◌≤◌, length}
use Rattle.worked_rows.proofs.chunks.read.Given as goal

abbrev pub invariant-loop : goal.invariant-loop
invariant-loop l = (l.taken ≤ l.there) × (l.there ≤ length l.text)
