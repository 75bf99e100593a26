use Rattle.std.proofs.Common.{◌≡◌, None, replicate}
use Rattle.repo_core.proofs.folder.no_holds.Given as goal

abbrev pub invariant-loop : goal.invariant-loop
invariant-loop l = l.holds.items ≡ replicate l.counter None
