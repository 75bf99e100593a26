use Rattle.std.proofs.Common.{◌≡◌, None, replicate}
use Rattle.raw_repos.proofs.holds.Holds.new.Given as goal

abbrev pub invariant-loop : goal.invariant-loop
invariant-loop l = l.blobs.items ≡ replicate l.counter None
