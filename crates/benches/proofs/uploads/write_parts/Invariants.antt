use Rattle.std.proofs.Common.{IsSome}
use Rattle.benches.proofs.uploads.write_parts.Given as goal

abbrev pub invariant-loop : goal.invariant-loop
invariant-loop l = IsSome l.upload.target
