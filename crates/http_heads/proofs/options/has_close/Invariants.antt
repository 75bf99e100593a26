use Rattle.std.proofs.Common.{◌≡◌, ◌≤◌, length}
use Rattle.http_heads.specs.Options.{has_close}
use Rattle.http_heads.proofs.options.has_close.Given as goal

abbrev pub invariant-members : goal.invariant-members
invariant-members l = record {
  same : has_close l.rest ≡ has_close l.value;
  short : length l.rest ≤ length l.value;
}

abbrev pub decreases-members : goal.decreases-members
decreases-members l = length l.rest
