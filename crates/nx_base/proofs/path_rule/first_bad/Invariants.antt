use Rattle.std.proofs.Common.{◌≡◌, ◌+◌, ◌-◌, ◌≤◌, drop, length}
use Rattle.nx_base.specs.Paths.{bad_place, segments_of}
use Rattle.nx_base.proofs.path_rule.first_bad.Given as goal

abbrev pub invariant-walk : goal.invariant-walk
invariant-walk l = record {
  within : l.start ≤ length l.text;
  same : bad_place l.start (segments_of (drop l.start l.text)) ≡ bad_place 0 (segments_of l.text);
}

abbrev pub decreases-walk : goal.decreases-walk
decreases-walk l = length l.text + 1 - l.start
