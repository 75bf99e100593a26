use Rattle.std.proofs.Common.{◌≡◌, ◌≤◌, ◌-◌, length, false}
use Rattle.java_props.specs.Lines.{natural_lines}
use Rattle.java_props.specs.From.{rest, others_of}
use Rattle.java_props.proofs.lines.after_line.Given as goal

abbrev pub invariant-loop-at : goal.invariant-loop-at
invariant-loop-at l = record {
  after : l.initial.at ≤ l.at;
  within : l.at ≤ length l.bytes;
  same : others_of (natural_lines false (rest l.bytes l.initial.at)) ≡ others_of (natural_lines false (rest l.bytes l.at));
}

abbrev pub decreases-loop-at : goal.decreases-loop-at
decreases-loop-at l = length l.bytes - l.at
