use Rattle.std.proofs.Common.{◌≡◌, ◌≤◌, ◌-◌, length}
use Rattle.java_props.specs.Lines.{trim}
use Rattle.java_props.specs.From.{Stands, line, later}
use Rattle.java_props.proofs.lines.after_blanks.Given as goal

abbrev pub invariant-loop-at : goal.invariant-loop-at
invariant-loop-at l = record {
  after : l.initial.at ≤ l.at;
  within : l.at ≤ length l.bytes;
  stands : Stands l.bytes l.at;
  trimmed : trim (line l.bytes l.initial.at) ≡ trim (line l.bytes l.at);
  others : later l.bytes l.initial.at ≡ later l.bytes l.at;
}

abbrev pub decreases-loop-at : goal.decreases-loop-at
decreases-loop-at l = length l.bytes - l.at
