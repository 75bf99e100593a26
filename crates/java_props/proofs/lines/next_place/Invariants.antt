use Rattle.std.proofs.Common.{◌≡◌, ◌≤◌, ◌-◌, length}
use Rattle.java_props.specs.From.{rest, middle}
use Rattle.java_props.proofs.lines.next_place.Given as goal

abbrev pub invariant-loop-at : goal.invariant-loop-at
invariant-loop-at l = record { after : l.initial.at ≤ l.at; within : l.at ≤ length l.bytes; same : middle (rest l.bytes l.initial.at) ≡ middle (rest l.bytes l.at) }

abbrev pub decreases-loop-at : goal.decreases-loop-at
decreases-loop-at l = length l.bytes - l.at
