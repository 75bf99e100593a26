use Rattle.std.proofs.Common.{sym, arith}
use Rattle.java_props.proofs.Steps.{digit_step, no_digit, no_digit_end}
use Rattle.java_props.proofs.characters.digit_at.Goals as goal

pub returns-then-at-bytes-clause-cell : goal.returns-then-at-bytes-clause-cell
returns-then-at-bytes-clause-cell c = no_digit_end c.args.bytes.now c.args.at (omega arith)

pub returns-in-None-clause-cell : goal.returns-in-None-clause-cell
returns-in-None-clause-cell c = no_digit c.args.bytes.now c.args.at (omega arith) c.requires.stands (sym c.in-None.ensures.value)

pub returns-in-Some-clause-cell : goal.returns-in-Some-clause-cell
returns-in-Some-clause-cell c = digit_step c.args.bytes.now c.args.at c.next_place.result c.in-Some.d (omega arith) (sym c.in-Some.ensures.value) c.next_place.ensures.same
