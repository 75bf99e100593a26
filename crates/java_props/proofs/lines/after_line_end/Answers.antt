use Rattle.std.proofs.Common.{arith}
use Rattle.java_props.proofs.Steps.{end_last, end_both, end_return}
use Rattle.java_props.proofs.lines.after_line_end.Goals as goal

pub returns-then-at-bytes-clause-lines : goal.returns-then-at-bytes-clause-lines
returns-then-at-bytes-clause-lines c = end_last c.args.bytes.now c.args.at (omega arith)

pub returns-then-bytes-at-eq10-clause-lines : goal.returns-then-bytes-at-eq10-clause-lines
returns-then-bytes-at-eq10-clause-lines c = end_both c.args.bytes.now c.args.at (omega arith) (omega arith) (omega arith)

pub returns-clause-lines : goal.returns-clause-lines
returns-clause-lines c = end_return c.args.bytes.now c.args.at (omega arith) (omega arith) c.if-bytes-at-eq10.false
