use Rattle.std.proofs.Common.{arith}
use Rattle.java_props.proofs.Skips.{later_end, later_none}
use Rattle.java_props.proofs.lines.next_line.Goals as goal

pub returns-then-at-bytes-clause-lines : goal.returns-then-at-bytes-clause-lines
returns-then-at-bytes-clause-lines c = later_none c.args.bytes.now c.args.at (omega arith)

pub returns-clause-lines : goal.returns-clause-lines
returns-clause-lines c = later_end c.args.bytes.now c.args.at c.after_line_end.result (omega arith) (c.requires.end (omega arith)) c.after_line_end.ensures.lines
