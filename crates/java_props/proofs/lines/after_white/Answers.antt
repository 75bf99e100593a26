use Rattle.std.proofs.Common.{◌∙◌, sym, arith}
use Rattle.java_props.proofs.Steps.{white_step, white_stop, white_end}
use Rattle.java_props.proofs.lines.after_white.Goals as goal

pub loop-at-preserved : goal.loop-at-preserved
loop-at-preserved c = record {
  after = omega arith;
  within = omega arith;
  same = c.loop-at.invariant.same ∙ white_step c.args.bytes.now c.loop-at.at c.loop-at-test.true (sym c.is_white.ensures ∙ c.if-is_white.true);
}

pub returns-else-is_white-clause-trimmed : goal.returns-else-is_white-clause-trimmed
returns-else-is_white-clause-trimmed c = c.loop-at.invariant.same ∙ white_stop c.args.bytes.now c.loop-at.at c.loop-at-test.true (sym c.is_white.ensures ∙ c.if-is_white.false)

pub returns-after-loop-at-clause-trimmed : goal.returns-after-loop-at-clause-trimmed
returns-after-loop-at-clause-trimmed c = c.loop-at.invariant.same ∙ white_end c.args.bytes.now c.loop-at.at c.loop-at-test.false
