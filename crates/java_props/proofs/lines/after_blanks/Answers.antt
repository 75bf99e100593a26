use Rattle.std.proofs.Common.{sym, ◌∙◌, arith}
use Rattle.java_props.proofs.Blanks.{blank_step, blank_stop, blank_past}
use Rattle.java_props.proofs.lines.after_blanks.Goals as goal

pub loop-at-preserved : goal.loop-at-preserved
loop-at-preserved c =
    let s = blank_step c.args.bytes.now c.loop-at.at c.next_place-at.result c.loop-at-test.true (sym c.is_white.ensures ∙ c.if-is_white.true) c.next_place-at.ensures.same in
    record {
      after = omega (arith, c.next_place-at.ensures.within.0);
      within = c.next_place-at.ensures.within.1;
      stands = c.next_place-at.ensures.stands;
      trimmed = c.loop-at.invariant.trimmed ∙ s.0;
      others = c.loop-at.invariant.others ∙ s.1;
    }

pub returns-else-is_white-clause-trimmed : goal.returns-else-is_white-clause-trimmed
returns-else-is_white-clause-trimmed c = c.loop-at.invariant.trimmed ∙ blank_stop c.args.bytes.now c.loop-at.at c.loop-at-test.true c.loop-at.invariant.stands (sym c.is_white.ensures ∙ c.if-is_white.false)

pub returns-after-loop-at-clause-trimmed : goal.returns-after-loop-at-clause-trimmed
returns-after-loop-at-clause-trimmed c = c.loop-at.invariant.trimmed ∙ blank_past c.args.bytes.now c.loop-at.at c.loop-at-test.false
