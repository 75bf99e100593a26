use Rattle.std.proofs.Common.{◌<◌, length, sym, ◌∙◌, arith}
use Rattle.java_props.proofs.Skips.{none_from, skips_last, skips_blank, skips_comment, begins_here}
use Rattle.java_props.proofs.lines.begin.Goals as goal

pub returns-then-from-bytes-clause-lines : goal.returns-then-from-bytes-clause-lines
returns-then-from-bytes-clause-lines c = c.loop-at.invariant.same ∙ skips_last c.args.bytes.now c.loop-at.at c.after_white-from.result c.after_white-from.ensures.trimmed (omega arith)

pub loop-at-preserved-then-ends_line : goal.loop-at-preserved-then-ends_line
loop-at-preserved-then-ends_line c =
    let lt : c.after_white-from.result < length c.args.bytes.now = omega (arith, c.after_white-from.ensures.within.1) in
    record {
      after = omega (arith, c.after_white-from.ensures.within.0, c.after_line_end-at.ensures.within.0);
      within = c.after_line_end-at.ensures.within.1;
      same = c.loop-at.invariant.same ∙ skips_blank c.args.bytes.now c.loop-at.at c.after_white-from.result c.after_line_end-at.result c.after_white-from.ensures.trimmed lt (sym c.ends_line.ensures ∙ c.if-ends_line.true) c.after_line_end-at.ensures.lines;
    }

pub loop-at-preserved : goal.loop-at-preserved
loop-at-preserved c =
    let lt : c.after_white-from.result < length c.args.bytes.now = omega (arith, c.after_white-from.ensures.within.1) in
    record {
      after = omega (arith, c.after_white-from.ensures.within.0, c.after_line-at.ensures.within.0);
      within = c.after_line-at.ensures.within.1;
      same = c.loop-at.invariant.same ∙ skips_comment c.args.bytes.now c.loop-at.at c.after_white-from.result c.after_line-at.result c.after_white-from.ensures.trimmed lt (sym c.ends_line.ensures ∙ c.if-ends_line.false) (sym c.begins_comment.ensures ∙ c.if-begins_comment.true) c.after_line-at.ensures.lines;
    }

pub returns-else-begins_comment-clause-lines : goal.returns-else-begins_comment-clause-lines
returns-else-begins_comment-clause-lines c =
    let lt : c.after_white-from.result < length c.args.bytes.now = omega (arith, c.after_white-from.ensures.within.1) in
    c.loop-at.invariant.same ∙ begins_here c.args.bytes.now c.loop-at.at c.after_white-from.result c.after_white-from.ensures.trimmed lt (sym c.ends_line.ensures ∙ c.if-ends_line.false) (sym c.begins_comment.ensures ∙ c.if-begins_comment.false)

pub returns-clause-lines : goal.returns-clause-lines
returns-clause-lines c = c.loop-at.invariant.same ∙ none_from c.args.bytes.now c.loop-at.at c.loop-at-test.false
