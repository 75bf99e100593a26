use Rattle.java_props.proofs.Blanks.{gap_with, gap_other}
use Rattle.java_props.proofs.reading.after_key.Goals as goal

pub returns-then-has_separator-clause-left : goal.returns-then-has_separator-clause-left
returns-then-has_separator-clause-left c = let s = c.has_separator.ensures.there c.if-has_separator.true in
    (gap_with c.args.bytes.now c.args.at c.after_blanks-at.result c.next_place.result c.after_blanks.result c.after_blanks-at.ensures.trimmed c.after_blanks-at.ensures.others s.0 s.1 c.next_place.ensures.same c.after_blanks.ensures.trimmed c.after_blanks.ensures.others).0

pub returns-then-has_separator-clause-others : goal.returns-then-has_separator-clause-others
returns-then-has_separator-clause-others c = let s = c.has_separator.ensures.there c.if-has_separator.true in
    (gap_with c.args.bytes.now c.args.at c.after_blanks-at.result c.next_place.result c.after_blanks.result c.after_blanks-at.ensures.trimmed c.after_blanks-at.ensures.others s.0 s.1 c.next_place.ensures.same c.after_blanks.ensures.trimmed c.after_blanks.ensures.others).1

pub returns-clause-left : goal.returns-clause-left
returns-clause-left c = gap_other c.args.bytes.now c.args.at c.after_blanks-at.result c.after_blanks-at.ensures.trimmed c.after_blanks-at.ensures.stands (c.has_separator.ensures.none c.if-has_separator.false)
