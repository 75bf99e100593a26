use Rattle.std.proofs.Common.{◌≡◌, Err, [], inl, inr, ⊎_elim, ◌∙◌, rules, arith}
use Rattle.java_props.specs.From.{lines_from}
use Rattle.java_props.proofs.LinePairs.{if_refusal, line_read, line_refused, lines_end, reading-long, reading-lines}
use Rattle.java_props.proofs.reading.read_pairs.Goals as goal

pub returns-then-bytes-gt-LONGEST-clause-err : goal.returns-then-bytes-gt-LONGEST-clause-err
returns-then-bytes-gt-LONGEST-clause-err c = inr (reading-long c.args.bytes.now (omega arith))

pub loop-from-preserved : goal.loop-from-preserved
loop-from-preserved c = record {
  within = c.next_line-at.ensures.within.1;
  same = c.loop-from.invariant.same ∙ line_read c.args.bytes.now c.loop-from.at c.in-Some.from c.in_ok-end.end c.next_line-at.result c.loop-from.pairs c.line_at.new.pairs c.in-Some.ensures.lines c.in_ok-end.ensures.pair c.in_ok-end.ensures.others c.next_line-at.ensures.lines;
}

pub returns-in_err-end-clause-err : goal.returns-in_err-end-clause-err
returns-in_err-end-clause-err c =
    let same : c.from_residual.result ≡ Err c.in_err-end.field-0.0 = search rules in
    if_refusal _ _ _ same
    (⊎_elim (λ n. inl n)
    (λ e. inr (reading-lines c.args.bytes.now (omega arith) ∙ c.loop-from.invariant.same ∙ line_refused c.args.bytes.now c.loop-from.at c.in-Some.from c.loop-from.pairs c.in_err-end.field-0.0 c.in-Some.ensures.lines e))
    c.in_err-end.ensures.pair)

pub returns-clause-ok : goal.returns-clause-ok
returns-clause-ok c =
    let none : lines_from c.args.bytes.now c.loop-from.at ≡ [] = search rules in
    reading-lines c.args.bytes.now (omega arith) ∙ c.loop-from.invariant.same ∙ lines_end c.args.bytes.now c.loop-from.at c.loop-from.pairs none
