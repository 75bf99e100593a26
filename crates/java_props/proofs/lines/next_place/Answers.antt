use Rattle.std.proofs.Common.{◌≡◌, true, ◌∙◌, sym, arith, rules}
use Rattle.java_props.proofs.Steps.{goes_step, last_step}
use Rattle.java_props.proofs.lines.next_place.Goals as goal

pub returns-then-at-bytes-clause-same : goal.returns-then-at-bytes-clause-same
returns-then-at-bytes-clause-same c = c.loop-at.invariant.same ∙ last_step c.args.bytes.now c.loop-at.at c.if-at-bytes.true (omega arith)

pub loop-at-preserved : goal.loop-at-preserved
loop-at-preserved c = record {
  after = omega (arith, c.after_white-at.ensures.within.0, c.after_line_end.ensures.within.0);
  within = c.after_white-at.ensures.within.1;
  same = let e : c.ends_line.result ≡ true = search rules in c.loop-at.invariant.same ∙ goes_step c.args.bytes.now c.loop-at.at c.after_line_end.result c.after_white-at.result (omega arith) (omega arith) (sym c.ends_line.ensures ∙ e) c.after_line_end.ensures.lines c.after_white-at.ensures.trimmed;
}
