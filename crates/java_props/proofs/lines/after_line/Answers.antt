use Rattle.std.proofs.Common.{◌≡◌, false, sym, ap, ◌∙◌, arith, rules}
use Rattle.java_props.specs.Lines.{logical_lines}
use Rattle.java_props.specs.From.{AtEnd}
use Rattle.java_props.proofs.Skips.{others_step, others_end}
use Rattle.java_props.proofs.lines.after_line.Goals as goal

pub loop-at-preserved : goal.loop-at-preserved
loop-at-preserved c =
    let f : c.is_end.result ≡ false = search rules in
    let lt = c.is_end.ensures.within f in
    record {
      after = omega arith;
      within = omega arith;
      same = c.loop-at.invariant.same ∙ others_step c.args.bytes.now c.loop-at.at lt (sym (c.is_end.ensures.here lt) ∙ f);
    }

pub returns-clause-lines : goal.returns-clause-lines
returns-clause-lines c =
    let end : AtEnd c.args.bytes.now c.loop-at.at = search rules in
    ap (λ ls. logical_lines false ls) c.loop-at.invariant.same ∙ others_end c.args.bytes.now c.loop-at.at end ∙ c.next_line.ensures.lines
