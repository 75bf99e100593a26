use Rattle.std.proofs.Common.{arith, sym, ◌∙◌, inl, inr}
use Rattle.http_heads.proofs.CutLemmas.{blank_lf, blank_stays}
use Rattle.http_heads.proofs.cut.blank_len.Goals as goal
use Rattle.http_heads.proofs.cut.blank_len.Goals.{else-bytes-at-eq13-via-then-bytes-at-eq13+then-at-bytes+else-bytes-at-eq10-2, else-bytes-at-eq13-via-then-bytes-at-eq13+else-at-bytes, else-bytes-at-eq13-via-else-bytes-at-eq13}

pub loop-at-preserved-then-bytes-at-eq10 : goal.loop-at-preserved-then-bytes-at-eq10
loop-at-preserved-then-bytes-at-eq10 c = record {
  within = omega arith;
  rest = blank_lf c.args.bytes.now c.loop-at.at c.loop-at-test.true c.if-bytes-at-eq10.true ∙ c.loop-at.invariant.rest;
}

pub returns-else-bytes-at-eq13-clause-rest : goal.returns-else-bytes-at-eq13-clause-rest
returns-else-bytes-at-eq13-clause-rest c =
    sym (blank_stays c.args.bytes.now c.loop-at.at c.loop-at-test.true c.if-bytes-at-eq10.false (elim c.else-bytes-at-eq13.branch [
      | else-bytes-at-eq13-via-then-bytes-at-eq13+then-at-bytes+else-bytes-at-eq10-2 w ↦ inr (inr w.if-bytes-at-eq10-2.false)
      | else-bytes-at-eq13-via-then-bytes-at-eq13+else-at-bytes w ↦ inr (inl w.if-at-bytes.false)
      | else-bytes-at-eq13-via-else-bytes-at-eq13 w ↦ inl w.if-bytes-at-eq13.false
    ])) ∙ c.loop-at.invariant.rest
