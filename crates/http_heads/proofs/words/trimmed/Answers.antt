use Rattle.std.proofs.Common.{◌≡◌, ◌∙◌, ℕ, reverse, take, arith, subst}
use Rattle.httparse.specs.Grammar.{skip_ows}
use Rattle.http_heads.proofs.WordLemmas.{trim_step, trim_stop, trim_none}
use Rattle.http_heads.proofs.words.trimmed.Goals as goal

pub loop-end-preserved : goal.loop-end-preserved
loop-end-preserved c = record {
  within = omega (arith, c.loop-end.invariant.within);
  same = trim_step c.skip_blank-prefix.result.now c.loop-end.end (omega arith) c.loop-end.invariant.within c.if-not-is_blank.ensures ∙ c.loop-end.invariant.same;
}

pub returns-then-not-is_blank : goal.returns-then-not-is_blank
returns-then-not-is_blank c =
    trim_stop c.args.text.now c.skip_blank-prefix.result.now c.loop-end.end c.skip_blank-prefix.ensures (omega arith) c.loop-end.invariant.within c.if-not-is_blank.ensures c.loop-end.invariant.same

pub returns : goal.returns
returns c =
    let none : c.loop-end.end ≡ 0 = omega arith in
    trim_none c.args.text.now c.skip_blank-prefix.result.now c.skip_blank-prefix.ensures
    (subst (λ (n : ℕ). skip_ows (reverse (take n c.skip_blank-prefix.result.now)) ≡ skip_ows (reverse c.skip_blank-prefix.result.now)) none c.loop-end.invariant.same)
