use Rattle.std.proofs.Common.{◌∙◌, sym}
use Rattle.std.proofs.lemmas.List.{take_rest}
use Rattle.http_heads.proofs.WordLemmas.{skip_step, skip_stop}
use Rattle.http_heads.proofs.words.skip_blank.Goals as goal

pub loop-at-preserved : goal.loop-at-preserved
loop-at-preserved c = skip_step c.args.text.now c.loop-at.at c.loop-at-test.true c.if-not-is_blank.ensures ∙ c.loop-at.invariant

pub returns-then-not-is_blank : goal.returns-then-not-is_blank
returns-then-not-is_blank c =
    take_rest c.args.text.now c.loop-at.at ∙ sym (skip_stop c.args.text.now c.loop-at.at c.loop-at-test.true c.if-not-is_blank.ensures) ∙ c.loop-at.invariant
