use Rattle.std.proofs.Common.{◌≡◌, ◌<◌, ℕ, length, take, ap, sym, subst, ◌∙◌, cond, refl}
use Rattle.java_props.specs.Kept.{Entries, put}
use Rattle.blob_properties.specs.Keys.{is_own_key, others_of}
use Rattle.blob_properties.specs.Props.{AreOthers}
use Rattle.blob_properties.proofs.Puts.{next_other, others-few, others-are}
use Rattle.blob_properties.proofs.required.others.Goals as goal

pub loop-at-init : goal.loop-at-init
unfolding others_of
loop-at-init c = c.new-others.ensures

pub put_other-requires : goal.put_other-requires
put_other-requires c =
    subst (λ (e : Entries). length e < 256) (sym c.loop-at.invariant)
    (others-few c.args.pairs.now c.loop-at.at (subst (λ (n : ℕ). c.loop-at.at < n) c.len-at-end.ensures.value c.loop-at-test.true) c.len-at-end.ensures.pairs.few)

pub loop-at-preserved : goal.loop-at-preserved
loop-at-preserved c =
    c.in_ok-put_other.ensures
    ∙ ap (λ (e : Entries). cond (is_own_key c.in-Some.key.now) e (put c.in-Some.key.now c.in-Some.value.now e)) c.loop-at.invariant
    ∙ next_other c.args.pairs.now c.loop-at.at (c.in-Some.key.now, c.in-Some.value.now) c.len-at-end.ensures.pairs.ordered c.in-Some.ensures.value

pub returns-clause-foreign : goal.returns-clause-foreign
returns-clause-foreign c = subst AreOthers (sym c.loop-at.invariant) (others-are (take c.loop-at.at c.args.pairs.now))
