use Rattle.std.proofs.Common.{◌≡◌, take, ap, ◌∙◌}
use Rattle.java_props.specs.Kept.{Entries, put}
use Rattle.blob_properties.proofs.Puts.{next_set}
use Rattle.blob_properties.proofs.pairs.copied.Goals as goal

pub loop-at-preserved : goal.loop-at-preserved
loop-at-preserved c =
    c.in_ok-put.ensures.set
    ∙ ap (put c.in-Some.key.now c.in-Some.value.now) c.loop-at.invariant
    ∙ next_set c.args.pairs.now c.loop-at.at (c.in-Some.key.now, c.in-Some.value.now) c.len-at-end.ensures.pairs.ordered c.in-Some.ensures.value
