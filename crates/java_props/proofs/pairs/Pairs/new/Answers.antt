use Rattle.std.proofs.Common.{sym, subst}
use Rattle.java_props.specs.Kept.{ArePairs}
use Rattle.java_props.specs.Seen.{all_seen}
use Rattle.java_props.proofs.Ordered.{no_pairs}
use Rattle.java_props.proofs.pairs.Pairs.new.Goals as goal

pub invariant_of-result : goal.invariant_of-result
invariant_of-result c = subst (λ items. ArePairs (all_seen items)) (sym c.new.ensures.items) no_pairs
