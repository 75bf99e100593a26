use Rattle.java_props.proofs.MapLaws.{set_gives, set_keeps, pairs_give}
use Rattle.java_props.proofs.laws.pairs_are_a_map.Goals as goal

pub returns-clause-gives : goal.returns-clause-gives
returns-clause-gives c = set_gives

pub returns-clause-keeps : goal.returns-clause-keeps
returns-clause-keeps c = set_keeps

pub returns-clause-finds : goal.returns-clause-finds
returns-clause-finds c = λ pairs at pair are e. pairs_give pairs at pair are.ordered e
