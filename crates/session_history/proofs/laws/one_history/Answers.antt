use Rattle.session_history.proofs.Same.{one}
use Rattle.session_history.proofs.laws.one_history.Goals as goal

pub returns : goal.returns
returns c bytes marks others came other x y e = one bytes marks others came other x y e
