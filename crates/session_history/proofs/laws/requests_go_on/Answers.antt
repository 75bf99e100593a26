use Rattle.session_history.proofs.On.{go_on}
use Rattle.session_history.proofs.laws.requests_go_on.Goals as goal

pub returns : goal.returns
returns c marks text spans e more items ends_inside r = go_on marks text spans e more items ends_inside r
