use Rattle.session_history.proofs.First.{first}
use Rattle.session_history.proofs.laws.first_requests.Goals as goal

pub returns : goal.returns
returns c bytes marks came h items ends_inside requests = first bytes marks came h items ends_inside requests
