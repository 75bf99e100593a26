use Rattle.session_history.proofs.Made.{made}
use Rattle.session_history.proofs.laws.requests_of_history.Goals as goal

pub returns : goal.returns
returns c bytes marks came h t = made bytes marks came h t
