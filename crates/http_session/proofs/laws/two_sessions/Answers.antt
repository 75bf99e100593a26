use Rattle.session_history.proofs.Same.{one}
use Rattle.http_session.proofs.laws.two_sessions.Goals as goal

pub returns-clause-same : goal.returns-clause-same
returns-clause-same c s u fed past other t v h k e = one fed past.marks other.marks past.came other.came h k e
