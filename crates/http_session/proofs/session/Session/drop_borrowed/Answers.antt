use Rattle.std.proofs.Common.{arith}
use Rattle.http_session.proofs.Prefixes.{no_bytes}
use Rattle.http_session.proofs.session.Session.drop_borrowed.Goals as goal

pub invariant_of-self : goal.invariant_of-self
invariant_of-self c = (omega arith, omega arith, no_bytes, c.self.invariant.3, c.self.invariant.4, c.self.invariant.5)
