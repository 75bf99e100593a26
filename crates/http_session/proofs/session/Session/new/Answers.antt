use Rattle.std.proofs.Common.{arith, refl}
use Rattle.http_session.proofs.Prefixes.{no_bytes}
use Rattle.http_session.proofs.session.Session.new.Goals as goal

pub invariant_of-result : goal.invariant_of-result
invariant_of-result c = (omega arith, omega arith, no_bytes, omega arith, omega arith, λ e. refl)
