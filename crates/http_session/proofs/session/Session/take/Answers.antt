use Rattle.std.proofs.Common.{◌≡◌, ℕ, List, drop, take, length, sym, ap, subst, ◌∙◌, arith}
use Rattle.http_heads.specs.Cut.{HasNoHead}
use Rattle.http_session.proofs.Prefixes.{no_bytes}
use Rattle.http_session.proofs.session.Session.take.Goals as goal

pub invariant_of-self : goal.invariant_of-self
invariant_of-self c = (omega arith, omega arith, no_bytes, c.self.invariant.3, c.self.invariant.4, c.self.invariant.5)

pub invariant_of-self-else-count-gt0 : goal.invariant_of-self-else-count-gt0
invariant_of-self-else-count-gt0 c =
    let zero : c.args.count ≡ 0 = omega arith in
    let same : c.take.new.self ≡ c.self.inside.buffer = c.take.ensures ∙ ap (λ (n : ℕ). drop n c.self.inside.buffer) zero in
    (omega arith, omega (arith, ap length same, c.self.invariant.1), subst (λ (b : List ℕ). HasNoHead (take c.self.inside.scanned b)) (sym same) c.self.invariant.2, c.self.invariant.3, c.self.invariant.4, c.self.invariant.5)
