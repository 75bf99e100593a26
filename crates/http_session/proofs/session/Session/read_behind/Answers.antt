use Rattle.std.proofs.Common.{◌≡◌, take, length, ap, sym, subst, arith, ℕ, List, length-append}
use Rattle.http_heads.specs.Cut.{HasNoHead}
use Rattle.http_session.specs.Views.{SessionView}
use Rattle.http_session.proofs.Prefixes.{prefix_stays}
use Rattle.http_session.proofs.session.Session.read_behind.Goals as goal

pub invariant_of-self : goal.invariant_of-self
invariant_of-self g c =
    let s = c.self.inside in
    let same : c.read_from.new.self ≡ s.buffer = c.in_default.ensures.reads.1 in (
      omega (arith, ap length same, c.self.invariant.0),
      omega (arith, ap length same, c.self.invariant.1),
      subst (λ (b : List ℕ). HasNoHead (take s.scanned b)) (sym same) c.self.invariant.2,
      c.self.invariant.3,
      c.self.invariant.4,
      c.self.invariant.5,
    )

pub invariant_of-self-2 : goal.invariant_of-self-2
invariant_of-self-2 g c =
    let r = c.in-Ok.ensures.reads in
    let s = c.self.inside in
    let added = r.4 in
    let long = length-append s.buffer r.0 in (
      omega (arith, ap length added, long, c.self.invariant.0),
      omega (arith, ap length added, long, c.self.invariant.1),
      prefix_stays s.scanned s.buffer r.0 c.read_from.new.self c.self.invariant.1 added c.self.invariant.2,
      c.self.invariant.3,
      omega (arith, c.requires.within, ap (λ (v : SessionView). v.total) c.self.view_is, r.2),
      c.self.invariant.5,
    )
