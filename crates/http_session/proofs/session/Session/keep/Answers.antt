use Rattle.std.proofs.Common.{ℕ, List, take, length, ap, arith, length-append}
use Rattle.http_session.specs.Views.{SessionView}
use Rattle.http_session.proofs.Prefixes.{prefix_stays}
use Rattle.http_session.proofs.session.Session.keep.Goals as goal

pub invariant_of-self : goal.invariant_of-self
invariant_of-self c =
    let more : List ℕ = take c.feed-count.result c.args.bytes.now in
    let added = c.feed-count.ensures.added in
    let long = length-append c.self.inside.buffer more in (
      omega (arith, ap length added, long, c.self.invariant.0),
      omega (arith, ap length added, long, c.self.invariant.1),
      prefix_stays c.self.inside.scanned c.self.inside.buffer more c.feed-count.new.self c.self.invariant.1 added c.self.invariant.2,
      c.self.invariant.3,
      omega (arith, c.requires, ap (λ (v : SessionView). v.total) c.self.view_is, c.feed-count.ensures.count),
      c.self.invariant.5,
    )
