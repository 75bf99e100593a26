use Rattle.std.proofs.Common.{◌≡◌, [], take, length, sym, ap, subst, ◌∙◌, arith}
use Rattle.http_heads.specs.Cut.{HasNoHead}
use Rattle.http_session.specs.Views.{SessionView}
use Rattle.http_session.proofs.Prefixes.{all_held, none_in_prefix}
use Rattle.http_session.proofs.session.Session.note_scanned.Goals as goal

pub invariant_of-self : goal.invariant_of-self
invariant_of-self c =
    let s = c.self.inside in
    let none : take s.borrowed s.buffer ≡ [] = ap (λ (v : SessionView). v.borrowed) c.self.view_is ∙ c.requires.none in
    let all : s.buffer ≡ c.args.self.now.held = sym (all_held s.borrowed s.buffer none) ∙ ap (λ (v : SessionView). v.held) c.self.view_is in (
      c.self.invariant.0,
      omega (arith, ap length all, ap length c.held.ensures.held),
      none_in_prefix (length c.held.result.now) s.buffer (subst HasNoHead (sym all) c.requires.no_head),
      c.self.invariant.3,
      c.self.invariant.4,
      c.self.invariant.5,
    )
