use Rattle.std.proofs.Common.{◌≡◌, ℕ, List, [], take, length, sym, ap, subst, ◌∙◌, arith}
use Rattle.http_heads.specs.Cut.{HasNoHead}
use Rattle.http_session.specs.Views.{SessionView}
use Rattle.http_session.proofs.Prefixes.{all_held}
use Rattle.http_session.proofs.session.Session.scanned.Goals as goal

pub returns-clause-within : goal.returns-clause-within
returns-clause-within c =
    let s = c.self.inside in
    let none : take s.borrowed s.buffer ≡ [] = ap (λ (v : SessionView). v.borrowed) c.self.view_is ∙ c.requires in
    let all : s.buffer ≡ c.args.self.now.held = sym (all_held s.borrowed s.buffer none) ∙ ap (λ (v : SessionView). v.held) c.self.view_is in
    omega (arith, ap length all, c.self.invariant.1)

pub returns-clause-none : goal.returns-clause-none
returns-clause-none c =
    let s = c.self.inside in
    let none : take s.borrowed s.buffer ≡ [] = ap (λ (v : SessionView). v.borrowed) c.self.view_is ∙ c.requires in
    let all : s.buffer ≡ c.args.self.now.held = sym (all_held s.borrowed s.buffer none) ∙ ap (λ (v : SessionView). v.held) c.self.view_is in
    subst (λ (b : List ℕ). HasNoHead (take s.scanned b)) all c.self.invariant.2
