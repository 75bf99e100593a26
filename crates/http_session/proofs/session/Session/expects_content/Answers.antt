use Rattle.std.proofs.Common.{◌≡◌, ℕ, List, [], ◌++◌, sym, ap, subst, ◌∙◌}
use Rattle.http_heads.specs.declared.head.Head.{Head}
use Rattle.session_history.specs.Phases.{Phase, inside}
use Rattle.http_session.specs.declared.body.Body.{Body}
use Rattle.http_session.specs.declared.place.Place.TheVariants as places
use Rattle.http_session.specs.Bodies.{IsReading}
use Rattle.http_session.specs.Views.{SessionView}
use Rattle.http_session.specs.Taken.{Past, StandsAt, phase_of, Took}
use Rattle.http_session.proofs.session.Session.expects_content.Goals as goal

-- it stands in the content
stands_inside : (s : SessionView) (fed : List ℕ) (past : Past) (head : Head) → phase_of past ≡ inside head → (t : Took s fed past)
    → (body : Body) × (s.place ≡ places.Inside body head.closes) × IsReading head.framing body (t.part ++ s.borrowed) (past.came ++ s.borrowed)
stands_inside s fed past head phase t = subst (λ (p : Phase). StandsAt p s.place (t.part ++ s.borrowed) (past.came ++ s.borrowed)) phase t.stands

-- of which nothing came
nothing_came : (came borrowed : List ℕ) → came ≡ [] → borrowed ≡ [] → came ++ borrowed ≡ []
nothing_came came borrowed e f = ap (λ (l : List ℕ). l ++ borrowed) e ∙ f

pub returns-in-Inside : goal.returns-in-Inside
returns-in-Inside c fed past head took phase came borrowed =
    let s = c.args.self.now in
    let x = stands_inside s fed past head phase took in
    let is : places.Inside x.0 head.closes ≡ places.Inside c.in-Inside.body c.in-Inside.closes = sym x.1 ∙ sym (ap (λ (v : SessionView). v.place) c.self.view_is) ∙ c.in-Inside.is in
    let same : x.0 ≡ c.in-Inside.body = cc in
    c.expects.ensures head.framing (took.part ++ s.borrowed)
    (subst (λ (b : Body). IsReading head.framing b (took.part ++ s.borrowed) []) same
    (subst (λ (l : List ℕ). IsReading head.framing x.0 (took.part ++ s.borrowed) l) (nothing_came past.came s.borrowed came borrowed) x.2))

pub returns-in_default : goal.returns-in_default
returns-in_default c fed past head took phase came borrowed =
    let s = c.args.self.now in
    let x = stands_inside s fed past head phase took in
    absurd (c.in_default.not-Inside x.0 head.closes (ap (λ (v : SessionView). v.place) c.self.view_is ∙ x.1))
