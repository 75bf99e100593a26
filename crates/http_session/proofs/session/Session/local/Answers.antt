use Rattle.std.proofs.Common.{◌≡◌, ℕ, [], take, sym, ap, subst, ◌∙◌}
use Rattle.session_history.specs.Marks.{failed, broke}
use Rattle.http_session.specs.declared.place.Place.TheVariants as places
use Rattle.http_session.specs.Views.{SessionView, awaits_at}
use Rattle.http_session.specs.Taken.{Took, with_mark}
use Rattle.http_session.proofs.Replied.{failed_asked, failed_beginning, failed_putting, broke_inside}
use Rattle.http_session.proofs.session.Session.local.Goals as goal

pub returns-in-Asked-clause-failed : goal.returns-in-Asked-clause-failed
returns-in-Asked-clause-failed c fed past took due =
    let s = c.args.self.now in
    let in_place : s.place ≡ places.Asked c.in-Asked.bare c.in-Asked.closes = sym (ap (λ (v : SessionView). v.place) c.self.view_is) ∙ c.in-Asked.is in
    let quiet : s.out ≡ [] = sym (ap (λ (v : SessionView). v.out) c.self.view_is) ∙ ap (λ (n : ℕ). take n c.self.inside.out) (c.self.invariant.5 (ap awaits_at c.in-Asked.is)) in
    subst (λ (v : SessionView). Took v fed (with_mark (failed c.args.why) past)) (sym c.fail.ensures)
    (failed_asked s fed past c.in-Asked.bare c.in-Asked.closes c.args.why in_place quiet took)

pub returns-in-Beginning-clause-failed : goal.returns-in-Beginning-clause-failed
returns-in-Beginning-clause-failed c fed past took due =
    let s = c.args.self.now in
    let in_place : s.place ≡ places.Beginning c.in-Beginning.framing c.in-Beginning.expects c.in-Beginning.closes = sym (ap (λ (v : SessionView). v.place) c.self.view_is) ∙ c.in-Beginning.is in
    let quiet : s.out ≡ [] = sym (ap (λ (v : SessionView). v.out) c.self.view_is) ∙ ap (λ (n : ℕ). take n c.self.inside.out) (c.self.invariant.5 (ap awaits_at c.in-Beginning.is)) in
    subst (λ (v : SessionView). Took v fed (with_mark (failed c.args.why) past)) (sym c.fail-in-Beginning.ensures)
    (failed_beginning s fed past c.in-Beginning.framing c.in-Beginning.expects c.in-Beginning.closes c.args.why in_place quiet took)

pub returns-in-Putting-clause-failed : goal.returns-in-Putting-clause-failed
returns-in-Putting-clause-failed c fed past took due =
    let s = c.args.self.now in
    let in_place : s.place ≡ places.Putting c.in-Putting.closes = sym (ap (λ (v : SessionView). v.place) c.self.view_is) ∙ c.in-Putting.is in
    let quiet : s.out ≡ [] = sym (ap (λ (v : SessionView). v.out) c.self.view_is) ∙ ap (λ (n : ℕ). take n c.self.inside.out) (c.self.invariant.5 (ap awaits_at c.in-Putting.is)) in
    subst (λ (v : SessionView). Took v fed (with_mark (failed c.args.why) past)) (sym c.fail-in-Putting.ensures)
    (failed_putting s fed past c.in-Putting.closes c.args.why in_place quiet took)

pub returns-then-self-eq0-clause-broke : goal.returns-then-self-eq0-clause-broke
returns-then-self-eq0-clause-broke c fed past took due quiet =
    let s = c.args.self.now in
    let in_place : s.place ≡ places.Inside c.in-Inside.body c.in-Inside.closes = sym (ap (λ (v : SessionView). v.place) c.self.view_is) ∙ c.in-Inside.is in
    subst (λ (v : SessionView). Took v fed (with_mark (broke c.args.why) past)) (sym c.fail-then-self-eq0.ensures)
    (broke_inside s fed past c.in-Inside.body c.in-Inside.closes c.args.why in_place quiet took)
