use Rattle.std.proofs.Common.{◌≡◌, ℕ, drop, Some, sym, ap, subst, ◌∙◌}
use Rattle.session_history.specs.Marks.{accepted}
use Rattle.session_history.specs.Phases.{Phase}
use Rattle.session_history.specs.Asking.{ask_at}
use Rattle.http_session.specs.declared.place.Place.{Place}
use Rattle.http_session.specs.declared.step.Step.TheVariants as steps
use Rattle.http_session.specs.Views.{SessionView, place_of}
use Rattle.http_session.specs.Taken.{with_mark, Took}
use Rattle.http_session.proofs.Heads.{head_taken}
use Rattle.http_session.proofs.Progress.{head_progresses}
use Rattle.http_session.proofs.session.Session.ask.Goals as goal

-- the head was taken
taken : (s mid new : SessionView) (n : ℕ) (at to : Place) → mid ≡ record s { held = drop n s.held } → at ≡ to → new ≡ record mid { place = at } → new ≡ record s { held = drop n s.held; place = to }
taken s mid new n at to e f g =
    g ∙ ap (λ (v : SessionView). record v { place = at }) e ∙ ap (λ (p : Place). record s { held = drop n s.held; place = p }) f

pub returns-clause-gives : goal.returns-clause-gives
returns-clause-gives c fed past took =
    let s = c.args.self.now in
    let head = c.args.head in
    let n = c.args.length in
    let h = head_taken s fed past head n c.requires.place c.requires.none c.requires.quiet c.requires.still c.requires.head took in
    let is : c.stand_at.new.self ≡ record s { held = drop n s.held; place = place_of head head.method } =
    taken s c.take.new.self c.stand_at.new.self n c.of-place.result (place_of head head.method) c.take.ensures c.of-place.ensures c.stand_at.ensures in
    record {
      mark = accepted head;
      asked = subst (λ (p : Phase). ask_at p (accepted head) ≡ Some c.ask_of.result) (sym h.0) (ap Some (sym c.ask_of.ensures));
      borrowed = h.1;
      took = subst (λ (v : SessionView). Took v fed (with_mark (accepted head) past)) (sym is) h.2;
    }

pub returns-clause-progresses : goal.returns-clause-progresses
returns-clause-progresses c =
    let s = c.args.self.now in
    let head = c.args.head in
    let n = c.args.length in
    let is = taken s c.take.new.self c.stand_at.new.self n c.of-place.result (place_of head head.method) c.take.ensures c.of-place.ensures c.stand_at.ensures in
    head_progresses s c.stand_at.new.self (steps.Ask c.ask_of.result) n (place_of head head.method) c.requires.head.0 c.requires.head.1 is
