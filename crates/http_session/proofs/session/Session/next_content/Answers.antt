use Rattle.std.proofs.Common.{◌≡◌, ◌<◌, ◌≤◌, ℕ, true, false, List, ◌++◌, length, take, Some, refl, sym, ap, subst, ◌∙◌, arith}
use Rattle.std.proofs.lemmas.List.{length-take-le}
use Rattle.http_heads.specs.Response.{refused_with, why_body}
use Rattle.http_chunks.specs.Reading as readings
use Rattle.http_requests.specs.Bodies.{HoldsBody}
use Rattle.http_requests.specs.Requests.{stop_of}
use Rattle.session_history.specs.declared.ask.Ask.TheVariants as asks
use Rattle.session_history.specs.Marks.{content, spoiled}
use Rattle.session_history.specs.Phases.{Phase}
use Rattle.session_history.specs.Asking.{ask_at}
use Rattle.http_session.specs.declared.place.Place.TheVariants as places
use Rattle.http_session.specs.declared.step.Step.{Step}
use Rattle.http_session.specs.declared.step.Step.TheVariants as steps
use Rattle.http_session.specs.Bodies.{IsReading}
use Rattle.http_session.specs.Views.{SessionView}
use Rattle.http_session.specs.Taken.{with_mark, Took, reads, is_inside}
use Rattle.http_session.specs.Steps.{IsStill, Gives, Progresses, wait_step}
use Rattle.http_session.proofs.Parts.{in_content, framing_taken, content_borrowed, content_whole, content_spoiled, content_waits}
use Rattle.http_session.proofs.Progress.{along, changed, steps_on, waits_without_head, prefix_shrinks, borrowed_shrinks, all_shrinks}
use Rattle.http_session.proofs.Waits.{waits_for_content}
use Rattle.http_session.proofs.session.Session.next_content.Goals as goal

pub pieces-preserved : goal.pieces-preserved
pieces-preserved c =
    let s = c.pieces.self in
    let inv = c.pieces.invariant in
    let n = c.in-Framing.length in
    let new = c.next.new.self in
    let is = c.take_framing.ensures in
    record {
      took = λ fed past t. subst (λ (v : SessionView). Took v fed past) (sym is)
          (framing_taken s fed past c.pieces.body new c.args.closes n inv.place inv.none
          (λ framing part came r. subst (λ (h : List ℕ). IsReading framing new (part ++ take n h) came) c.held.ensures.held (c.in-Framing.ensures.reads framing part came r))
          (inv.took fed past t));
      none = ap (λ (v : SessionView). v.borrowed) is ∙ inv.none;
      quiet = ap (λ (v : SessionView). v.out) is ∙ inv.quiet;
      place = ap (λ (v : SessionView). v.place) is;
      shrinks = along c.args.self.now s c.take_framing.new.self inv.shrinks (prefix_shrinks s c.take_framing.new.self n (places.Inside new c.args.closes) is);
    }

pub returns-in-Content-clause-gives : goal.returns-in-Content-clause-gives
returns-in-Content-clause-gives c fed past took =
    let s = c.pieces.self in
    let inv = c.pieces.invariant in
    let n = c.in-Content.length in
    let new = c.next.new.self in
    let t = inv.took fed past took in
    let x = in_content s fed past c.pieces.body c.args.closes inv.place inv.none t in
    let within = c.in-Content.ensures.within in
    let few : length (take n s.held) ≡ n = length-take-le n s.held (omega (arith, within.1, ap length c.held.ensures.held)) in
    let borrowed : Took c.lend_content.new.self fed past =
    subst (λ (v : SessionView). Took v fed past) (sym c.lend_content.ensures.new)
    (content_borrowed s fed past c.pieces.body new c.args.closes n inv.place inv.none
    (λ framing part came r. subst (λ (h : List ℕ). IsReading framing new (part ++ take n h) (came ++ take n h)) c.held.ensures.held (c.in-Content.ensures.reads framing part came r)) t) in
    subst (λ (g : Step). Gives fed past c.lend_content.new.self g) (sym c.lend_content.ensures.step)
    (borrowed, ap is_inside x.phase, within.0, sym few ∙ sym (ap (λ (v : SessionView). length v.borrowed) c.lend_content.ensures.new), ap (λ (v : SessionView). v.out) c.lend_content.ensures.new ∙ inv.quiet)

pub returns-in-Whole-clause-gives : goal.returns-in-Whole-clause-gives
returns-in-Whole-clause-gives c fed past took =
    let s = c.pieces.self in
    let inv = c.pieces.invariant in
    let h = content_whole s fed past c.pieces.body c.args.closes inv.place inv.none inv.quiet (λ framing part came r more. c.in-Whole.ensures.reads framing part came r more) (inv.took fed past took) in
    record {
      mark = content past.came;
      asked = subst (λ (p : Phase). ask_at p (content past.came) ≡ Some asks.Commit) (sym h.1) refl;
      borrowed = refl;
      took = subst (λ (v : SessionView). Took v fed (with_mark (content past.came) past)) (sym c.stand_at.ensures) h.2;
    }

pub returns-in-Bad-clause-gives : goal.returns-in-Bad-clause-gives
returns-in-Bad-clause-gives c fed past took =
    let s = c.pieces.self in
    let inv = c.pieces.invariant in
    let why = c.in-Bad.refusal in
    let h = content_spoiled s fed past c.pieces.body c.args.closes why inv.place inv.none inv.quiet
    (λ framing part came r more. subst (λ (l : List ℕ). HoldsBody framing ((part ++ l) ++ more) (stop_of came why)) c.held.ensures.held (c.in-Bad.ensures.reads framing part came r more))
    (inv.took fed past took) in
    subst (λ (g : Step). Gives fed past c.spoil.new.self g) (sym c.spoil.ensures.step)
    (record {
      mark = spoiled past.came why;
      asked = subst (λ (p : Phase). ask_at p (spoiled past.came why) ≡ Some asks.Abort) (sym h.1) refl;
      borrowed = refl;
      took = subst (λ (v : SessionView). Took v fed (with_mark (spoiled past.came why) past)) (sym c.spoil.ensures.new) h.2;
    })

pub returns-in-Need-clause-gives : goal.returns-in-Need-clause-gives
returns-in-Need-clause-gives c fed past took =
    let s = c.pieces.self in
    let inv = c.pieces.invariant in
    let t = inv.took fed past took in
    let w = content_waits s fed past c.pieces.body c.args.closes inv.place inv.none
    (λ framing part came r. subst (λ (l : List ℕ). HoldsBody framing (part ++ l) (readings.cut came)) c.held.ensures.held (c.in-Need.ensures.reads framing part came r).1) t in
    let x = in_content s fed past c.pieces.body c.args.closes inv.place inv.none t in
    let few : length s.held < 32768 = subst (λ (l : List ℕ). length l < 32768) c.held.ensures.held (c.in-Need.ensures.reads x.head.framing t.part past.came x.reading).2 in
    let still : IsStill fed past s = record { took = t; history = w.2; reads = subst (λ (p : Phase). reads p ≡ true) (sym w.1) refl; quiet = inv.quiet; taken = inv.none } in
    subst (λ (g : Step). Gives fed past s g) (sym c.wait.ensures) (waits_for_content s fed past still (subst (λ (p : Phase). is_inside p ≡ true) (sym w.1) refl) few)

pub returns-in-Content-clause-progresses : goal.returns-in-Content-clause-progresses
returns-in-Content-clause-progresses c =
    let s = c.pieces.self in
    let old = c.args.self.now in
    let n = c.in-Content.length in
    let new = c.lend_content.new.self in
    let le : n ≤ length s.held = omega (arith, c.in-Content.ensures.within.1, ap length c.held.ensures.held) in
    subst (λ (g : Step). Progresses old new g) (sym c.lend_content.ensures.step)
    (steps_on old new (steps.Body n) refl (along old s new c.pieces.invariant.shrinks (borrowed_shrinks s new n (places.Inside c.next.new.self c.args.closes) le c.lend_content.ensures.new)))

pub returns-in-Whole-clause-progresses : goal.returns-in-Whole-clause-progresses
returns-in-Whole-clause-progresses c =
    let s = c.pieces.self in
    let old = c.args.self.now in
    let new = c.stand_at.new.self in
    steps_on old new (steps.Ask asks.Commit) refl
    (along old s new c.pieces.invariant.shrinks (changed s new s.borrowed s.held s.out (places.Putting c.args.closes) c.stand_at.ensures (omega arith)))

pub returns-in-Bad-clause-progresses : goal.returns-in-Bad-clause-progresses
returns-in-Bad-clause-progresses c =
    let s = c.pieces.self in
    let old = c.args.self.now in
    let new = c.spoil.new.self in
    subst (λ (g : Step). Progresses old new g) (sym c.spoil.ensures.step)
    (steps_on old new (steps.Ask asks.Abort) refl
    (along old s new c.pieces.invariant.shrinks (all_shrinks s new (refused_with false true (why_body c.in-Bad.refusal)) places.Over c.spoil.ensures.new)))

pub returns-in-Need-clause-progresses : goal.returns-in-Need-clause-progresses
returns-in-Need-clause-progresses c =
    let s = c.pieces.self in
    let old = c.args.self.now in
    subst (λ (g : Step). Progresses old s g) (sym c.wait.ensures)
    (steps_on old s (wait_step s.longer s.ended true) (waits_without_head s.longer s.ended true) c.pieces.invariant.shrinks)
