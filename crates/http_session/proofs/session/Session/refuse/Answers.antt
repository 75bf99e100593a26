use Rattle.std.proofs.Common.{◌≡◌, ℕ, ◌<◌, true, List, [], length, refl, sym, ap, subst, ◌∙◌, inr}
use Rattle.http_heads.specs.Response.{Why, why, why_head, refused_with}
use Rattle.session_history.specs.Marks.{refused}
use Rattle.http_session.specs.declared.place.Place.TheVariants as places
use Rattle.http_session.specs.declared.step.Step.TheVariants as steps
use Rattle.http_session.specs.Views.{SessionView}
use Rattle.http_session.specs.Taken.{with_mark, Took}
use Rattle.http_session.proofs.Heads.{head_refused}
use Rattle.http_session.proofs.Progress.{steps_on, all_shrinks}
use Rattle.http_session.proofs.Responses.{response_some}
use Rattle.http_session.proofs.session.Session.refuse.Goals as goal

pub returns-clause-gives : goal.returns-clause-gives
returns-clause-gives c fed past took =
    let s = c.args.self.now in
    let bare = c.args.bare in
    let h = head_refused s fed past c.args.refusal bare c.requires.place c.requires.none c.requires.quiet c.requires.still c.requires.head took in
    let words : why c.answer-status.result.0 c.new.result ≡ why_head c.args.refusal = ap (λ (w : List ℕ). why c.answer-status.result.0 w) c.new.ensures ∙ c.answer-status.ensures.why in
    let is : c.end_with.new.self ≡ record s { held = []; place = places.Over; out = refused_with bare true (why_head c.args.refusal) } =
    c.end_with.ensures ∙ ap (λ (w : Why). record s { held = []; place = places.Over; out = refused_with bare true w }) words in (
      subst (λ (v : SessionView). 0 < length v.out) (sym is) (response_some bare true (why_head c.args.refusal)),
      inr (c.args.refusal, bare, h.0, subst (λ (v : SessionView). Took v fed (with_mark (refused c.args.refusal bare) past)) (sym is) h.1),
    )

pub returns-clause-progresses : goal.returns-clause-progresses
returns-clause-progresses c =
    let s = c.args.self.now in
    steps_on s c.end_with.new.self steps.Say refl (all_shrinks s c.end_with.new.self (refused_with c.args.bare true (why c.answer-status.result.0 c.new.result)) places.Over c.end_with.ensures)
