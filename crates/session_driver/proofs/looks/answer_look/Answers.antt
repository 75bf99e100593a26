use Rattle.std.proofs.Common.{refl, sym, subst, ◌∙◌}
use Rattle.std.specs.declared.option.Option.{Option}
use Rattle.http_front.specs.declared.end.End.{End}
use Rattle.session_history.specs.Marks.{accepted}
use Rattle.http_session.specs.Taken.{with_mark}
use Rattle.session_driver.specs.Going.{Goes, EndsSo}
use Rattle.session_driver.specs.Standing.{StandsBetween}
use Rattle.session_driver.proofs.Replied.{look_no_put, awaits_look, behind, look_out, look_sent, look_unsent}
use Rattle.session_driver.proofs.Sayings.{fed_on}
use Rattle.session_driver.proofs.looks.answer_look.Goals as goal

pub returns-in-Ok-clause-goes : goal.returns-in-Ok-clause-goes
returns-in-Ok-clause-goes g c = λ x left left' ended taken fed head h k asks.
    let answers = g.R.Repository.Answers in
    let y = c.args.repository.now in
    let z = c.send.new.self in
    let s = c.args.session.now in
    let u = c.answer.new.self in
    let w = c.said.new.self in
    let r = c.look-reply.result in
    let m = g.K.Sink.taken c.args.output.now in
    let v = g.K.Sink.taken c.send.new.output in
    let put = look_no_put head c.args.key c.args.look asks in
    let took = c.answer.ensures.answered fed (with_mark (accepted head) h.before) h.took (awaits_look answers x y z s u fed head r taken m v h put) in
    let sent = c.in-Ok.ensures.said y head r (c.look-reply.ensures head asks) (c.out.ensures ∙ look_out answers x y z s u fed head r taken m v h put took) in
    let past = behind answers x y z s u fed head r taken m v h in
    subst (λ (o : Option End). Goes (StandsBetween answers x z w taken v) (EndsSo answers g.R.Repository.Fails x z left left' ended taken v) w left left' ended o) (sym c.end_if_over.ensures)
    (look_sent answers x y z s u fed head r taken m v h left left' ended g.R.Repository.Fails w _ sent.0 head.closes refl put took (fed_on s u left left' ended fed c.answer.ensures.kept.ended c.answer.ensures.kept.longer k) k c.said.ensures.new
    (c.said.ensures.taken fed past took) sent.1 sent.2)

pub returns-clause-goes : goal.returns-clause-goes
returns-clause-goes g c = λ x left left' ended taken fed head h k asks.
    let answers = g.R.Repository.Answers in
    let y = c.args.repository.now in
    let z = c.send.new.self in
    let s = c.args.session.now in
    let u = c.answer.new.self in
    let r = c.look-reply.result in
    let m = g.K.Sink.taken c.args.output.now in
    let v = g.K.Sink.taken c.send.new.output in
    let put = look_no_put head c.args.key c.args.look asks in
    let took = c.answer.ensures.answered fed (with_mark (accepted head) h.before) h.took (awaits_look answers x y z s u fed head r taken m v h put) in
    let sent = c.in-Err.ensures.said y head r (c.look-reply.ensures head asks) (c.out.ensures ∙ look_out answers x y z s u fed head r taken m v h put took) in
    subst (EndsSo answers g.R.Repository.Fails x z left left' ended taken v) (sym c.end_of.ensures)
    (look_unsent answers x y z s u fed head r taken m v h left left' ended g.R.Repository.Fails c.in-Err.unsaid put took k sent)
