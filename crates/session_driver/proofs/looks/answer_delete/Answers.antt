use Rattle.session_history.specs.Marks.{accepted}
use Rattle.http_session.specs.Taken.{with_mark}
use Rattle.session_driver.proofs.Replied.{delete_no_put, awaits_look, behind, behind_phase, said_goes, said_closes, said_fronts}
use Rattle.session_driver.proofs.Sayings.{fed_on, said_to}
use Rattle.session_driver.proofs.looks.answer_delete.Goals as goal

pub returns-clause-goes : goal.returns-clause-goes
returns-clause-goes g c = λ x left left' ended taken fed head h k asks.
    let answers = g.R.Repository.Answers in
    let y = c.args.repository.now in
    let z = c.delete-reply.new.self in
    let s = c.args.session.now in
    let u = c.answer.new.self in
    let w = c.say_and_go_on.new.session in
    let r = c.delete-reply.result in
    let m = g.K.Sink.taken c.args.output.now in
    let v = g.K.Sink.taken c.say_and_go_on.new.output in
    let put = delete_no_put head c.args.key asks in
    let is = c.delete-reply.ensures head asks in
    let took = c.answer.ensures.answered fed (with_mark (accepted head) h.before) h.took (awaits_look answers x y z s u fed head r taken m v h put) in
    said_to answers g.R.Repository.Fails x z u w left left' ended taken m v h.written fed (behind answers x y z s u fed head r taken m v h) head.closes took (behind_phase answers x y z s u fed head r taken m v h put)
    (fed_on s u left left' ended fed c.answer.ensures.kept.ended c.answer.ensures.kept.longer k) h.wrote (said_goes answers x y z s u fed head r taken m v h put took is)
    (λ closes. said_closes answers x y z s u fed head r taken m v h left left' ended w put took k is closes) (said_fronts answers x y z s u fed head r taken m v h left left' ended w put took k is) c.say_and_go_on.result c.say_and_go_on.ensures.said
