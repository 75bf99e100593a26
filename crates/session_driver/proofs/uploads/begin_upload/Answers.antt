use Rattle.session_history.specs.Marks.{accepted}
use Rattle.http_session.specs.Taken.{with_mark}
use Rattle.session_driver.proofs.Begins.{begin_put, awaits_begin, is_replied, begin_failed}
use Rattle.session_driver.proofs.Sayings.{fed_on}
use Rattle.session_driver.proofs.uploads.begin_upload.Goals as goal

pub returns-in-Ok-clause-goes : goal.returns-in-Ok-clause-goes
returns-in-Ok-clause-goes g c = λ x left left' ended taken fed head h k asks.
    let is = begin_put head c.args.begin asks in
    let due = awaits_begin h.before head h.answered.phase is.0 in
    let took = c.answer.ensures.answered fed (with_mark (accepted head) h.before) h.took due in
    let none = c.answer.ensures.none_borrowed fed (with_mark (accepted head) h.before) h.took due in
    c.answer_begun.ensures.goes x left left' ended taken fed
    (is_replied g.R.Repository.Answers g.R.Repository.Uploads g.R.Repository.Fails x c.args.repository.now c.begin.new.self c.args.session.now c.answer.new.self fed head c.in-Ok.reply taken (g.K.Sink.taken c.args.output.now) h is.0 took none
    (c.in-Ok.ensures head is.1 is.0))
    (fed_on c.args.session.now c.answer.new.self left left' ended fed c.answer.ensures.kept.ended c.answer.ensures.kept.longer k)

pub returns-in-Err-clause-goes : goal.returns-in-Err-clause-goes
returns-in-Err-clause-goes g c = λ x left left' ended taken fed head h k asks.
    let is = begin_put head c.args.begin asks in
    let due = awaits_begin h.before head h.answered.phase is.0 in
    begin_failed g.R.Repository.Answers g.R.Repository.Uploads g.R.Repository.Fails x c.args.repository.now c.begin.new.self c.args.session.now c.local.new.self c.say_last.new.session fed head c.in-Err.why left left' ended taken
    (g.K.Sink.taken c.args.output.now) (g.K.Sink.taken c.say_last.new.output) h k is.0 (c.local.ensures.failed fed (with_mark (accepted head) h.before) h.took due) (c.in-Err.ensures head is.1 is.0) c.say_last.result c.say_last.ensures.said
