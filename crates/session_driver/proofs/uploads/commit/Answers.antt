use Rattle.http_session.specs.Taken.{with_mark}
use Rattle.session_history.specs.Marks.{content}
use Rattle.session_driver.proofs.Uploading.{awaits_put, put_goes, put_failed}
use Rattle.session_driver.proofs.uploads.commit.Goals as goal

pub returns-in-Ok-clause-goes : goal.returns-in-Ok-clause-goes
returns-in-Ok-clause-goes g c = λ x left left' ended taken fed h k.
    let up = h.uploading in
    let due = awaits_put g.R.Repository.Answers g.R.Repository.Uploads g.R.Repository.Fails x c.args.repository.now c.commit.new.self c.args.session.now fed left left' ended taken (g.K.Sink.taken c.args.output.now) (g.K.Sink.taken c.say_and_go_on.new.output) h k in
    put_goes g.R.Repository.Answers g.R.Repository.Uploads g.R.Repository.Fails x c.args.repository.now c.commit.new.self c.args.session.now fed left left' ended taken (g.K.Sink.taken c.args.output.now) (g.K.Sink.taken c.say_and_go_on.new.output) h k
    c.answer.new.self c.say_and_go_on.new.session c.in-Ok.reply c.answer.ensures.kept.ended c.answer.ensures.kept.longer
    (c.answer.ensures.answered fed (with_mark (content h.past.came) h.past) h.took due) (c.in-Ok.ensures up.start h.head h.past.came up.put up.uploads) c.say_and_go_on.result c.say_and_go_on.ensures.said

pub returns-in-Err-clause-goes : goal.returns-in-Err-clause-goes
returns-in-Err-clause-goes g c = λ x left left' ended taken fed h k.
    let up = h.uploading in
    let due = awaits_put g.R.Repository.Answers g.R.Repository.Uploads g.R.Repository.Fails x c.args.repository.now c.commit.new.self c.args.session.now fed left left' ended taken (g.K.Sink.taken c.args.output.now) (g.K.Sink.taken c.say_last.new.output) h k in
    put_failed g.R.Repository.Answers g.R.Repository.Uploads g.R.Repository.Fails x c.args.repository.now c.commit.new.self c.args.session.now fed left left' ended taken (g.K.Sink.taken c.args.output.now) (g.K.Sink.taken c.say_last.new.output) h k
    c.local.new.self c.say_last.new.session c.in-Err.why
    (c.local.ensures.failed fed (with_mark (content h.past.came) h.past) h.took due) (c.in-Err.ensures up.start h.head h.past.came up.put up.uploads) c.say_last.result c.say_last.ensures.said
