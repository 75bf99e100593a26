use Rattle.session_driver.proofs.Uploading.{spoiled_ends}
use Rattle.session_driver.proofs.uploads.abort.Goals as goal

pub returns-clause-ends : goal.returns-clause-ends
returns-clause-ends g c = λ x left left' ended taken fed h k.
    spoiled_ends g.R.Repository.Answers g.R.Repository.Uploads g.R.Repository.Fails x c.args.repository.now c.abort.new.self c.args.session.now c.say_last.new.session fed left left' ended taken (g.K.Sink.taken c.args.output.now)
    (g.K.Sink.taken c.say_last.new.output) h k (c.abort.ensures h.uploading.start h.head h.past.came h.why h.uploading.put h.uploading.uploads) c.say_last.result c.say_last.ensures.said
