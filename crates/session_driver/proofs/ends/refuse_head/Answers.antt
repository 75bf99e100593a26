use Rattle.session_driver.proofs.Inputs.{refused_ends}
use Rattle.session_driver.proofs.ends.refuse_head.Goals as goal

pub returns-clause-ends : goal.returns-clause-ends
returns-clause-ends g c = λ x left left' ended taken fed h k.
    refused_ends g.R.Repository.Answers g.R.Repository.Fails x c.args.repository.now c.refused.new.self c.args.session.now c.say_last.new.session fed left left' ended taken (g.K.Sink.taken c.args.output.now) (g.K.Sink.taken c.say_last.new.output) h k
    (c.refused.ensures h.why h.bare) c.say_last.result c.say_last.ensures.said
