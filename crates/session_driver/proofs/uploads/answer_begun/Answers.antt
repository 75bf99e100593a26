use Rattle.std.proofs.Common.{refl, sym, ap, subst, ◌∙◌}
use Rattle.session_history.specs.Marks.{accepted, replied}
use Rattle.http_session.specs.Views.{SessionView}
use Rattle.http_session.specs.Taken.{with_mark, Took}
use Rattle.session_driver.proofs.Begins.{replied_goes, replied_ends, inside_phase}
use Rattle.session_driver.proofs.uploads.answer_begun.Goals as goal

pub returns-in-None-clause-goes : goal.returns-in-None-clause-goes
returns-in-None-clause-goes g c = λ x left left' ended taken fed h k.
    replied_goes g.R.Repository.Answers g.R.Repository.Uploads g.R.Repository.Fails x c.args.repository.now c.args.repository.now c.args.session.now c.say_and_go_on.new.session fed left left' ended taken (g.K.Sink.taken c.args.output.now)
    (g.K.Sink.taken c.say_and_go_on.new.output) h k c.in-None.ensures.said

pub returns-in-Some-clause-goes : goal.returns-in-Some-clause-goes
returns-in-Some-clause-goes g c = λ x left left' ended taken fed h k.
    let u = c.say_and_go_on.new.session in
    let past = with_mark (replied h.reply) (with_mark (accepted h.head) h.before) in
    replied_ends g.R.Repository.Answers g.R.Repository.Uploads g.R.Repository.Fails x c.args.repository.now c.give_up.new.repository c.args.session.now u fed left left' ended taken (g.K.Sink.taken c.args.output.now)
    (g.K.Sink.taken c.say_and_go_on.new.output) h k c.in-Some.end c.in-Some.ensures.said c.give_up.ensures.elsewhere
    (λ begun same.
    let took : Took u fed past = subst (λ (v : SessionView). Took v fed past) (sym same) h.took in
    let phase = inside_phase g.R.Repository.Answers g.R.Repository.Uploads g.R.Repository.Fails x c.args.repository.now c.args.repository.now c.args.session.now u fed left left' ended taken (g.K.Sink.taken c.args.output.now)
    (g.K.Sink.taken c.say_and_go_on.new.output) h k begun in
    c.give_up.ensures.inside fed past h.head h.start took phase refl (ap (λ (v : SessionView). v.borrowed) same ∙ h.borrowed) h.put (h.became.0 begun))
