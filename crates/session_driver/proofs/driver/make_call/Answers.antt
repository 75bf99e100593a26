use Rattle.std.proofs.Common.{sym, subst}
use Rattle.session_history.specs.declared.ask.Ask.{Ask}
use Rattle.session_driver.specs.Going.{Goes, EndsSo}
use Rattle.session_driver.specs.Standing.{Asked, Leads}
use Rattle.session_driver.proofs.driver.make_call.Goals as goal

pub returns-in-Begin-clause-goes : goal.returns-in-Begin-clause-goes
returns-in-Begin-clause-goes g c = λ x left left' ended taken fed a k.
    let asked = subst (Asked g.R.Repository.Answers g.R.Repository.Uploads x c.args.repository.now c.args.session.now fed taken (g.K.Sink.taken c.args.output.now)) c.in-Begin.is a in
    subst (λ (ask : Ask). Goes (Leads g.R.Repository.Answers g.R.Repository.Uploads x c.begin_upload.new.repository c.begin_upload.new.session taken (g.K.Sink.taken c.begin_upload.new.output) ask)
    (EndsSo g.R.Repository.Answers g.R.Repository.Fails x c.begin_upload.new.repository left left' ended taken (g.K.Sink.taken c.begin_upload.new.output)) c.begin_upload.new.session left left' ended c.begin_upload.result) (sym c.in-Begin.is)
    (c.begin_upload.ensures.goes x left left' ended taken fed asked.0 asked.1 k asked.2)

pub returns-in-Commit-clause-goes : goal.returns-in-Commit-clause-goes
returns-in-Commit-clause-goes g c = λ x left left' ended taken fed a k.
    let asked = subst (Asked g.R.Repository.Answers g.R.Repository.Uploads x c.args.repository.now c.args.session.now fed taken (g.K.Sink.taken c.args.output.now)) c.in-Commit.is a in
    subst (λ (ask : Ask). Goes (Leads g.R.Repository.Answers g.R.Repository.Uploads x c.commit.new.repository c.commit.new.session taken (g.K.Sink.taken c.commit.new.output) ask)
    (EndsSo g.R.Repository.Answers g.R.Repository.Fails x c.commit.new.repository left left' ended taken (g.K.Sink.taken c.commit.new.output)) c.commit.new.session left left' ended c.commit.result) (sym c.in-Commit.is)
    (c.commit.ensures.goes x left left' ended taken fed asked k)

pub returns-in-Abort-clause-goes : goal.returns-in-Abort-clause-goes
returns-in-Abort-clause-goes g c = λ x left left' ended taken fed a k.
    c.abort.ensures.ends x left left' ended taken fed
    (subst (Asked g.R.Repository.Answers g.R.Repository.Uploads x c.args.repository.now c.args.session.now fed taken (g.K.Sink.taken c.args.output.now)) c.in-Abort.is a) k

pub returns-in-Look-clause-goes : goal.returns-in-Look-clause-goes
returns-in-Look-clause-goes g c = λ x left left' ended taken fed a k.
    let asked = subst (Asked g.R.Repository.Answers g.R.Repository.Uploads x c.args.repository.now c.args.session.now fed taken (g.K.Sink.taken c.args.output.now)) c.in-Look.is a in
    subst (λ (ask : Ask). Goes (Leads g.R.Repository.Answers g.R.Repository.Uploads x c.answer_look.new.repository c.answer_look.new.session taken (g.K.Sink.taken c.answer_look.new.output) ask)
    (EndsSo g.R.Repository.Answers g.R.Repository.Fails x c.answer_look.new.repository left left' ended taken (g.K.Sink.taken c.answer_look.new.output)) c.answer_look.new.session left left' ended c.answer_look.result) (sym c.in-Look.is)
    (c.answer_look.ensures.goes x left left' ended taken fed asked.0 asked.1 k asked.2)

pub returns-in-Delete-clause-goes : goal.returns-in-Delete-clause-goes
returns-in-Delete-clause-goes g c = λ x left left' ended taken fed a k.
    let asked = subst (Asked g.R.Repository.Answers g.R.Repository.Uploads x c.args.repository.now c.args.session.now fed taken (g.K.Sink.taken c.args.output.now)) c.in-Delete.is a in
    subst (λ (ask : Ask). Goes (Leads g.R.Repository.Answers g.R.Repository.Uploads x c.answer_delete.new.repository c.answer_delete.new.session taken (g.K.Sink.taken c.answer_delete.new.output) ask)
    (EndsSo g.R.Repository.Answers g.R.Repository.Fails x c.answer_delete.new.repository left left' ended taken (g.K.Sink.taken c.answer_delete.new.output)) c.answer_delete.new.session left left' ended c.answer_delete.result) (sym c.in-Delete.is)
    (c.answer_delete.ensures.goes x left left' ended taken fed asked.0 asked.1 k asked.2)
