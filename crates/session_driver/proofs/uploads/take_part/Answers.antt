use Rattle.std.proofs.Common.{ℕ, List, ◌++◌, ap, subst}
use Rattle.http_session.specs.Taken.{is_inside}
use Rattle.session_driver.proofs.Places.{uploading_phase}
use Rattle.session_driver.proofs.Uploading.{part_goes, broke_ends}
use Rattle.session_driver.proofs.uploads.take_part.Goals as goal

pub returns-in-Ok-clause-goes : goal.returns-in-Ok-clause-goes
returns-in-Ok-clause-goes g c = λ x left left' ended taken fed inside k.
    let past = inside.0 in
    let i = inside.1 in
    let up = i.uploading in
    part_goes g.R.Repository.Answers g.R.Repository.Uploads g.R.Repository.Fails x c.args.repository.now c.take.new.self c.args.session.now c.body_taken.new.self fed past left left' ended taken (g.K.Sink.taken c.args.output.now) i k
    c.body_taken.ensures.new (c.body_taken.ensures.taken fed past i.took)
    (subst (λ (l : List ℕ). g.R.Repository.Uploads up.start c.take.new.self i.head (past.came ++ l)) c.body.ensures (c.in-Ok.ensures up.start i.head past.came up.put up.uploads))

pub returns-in-Err-clause-goes : goal.returns-in-Err-clause-goes
returns-in-Err-clause-goes g c = λ x left left' ended taken fed inside k.
    let past = inside.0 in
    let i = inside.1 in
    let up = i.uploading in
    broke_ends g.R.Repository.Answers g.R.Repository.Uploads g.R.Repository.Fails x c.args.repository.now c.take.new.self c.args.session.now c.local.new.self c.say_last.new.session fed past c.in-Err.why left left' ended taken (g.K.Sink.taken c.args.output.now)
    (g.K.Sink.taken c.say_last.new.output) i k (c.local.ensures.broke fed past i.took (ap is_inside (uploading_phase up)) i.quiet) (c.in-Err.ensures up.start i.head past.came up.put up.uploads) c.say_last.result c.say_last.ensures.said
