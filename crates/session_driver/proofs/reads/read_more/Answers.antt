use Rattle.std.proofs.Common.{Ok, subst}
use Rattle.http_session.specs.declared.filled.Filled.{Filled}
use Rattle.http_session.specs.Fills.{Fills}
use Rattle.session_driver.proofs.Readings.{came_goes, ended_goes, long_ends, failed_ends}
use Rattle.session_driver.proofs.reads.read_more.Goals as goal

pub returns-in-Ok-Bytes-clause-goes : goal.returns-in-Ok-Bytes-clause-goes
returns-in-Ok-Bytes-clause-goes g c = λ x left taken taken' fed past k going still stands.
    came_goes g.R.Repository.Answers g.R.Repository.Uploads g.R.Repository.Fails x c.args.repository.now c.args.repository.now c.args.session.now c.fill.new.session fed past left (g.I.Input.left c.args.input.now) (g.I.Input.left c.fill.new.self)
    (g.I.Input.ended c.args.input.now) (g.I.Input.ended c.fill.new.self) taken taken' stands k still going (subst (λ (f : Filled). Fills (g.I.Input.left c.args.input.now) (g.I.Input.left c.fill.new.self) (g.I.Input.ended c.fill.new.self) c.args.session.now c.fill.new.session (Ok f)) c.in-Ok-Bytes.field-0-is c.in-Ok-Bytes.ensures.fills)

pub returns-in-Ok-Ended-clause-goes : goal.returns-in-Ok-Ended-clause-goes
returns-in-Ok-Ended-clause-goes g c = λ x left taken taken' fed past k going still stands.
    ended_goes g.R.Repository.Answers g.R.Repository.Uploads g.R.Repository.Fails x c.args.repository.now c.args.repository.now c.args.session.now c.fill.new.session fed past left (g.I.Input.left c.args.input.now) (g.I.Input.left c.fill.new.self)
    (g.I.Input.ended c.args.input.now) (g.I.Input.ended c.fill.new.self) taken taken' stands k still going (subst (λ (f : Filled). Fills (g.I.Input.left c.args.input.now) (g.I.Input.left c.fill.new.self) (g.I.Input.ended c.fill.new.self) c.args.session.now c.fill.new.session (Ok f)) c.in-Ok-Ended.field-0-is c.in-Ok-Ended.ensures.fills)

pub returns-in-Ok-Longer-clause-goes : goal.returns-in-Ok-Longer-clause-goes
returns-in-Ok-Longer-clause-goes g c = λ x left taken taken' fed past k going still stands.
    long_ends g.R.Repository.Answers g.R.Repository.Uploads g.R.Repository.Fails x c.args.repository.now c.cut_short.new.repository c.args.session.now c.fill.new.session fed past left (g.I.Input.left c.args.input.now)
    (g.I.Input.left c.fill.new.self) (g.I.Input.ended c.args.input.now) (g.I.Input.ended c.fill.new.self) taken taken' stands k still going (subst (λ (f : Filled). Fills (g.I.Input.left c.args.input.now) (g.I.Input.left c.fill.new.self) (g.I.Input.ended c.fill.new.self) c.args.session.now c.fill.new.session (Ok f)) c.in-Ok-Longer.field-0-is c.in-Ok-Longer.ensures.fills) c.cut_short.ensures.elsewhere c.cut_short.ensures.inside

pub returns-in-Err-clause-goes : goal.returns-in-Err-clause-goes
returns-in-Err-clause-goes g c = λ x left taken taken' fed past k going still stands.
    let failed = c.in-Err.ensures.fills in
    failed_ends g.R.Repository.Answers g.R.Repository.Uploads g.R.Repository.Fails x c.args.repository.now c.cut_short-in-Err.new.repository c.args.session.now c.fill.new.session fed past left (g.I.Input.left c.args.input.now)
    (g.I.Input.left c.fill.new.self) (g.I.Input.ended c.args.input.now) (g.I.Input.ended c.fill.new.self) taken taken' stands k still going failed.0 failed.1 c.cut_short-in-Err.ensures.elsewhere c.cut_short-in-Err.ensures.inside
