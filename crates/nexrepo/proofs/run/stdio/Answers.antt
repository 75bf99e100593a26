use Rattle.std.proofs.Common.{inr, refl}
use Rattle.repo_core.specs.Devices.{devices}
use Rattle.nexrepo.proofs.Held.{holds_session, session_stands, nothing_stands}
use Rattle.nexrepo.proofs.run.stdio.Goals as goal

pub returns-in_default-clause-history : goal.returns-in_default-clause-history
returns-in_default-clause-history g c =
    rw c.unopened.ensures (λ settings given fresh. nothing_stands _ c.args.disk c.args.disk c.args.table c.args.table (λ told. refl) refl settings fresh)

pub returns-in-Ok-open-clause-session : goal.returns-in-Ok-open-clause-session
returns-in-Ok-open-clause-session g c =
    inr (holds_session (devices g.D.Disk g.T.Keeper) c.args.moments.now c.args.disk c.args.table
    (g.S.Source.left c.args.input.now) (g.S.Source.left c.session.new.input) (g.S.Source.ended c.session.new.input) (g.K.Sink.taken c.args.output.now) (g.K.Sink.taken c.session.new.output)
    c.session.result c.in-Ok-open.core c.in-Ok-open.ensures.opened (rw c.in-Ok.ensures.0 at c.session.ensures.session))

pub returns-in-Ok-open-clause-history : goal.returns-in-Ok-open-clause-history
returns-in-Ok-open-clause-history g c = λ settings file fresh.
    session_stands (devices g.D.Disk g.T.Keeper) c.args.moments.now c.args.disk c.args.table
    (g.S.Source.left c.args.input.now) (g.S.Source.left c.session.new.input) (g.S.Source.ended c.session.new.input) (g.K.Sink.taken c.args.output.now) (g.K.Sink.taken c.session.new.output)
    c.session.result
    (holds_session (devices g.D.Disk g.T.Keeper) c.args.moments.now c.args.disk c.args.table
    (g.S.Source.left c.args.input.now) (g.S.Source.left c.session.new.input) (g.S.Source.ended c.session.new.input) (g.K.Sink.taken c.args.output.now) (g.K.Sink.taken c.session.new.output)
    c.session.result c.in-Ok-open.core c.in-Ok-open.ensures.opened (rw c.in-Ok.ensures.0 at c.session.ensures.session))
    settings file fresh

pub returns-in-Err-clause-history : goal.returns-in-Err-clause-history
returns-in-Err-clause-history g c =
    let left = c.in-Err.ensures.unopened in
    rw c.unopened-in-Err.ensures (λ settings given fresh. nothing_stands _ c.args.disk c.in-Err.field-0.disk c.args.table c.in-Err.field-0.table left.files left.rows settings fresh)
