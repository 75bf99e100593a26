use Rattle.std.proofs.Common.{◌≡◌, refl, ◌∙◌, ap, arith}
use Rattle.http_front.specs.Turns.{entries_of}
use Rattle.repo_core.specs.Devices.{devices}
use Rattle.repo_session.specs.Drawing.{HasDrawn}
use Rattle.repo_session.specs.Serving.{HasTurns, HasTurnsPast}
use Rattle.repo_session.specs.Turned.{DownloadFails}
use Rattle.nexrepo.specs.Ends.{status_of}
use Rattle.nexrepo.proofs.SomeMade.{some_made}
use Rattle.nexrepo.proofs.Causes.{status_cause}
use Rattle.nexrepo.proofs.run.session.Goals as goal

pub returns-clause-session : goal.returns-clause-session
returns-clause-session g c =
    let drawn : HasDrawn c.args.draws c.args.draws.moments.items 0 = record { all = refl; next = omega (arith, c.requires.first) } in
    let held = c.serve-end.ensures.session c.args.draws.moments.items drawn in
    let status : c.status_of-status.result ≡ status_of c.serve-end.result.0 c.serve-end.result.1.broken = c.status_of-status.ensures ∙ ap (status_of c.serve-end.result.0) c.broken.ensures in
    record {
      new = c.serve-end.result.1;
      end = c.serve-end.result.0;
      over = held.0;
      leaves = λ i. record { status = status i; disk = (c.close-closed.ensures i).disk; table = (c.close-closed.ensures i).table; journal = (c.close-closed.ensures i).journal };
      ends = held.1;
    }

pub returns-clause-cause : goal.returns-clause-cause
returns-clause-cause g c =
    let drawn : HasDrawn c.args.draws c.args.draws.moments.items 0 = record { all = refl; next = omega (arith, c.requires.first) } in
    let held = c.serve-end.ensures.session c.args.draws.moments.items drawn in
    let status : c.status_of-status.result ≡ status_of c.serve-end.result.0 c.serve-end.result.1.broken = c.status_of-status.ensures ∙ ap (status_of c.serve-end.result.0) c.broken.ensures in
    let both = devices g.D.Disk g.T.Keeper in
    let some = some_made (HasTurns both c.args.core c.serve-end.result.1 held.0 c.args.draws.moments.items) (HasTurnsPast both c.args.core c.args.draws.moments.items)
    (DownloadFails both c.args.core c.serve-end.result.1) held.0 c.serve-end.result.0 _ _ _ _ _ held.1 in
    let cause = status_cause both c.args.core c.serve-end.result.1 (entries_of some.2.0) c.requires.sound some.2.2.since _ _ _ _ c.serve-end.result.0 c.serve-end.ensures.cause in
    rw (c.close-closed.ensures, status) cause
