-- The upload that waited is refused for its content.
use Rattle.std.proofs.Common.{sym}
use Rattle.repo_core.specs.Devices.{devices}
use Rattle.repo_session.proofs.CoreCalls.{rests_back}
use Rattle.repo_session.proofs.Replied.{answered, drew, drew_since, kept_upload, kept_view}
use Rattle.repo_session.proofs.Uploads.{upload_refused}
use Rattle.repo_session.proofs.answering.AnsweringWriterReaderRepository.abort.Goals as goal

pub returns-in-Some : goal.returns-in-Some
returns-in-Some g c = λ start head content why put w.
    let b = kept_upload _ _ _ _ _ head content c.in-Some.open.upload w (kept_view _ c.in-Some.open (sym c.in-Some.ensures.value)) in
    answered _ _ _ _ _ c.draw.result (drew_since _ _ _ _ _ _ head content c.draw.result w (drew _ _ c.draw.result c.draw.ensures.value c.draw.ensures.moments c.draw.ensures.next))
    (upload_refused _ _ _ _ head b.store content why c.draw.result put b.begun (rests_back (devices g.D.Disk g.T.Keeper) _ _ _ c.end_upload.ensures.back))
