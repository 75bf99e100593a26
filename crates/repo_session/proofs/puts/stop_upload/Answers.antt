use Rattle.repo_core.specs.Devices.{devices}
use Rattle.repo_session.proofs.CoreCalls.{rests_back}
use Rattle.repo_session.proofs.Uploads.{upload_failed}
use Rattle.repo_session.proofs.puts.stop_upload.Goals as goal

pub returns-clause-stopped : goal.returns-clause-stopped
returns-clause-stopped g c = λ start head store moment put begun faulty.
    upload_failed _ start _ _ head store _ _ moment _ put begun (rests_back (devices g.D.Disk g.T.Keeper) _ _ _ c.end_upload.ensures.back) faulty c.end_upload.ensures.back.cause c.failure.ensures
