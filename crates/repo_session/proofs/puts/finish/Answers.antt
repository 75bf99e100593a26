-- The upload was put, or that was refused; or it couldn't be sealed.
use Rattle.std.proofs.Common.{Ok, Err, refl}
use Rattle.repo_model.specs.declared.reply.Reply.TheVariants as reply
use Rattle.http_requests.specs.Requests.{whole}
use Rattle.repo_core.specs.Devices.{devices}
use Rattle.repo_session.proofs.CoreCalls.{asked_put, rests_back}
use Rattle.repo_session.proofs.PutsSaid.{turned_put}
use Rattle.repo_session.proofs.Puttings.{sealed_put}
use Rattle.repo_session.proofs.Replied.{failed_counts}
use Rattle.repo_session.proofs.puts.finish.Goals as goal

pub returns-in-Err-clause-put : goal.returns-in-Err-clause-put
returns-in-Err-clause-put g c = λ start head content put begun.
    c.stop_upload.ensures.stopped start head begun.store c.args.moment put begun.begun (failed_counts c.in-Err.why _ _ c.in-Err.ensures.cause.failed) (whole head content) refl

pub returns-in-Ok-commit_put-clause-put : goal.returns-in-Ok-commit_put-clause-put
returns-in-Ok-commit_put-clause-put g c = λ start head content put begun.
    let asset = c.in-Ok-commit_put.asset in
    turned_put _ start c.commit_put.new.self c.args.moment head content (Ok tt) (reply.Stored asset) put (asset, refl)
    (sealed_put _ _ _ _ start c.args.core.now c.end_upload.new.self c.commit_put.new.self c.args.moment head content c.args.opened.upload c.in-Ok.ready _ _ put begun c.in-Ok.ensures.target c.in-Ok.ensures.ready g.met.D.Disk.writers_tell (rests_back (devices g.D.Disk g.T.Keeper) _ _ _ c.end_upload.ensures.back)
    (asked_put (devices g.D.Disk g.T.Keeper) g.D.Writer.Writer.content c.end_upload.new.self c.commit_put.new.self c.in-Ok.ready c.args.moment (Ok asset) c.in-Ok-commit_put.ensures.called c.in-Ok-commit_put.ensures.survives c.in-Ok-commit_put.ensures.made) (asset, refl))

pub returns-in-Err-commit_put-clause-put : goal.returns-in-Err-commit_put-clause-put
returns-in-Err-commit_put-clause-put g c = λ start head content put begun.
    let why = c.in-Err-commit_put.refusal in
    turned_put _ start c.commit_put.new.self c.args.moment head content (Err why) (reply.Refused why) put refl
    (sealed_put _ _ _ _ start c.args.core.now c.end_upload.new.self c.commit_put.new.self c.args.moment head content c.args.opened.upload c.in-Ok.ready _ _ put begun c.in-Ok.ensures.target c.in-Ok.ensures.ready g.met.D.Disk.writers_tell (rests_back (devices g.D.Disk g.T.Keeper) _ _ _ c.end_upload.ensures.back)
    (asked_put (devices g.D.Disk g.T.Keeper) g.D.Writer.Writer.content c.end_upload.new.self c.commit_put.new.self c.in-Ok.ready c.args.moment (Err why) c.in-Err-commit_put.ensures.called c.in-Err-commit_put.ensures.survives c.in-Err-commit_put.ensures.made) refl)
