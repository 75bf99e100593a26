use Rattle.repo_session.proofs.GivingOut.{alone_prefix, alone_content}
use Rattle.repo_session.proofs.downloads.send_content.Goals as goal

pub returns-in-Err-clause-sent : goal.returns-in-Err-clause-sent
returns-in-Err-clause-sent g c =
    alone_prefix g.R.Reader.told g.R.Reader.left c.args.prefix.now c.args.download.now _ _ c.in-Err.unsaid c.in-Err.ensures.sent

pub returns-clause-sent : goal.returns-clause-sent
returns-clause-sent g c =
    alone_content g.R.Reader.told g.R.Reader.left c.args.prefix.now c.args.download.now _ _ _ c.send_pieces-2.result c.in_default.ensures.sent c.send_pieces-2.ensures.sent
