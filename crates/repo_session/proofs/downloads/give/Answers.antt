use Rattle.repo_core.specs.Devices.{devices}
use Rattle.repo_session.proofs.CoreCalls.{rests_back}
use Rattle.repo_session.proofs.downloads.give.Goals as goal

pub returns-clause-rests : goal.returns-clause-rests
returns-clause-rests g c = rests_back (devices g.D.Disk g.T.Keeper) c.args.core.now c.end_get.new.self _ c.end_get.ensures.back
