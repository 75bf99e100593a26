use Rattle.repo_core.specs.Devices.{devices}
use Rattle.repo_session.proofs.CoreCalls.{rests_back}
use Rattle.repo_session.proofs.downloads.let_go.Goals as goal

pub returns-in-Some-clause-rests : goal.returns-in-Some-clause-rests
returns-in-Some-clause-rests g c = rests_back (devices g.D.Disk g.T.Keeper) c.args.core.now c.end_get.new.self _ c.end_get.ensures.back
