use Rattle.repo_config.proofs.AllHosted.{reads_hosted}
use Rattle.repo_config.proofs.laws.all_are_hosted.Goals as goal

pub returns : goal.returns
returns c = reads_hosted
