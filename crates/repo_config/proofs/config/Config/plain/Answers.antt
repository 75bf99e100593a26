use Rattle.repo_config.proofs.AllHosted.{found_hosted}
use Rattle.repo_config.proofs.config.Config.plain.Goals as goal

pub returns-clause-hosted : goal.returns-clause-hosted
returns-clause-hosted c = rw c.in_ok-plain_repos.ensures (found_hosted c.self.inside.repos.entries c.self.invariant)
