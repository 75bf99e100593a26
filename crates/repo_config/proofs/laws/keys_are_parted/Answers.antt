use Rattle.repo_config.proofs.Parted.{store_parted, repo_parted}
use Rattle.repo_config.proofs.laws.keys_are_parted.Goals as goal

pub returns-clause-stores : goal.returns-clause-stores
returns-clause-stores c = store_parted

pub returns-clause-repos : goal.returns-clause-repos
returns-clause-repos c = repo_parted
