use Rattle.repo_config.proofs.Model.{reads_repos, reads_groups, writes_to_one}
use Rattle.repo_config.proofs.laws.the_step_reads_the_same.Goals as goal

pub returns-clause-repos : goal.returns-clause-repos
returns-clause-repos c = reads_repos

pub returns-clause-groups : goal.returns-clause-groups
returns-clause-groups c = reads_groups

pub returns-clause-one : goal.returns-clause-one
returns-clause-one c = writes_to_one
