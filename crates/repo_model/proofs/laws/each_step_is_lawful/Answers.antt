use Rattle.repo_model.proofs.Lawful.{outcome_lawful}
use Rattle.repo_model.proofs.laws.each_step_is_lawful.Goals as goal

pub returns : goal.returns
returns c = outcome_lawful
