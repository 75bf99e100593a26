use Rattle.repo_config.proofs.Today.{told_today}
use Rattle.repo_config.proofs.config.Config.read.Goals as goal

pub returns-clause-today : goal.returns-clause-today
returns-clause-today c = told_today c.args.bytes.now c.read_config.result c.read_config.ensures.err
