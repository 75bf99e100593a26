use Rattle.repo_core.proofs.Reasons.{replaced_is_short}
use Rattle.repo_core.proofs.staging.stage_old.Goals as goal

pub stage_mark-requires-clause-short : goal.stage_mark-requires-clause-short
stage_mark-requires-clause-short g c = replaced_is_short
