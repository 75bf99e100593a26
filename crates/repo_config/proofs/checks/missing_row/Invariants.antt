use Rattle.std.proofs.Common.{◌≡◌, drop, find}
use Rattle.repo_config.specs.Refusals.{lacks}
use Rattle.repo_config.specs.Table.{rows}
use Rattle.repo_config.proofs.checks.missing_row.Given as goal

abbrev pub invariant-loop-row : goal.invariant-loop-row
invariant-loop-row l = find (lacks l.subject l.pairs l.name) (rows l.subject) ≡ find (lacks l.subject l.pairs l.name) (drop l.row-index l.row-items)
