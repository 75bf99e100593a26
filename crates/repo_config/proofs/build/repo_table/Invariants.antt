use Rattle.std.proofs.Common.{◌≡◌, take}
use Rattle.repo_config.specs.Settings.{by_name, repository}
use Rattle.repo_config.proofs.build.repo_table.Given as goal

abbrev pub invariant-loop-name : goal.invariant-loop-name
invariant-loop-name l = l.repos.entries ≡ by_name (repository l.pairs) (take l.name-index l.names)
