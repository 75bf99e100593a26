use Rattle.std.proofs.Common.{◌≡◌, ◌++◌}
use Rattle.repo_config.specs.Model.{repos_read}
use Rattle.repo_config.specs.Hosted.{AllUsable}
use Rattle.repo_config.proofs.plain.plain_repos.Given as goal

abbrev pub invariant-loop-name : goal.invariant-loop-name
invariant-loop-name l = record {
  so_far : l.plain.items ++ repos_read l.name-iterator ≡ repos_read l.repos.entries;
  left : AllUsable l.name-iterator;
}
