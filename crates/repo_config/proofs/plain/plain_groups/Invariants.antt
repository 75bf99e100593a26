use Rattle.std.proofs.Common.{◌≡◌, ◌++◌}
use Rattle.repo_config.specs.Model.{groups_read}
use Rattle.repo_config.proofs.plain.plain_groups.Given as goal

abbrev pub invariant-loop-name : goal.invariant-loop-name
invariant-loop-name l = l.plain.items ++ groups_read l.name-iterator ≡ groups_read l.stores.entries
