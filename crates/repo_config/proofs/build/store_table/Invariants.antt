use Rattle.std.proofs.Common.{◌≡◌, take}
use Rattle.repo_config.specs.Settings.{by_name, store}
use Rattle.repo_config.proofs.build.store_table.Given as goal

abbrev pub invariant-loop-name : goal.invariant-loop-name
invariant-loop-name l = l.stores.entries ≡ by_name (store l.pairs) (take l.name-index l.names)
