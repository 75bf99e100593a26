use Rattle.std.proofs.Common.{◌≡◌, drop, map}
use Rattle.std.specs.List.{list_all}
use Rattle.repo_config.specs.Lists.{may_name}
use Rattle.repo_config.proofs.names.all_may_name.Given as goal

abbrev pub invariant-loop-name : goal.invariant-loop-name
invariant-loop-name l = list_all (may_name l.subject) (map (λ name. name.now) l.names) ≡ list_all (may_name l.subject) (map (λ name. name.now) (drop l.name-index l.names))
