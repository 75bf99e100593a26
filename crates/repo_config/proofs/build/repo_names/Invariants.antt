use Rattle.std.proofs.Common.{◌≡◌, ◌++◌, drop, map, true}
use Rattle.std.specs.List.{list_all}
use Rattle.repo_config.specs.declared.form.Subject.TheVariants.{OfRepo}
use Rattle.repo_config.specs.Lists.{may_name}
use Rattle.repo_config.proofs.build.repo_names.Given as goal

abbrev pub invariant-loop-name : goal.invariant-loop-name
invariant-loop-name l =
    (map (λ name. name.now) l.names ≡ l.repos.items ++ map (λ name. name.now) (drop l.name-index l.names))
    × (list_all (may_name OfRepo) (map (λ name. name.now) (drop l.name-index l.names)) ≡ true)
