use Rattle.std.proofs.Common.{◌≡◌, take, map, filter, not}
use Rattle.repo_config.specs.Lists.{is_empty}
use Rattle.repo_config.proofs.settings.names_in.Given as goal

abbrev pub invariant-loop-part : goal.invariant-loop-part
invariant-loop-part l = map (λ name. name.now) l.names.items ≡ filter (λ name. not (is_empty name)) (map (λ part. part.now) (take l.part-index l.part-items))
