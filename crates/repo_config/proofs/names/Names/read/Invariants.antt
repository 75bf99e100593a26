use Rattle.std.proofs.Common.{◌≤◌, drop, map, vec_len, filter, not}
use Rattle.repo_config.specs.Lists.{is_empty}
use Rattle.repo_config.specs.Found.{HasNames}
use Rattle.repo_config.proofs.names.Names.read.Given as goal

abbrev pub invariant-loop-left : goal.invariant-loop-left
invariant-loop-left l =
    HasNames l.names (filter (λ name. not (is_empty name)) (map (λ part. part.now) (drop l.left l.parts.items)))
    × (l.left ≤ vec_len l.parts)

abbrev pub decreases-loop-left : goal.decreases-loop-left
decreases-loop-left l = l.left
