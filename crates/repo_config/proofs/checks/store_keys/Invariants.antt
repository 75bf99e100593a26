use Rattle.std.proofs.Common.{◌≡◌, ◌≤◌, take, map, length}
use Rattle.repo_config.specs.Refusals.{store_keys_of}
use Rattle.repo_config.proofs.checks.store_keys.Given as goal

abbrev pub invariant-loop-name : goal.invariant-loop-name
invariant-loop-name l =
    (l.keys ≡ store_keys_of l.pairs (map (λ name. name.now) (take l.name-index l.repos)))
    × (length l.keys ≤ l.name-index)
