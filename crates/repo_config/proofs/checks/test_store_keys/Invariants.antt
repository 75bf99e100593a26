use Rattle.std.proofs.Common.{◌≡◌, drop}
use Rattle.repo_config.specs.Refusals.{first_refusal, store_refusal}
use Rattle.repo_config.proofs.checks.test_store_keys.Given as goal

abbrev pub invariant-loop-at : goal.invariant-loop-at
invariant-loop-at l = first_refusal (store_refusal l.pairs) l.keys ≡ first_refusal (store_refusal l.pairs) (drop l.at l.keys)
