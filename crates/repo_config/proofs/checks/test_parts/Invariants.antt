use Rattle.std.proofs.Common.{◌≡◌, drop, map}
use Rattle.repo_config.specs.Refusals.{first_refusal, missing_refusal}
use Rattle.repo_config.proofs.checks.test_parts.Given as goal

abbrev pub invariant-loop-name : goal.invariant-loop-name
invariant-loop-name l =
    first_refusal (missing_refusal l.subject l.pairs) (map (λ name. name.now) l.names)
    ≡ first_refusal (missing_refusal l.subject l.pairs) (map (λ name. name.now) (drop l.name-index l.names))
