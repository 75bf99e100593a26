use Rattle.std.proofs.Common.{◌≡◌, drop}
use Rattle.std.specs.FinMap.{find}
use Rattle.nx_base.specs.Order.{name_cmp}
use Rattle.repo_model.specs.Plain.{policies_in}
use Rattle.repo_model.proofs.plain.cleans.find_policy.Given as goal

-- what is left has the same first one of that name
abbrev pub invariant-loop-at : goal.invariant-loop-at
invariant-loop-at g l =
    find name_cmp l.name (policies_in g.M.PathPattern.text (drop l.at-index l.policies)) ≡ find name_cmp l.name (policies_in g.M.PathPattern.text l.policies)
