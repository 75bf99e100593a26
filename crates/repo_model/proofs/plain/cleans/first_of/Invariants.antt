use Rattle.std.proofs.Common.{◌≡◌, drop, find}
use Rattle.repo_model.specs.Cleaning.{takes_row_by}
use Rattle.repo_model.specs.Plain.{policies_in}
use Rattle.repo_model.proofs.plain.cleans.first_of.Given as goal

-- what is left has the same first one that takes the row
abbrev pub invariant-loop-name : goal.invariant-loop-name
invariant-loop-name g l =
    find (takes_row_by (policies_in g.M.PathPattern.text l.policies) l.key l.asset l.now) (drop l.name-index l.names)
    ≡ find (takes_row_by (policies_in g.M.PathPattern.text l.policies) l.key l.asset l.now) l.names
