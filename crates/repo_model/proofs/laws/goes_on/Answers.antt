use Rattle.std.proofs.Common.{length, subst, sym, zero-add}
use Rattle.repo_model.specs.History.{Follows}
use Rattle.repo_model.proofs.Histories.{LegalFrom-push}
use Rattle.repo_model.proofs.laws.goes_on.Goals as goal

pub returns : goal.returns
returns c = λ config s m t es e legal next.
    LegalFrom-push config 0 s es m e t legal (subst (λ k. Follows config k m e t) (sym (zero-add (length es))) next)
