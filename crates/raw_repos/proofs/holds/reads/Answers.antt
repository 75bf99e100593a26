use Rattle.std.proofs.Common.{◌∙◌, sym}
use Rattle.raw_repos.proofs.HoldLemmas.{same_held}
use Rattle.raw_repos.proofs.holds.reads.Goals as goal

pub returns-in-Some : goal.returns-in-Some
returns-in-Some c =
    let held = same_held c.in-Some.held c.args.blob.now c.eq.result c.eq.ensures in
    (λ yes. c.in-Some.is ∙ held.0 yes, λ is. held.1 (sym c.in-Some.is ∙ is))
