use Rattle.std.proofs.Common.{◌≡◌, length, refl, ap, subst, ◌∙◌, arith}
use Rattle.blob_properties.specs.Props.{Props, IsInRange}
use Rattle.blob_properties.specs.FromPairs.{props_of}
use Rattle.blob_properties.proofs.Round.{entries-length, said_back}
use Rattle.blob_properties.proofs.pairs.to_pairs.Goals as goal

pub returns-then-len-own_pairs-gt-MOST_PAIRS-clause-full : goal.returns-then-len-own_pairs-gt-MOST_PAIRS-clause-full
returns-then-len-own_pairs-gt-MOST_PAIRS-clause-full c =
    let count = entries-length c.args.props.now (subst IsInRange c.props.view_is c.props.invariant) in
    let others = ap (λ (p : Props). length p.others) c.props.view_is in
    (λ _. omega (arith, count, others, c.own_pairs.ensures), λ _. refl)

pub returns-in-Ok-clause-back : goal.returns-in-Ok-clause-back
returns-in-Ok-clause-back c = ap props_of c.in-Ok.ensures.pairs ∙ said_back c.args.props.now c.in-Ok.ensures.blob

pub returns-in-Err-clause-full : goal.returns-in-Err-clause-full
returns-in-Err-clause-full c =
    let count = entries-length c.args.props.now (subst IsInRange c.props.view_is c.props.invariant) in
    let others = ap (λ (p : Props). length p.others) c.props.view_is in
    (λ e. cc, λ more. absurd (omega (arith, count, others, c.own_pairs.ensures)))
