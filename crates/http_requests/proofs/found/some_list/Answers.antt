use Rattle.std.proofs.Common.{◌≡◌, ℕ, drop, subst, arith, inl, inr}
use Rattle.std.proofs.lemmas.Bool.{cases_lt}
use Rattle.std.proofs.lemmas.List.{take_rest}
use Rattle.http_requests.specs.Found.{HasOpening}
use Rattle.http_requests.proofs.FoundHeads.{list_of}
use Rattle.http_requests.proofs.found.some_list.Goals as goal

pub loop-at-preserved : goal.loop-at-preserved
loop-at-preserved c k lt =
    elim (cases_lt k c.loop-at.at) [
      | inl before ↦ c.loop-at.invariant k before
      | inr ge ↦
          let here : c.loop-at.at ≡ k = omega (arith, lt, ge) in
          subst (λ (n : ℕ). HasOpening (drop n c.args.bytes.now)) here (subst HasOpening (take_rest c.args.bytes.now c.loop-at.at) c.some_opening.ensures)
    ]

pub returns : goal.returns
returns c = list_of c.args.bytes.now (λ k lt. c.loop-at.invariant k (omega (arith, lt)))
