use Rattle.std.proofs.Common.{[], refl, inl, inr, codes, Some}
use Rattle.repo_model.specs.declared.reply.Fault.TheVariants as fault
use Rattle.repo_model.specs.State.{State, empty_state}
use Rattle.repo_model.specs.Writing.{counted}
use Rattle.repo_model.specs.Step.{outcome}
use Rattle.repo_model.specs.BrokenKeeper.{BreaksOnce}
use Rattle.repo_model.proofs.laws.keeper_fault_breaks.Goals as goal

begun : State
begun = counted empty_state (codes "default")

broken : State
broken = record begun { broken = Some (record { fault = fault.Keeper; entry = 1 }) }

breaks_once : BreaksOnce
unfolding outcome begun broken
breaks_once = (
  begun,
  inl ([], refl),
  (
    broken,
    inr (inl (record { what = fault.Keeper; says = refl; sound = refl; leaves = inr (refl, refl) })),
    (broken, inl ([], refl), refl),
  ),
)

pub returns : goal.returns
returns c = breaks_once
