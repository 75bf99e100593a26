-- What is known of the cause by which a call broke the repository.
use Rattle.std.proofs.Common.{◌≡◌, ℕ, Option, Some, None, Result, Ok, Err, sym, ◌∙◌, subst}
use Rattle.nx_io.specs.Causes.{Rose, HasCauseWhere}
use Rattle.repo_model.specs.declared.reply.Cause.{Cause}
use Rattle.repo_model.specs.declared.reply.Fault.{Fault}
use Rattle.repo_model.specs.declared.reply.Fault.TheVariants as fault
use Rattle.repo_core.specs.declared.stop.Stop.{Stop}
use Rattle.repo_core.specs.declared.stop.Stop.TheVariants as stop
use Rattle.repo_core.specs.Faults.{IsDisk, IsKeeper, StoppedBy}
use Rattle.repo_core.specs.Answers.{cause_of}

none_is_some : {A : Type 0} (a : A) → None ≡ Some a → ⊥
none_is_some a e = cc

-- what isn't broken before is broken by the call
pub unbroken : {A : Type 0} (P : Type 0) (o : Option A) (a : A) → o ≡ None → o ≡ Some a → P
unbroken P o a none some = absurd (none_is_some a (sym none ∙ some))

module _ {A : Type 0} (done : Result A Stop) (number : ℕ) (broken : Option Cause) (is : broken ≡ cause_of number done) (cause : Cause) (broke : broken ≡ Some cause) where
  fault_is : (d : Result A Stop) → cause_of number d ≡ Some cause → d ≡ Err (stop.Broke cause.fault)
  fault_is (Ok value) e = cc
  fault_is (Err (stop.Denied why)) e = cc
  fault_is (Err (stop.Broke what)) e = cc

  entry_is : (d : Result A Stop) → cause_of number d ≡ Some cause → cause.entry ≡ number
  entry_is (Ok value) e = cc
  entry_is (Err (stop.Denied why)) e = cc
  entry_is (Err (stop.Broke what)) e = cc

  its_cause : cause_of number done ≡ Some cause
  its_cause = sym is ∙ broke

  pub broke_number : cause.entry ≡ number
  broke_number = entry_is done its_cause

  -- the device told of its fault
  rose : (Is : Fault → Type 0) (before now : ℕ) → HasCauseWhere {T = A} (StoppedBy Is) before now done → Is cause.fault → Rose before now
  rose Is before now told its =
      let here = subst (λ (d : Result A Stop). HasCauseWhere {T = A} (StoppedBy Is) before now d) (fault_is done its_cause) told in
      here.failed its

  pub broke_disk : (before now : ℕ) → HasCauseWhere {T = A} (StoppedBy IsDisk) before now done → cause.fault ≡ fault.Disk → Rose before now
  broke_disk before now told what = rose IsDisk before now told (subst (λ (w : Fault). IsDisk w) (sym what) tt)

  pub broke_keeper : (before now : ℕ) → HasCauseWhere {T = A} (StoppedBy IsKeeper) before now done → cause.fault ≡ fault.Keeper → Rose before now
  broke_keeper before now told what = rose IsKeeper before now told (subst (λ (w : Fault). IsKeeper w) (sym what) tt)
