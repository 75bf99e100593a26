-- What the answers of works are: never those of a core that takes no call, and a fault only where the work told of one.
use Rattle.std.proofs.Common.{◌≡◌, ℕ, true, false, OnErr, OnOk, IfErr, Option, Some, None, Result, Ok, Err, refl, sym, ◌∙◌, ap, subst}
use Rattle.nx_io.specs.Causes.{HasCauseWhere}
use Rattle.repo_model.specs.declared.reply.Cause.{Cause}
use Rattle.repo_model.specs.declared.reply.Fault.{Fault}
use Rattle.repo_model.specs.declared.reply.Fault.TheVariants as fault
use Rattle.repo_model.specs.declared.reply.Refusal.{Refusal}
use Rattle.repo_model.specs.declared.reply.Refusal.TheVariants as refusal
use Rattle.repo_core.specs.declared.denial.Denial.{Denial}
use Rattle.repo_core.specs.declared.denial.Denial.TheVariants as denial
use Rattle.repo_core.specs.declared.stop.Stop.{Stop}
use Rattle.repo_core.specs.declared.stop.Stop.TheVariants as stop
use Rattle.repo_core.specs.Answers.{answer_of, cause_of, is_denied, is_broke, stopped}
use Rattle.repo_core.specs.Faults.{DeniedBy, StoppedBy, RefusedBy, refusal_for, refusal_of_fault}
use Rattle.repo_core.specs.Worked.{IsAnswerOf}

never_full_fault : (what : Fault) → refusal_of_fault what ≡ refusal.JournalFull → ⊥
never_full_fault fault.Disk e = cc
never_full_fault fault.Keeper e = cc
never_full_fault fault.Memory e = cc

never_full_denial : (why : Denial) → refusal_for why ≡ refusal.JournalFull → ⊥
never_full_denial denial.NotFound e = cc
never_full_denial denial.UnknownRepo e = cc
never_full_denial (denial.WriteDenied policy) e = cc
never_full_denial denial.NoWritable e = cc
never_full_denial (denial.IdTaken id) e = cc
never_full_denial denial.StampsUsed e = cc
never_full_denial (denial.Damaged size found) e = cc
never_full_denial (denial.Failed what) e = never_full_fault what e

never_broken_fault : (cause : Cause) (what : Fault) → refusal_of_fault what ≡ refusal.Broken cause → ⊥
never_broken_fault cause fault.Disk e = cc
never_broken_fault cause fault.Keeper e = cc
never_broken_fault cause fault.Memory e = cc

never_broken_denial : (cause : Cause) (why : Denial) → refusal_for why ≡ refusal.Broken cause → ⊥
never_broken_denial cause denial.NotFound e = cc
never_broken_denial cause denial.UnknownRepo e = cc
never_broken_denial cause (denial.WriteDenied policy) e = cc
never_broken_denial cause denial.NoWritable e = cc
never_broken_denial cause (denial.IdTaken id) e = cc
never_broken_denial cause denial.StampsUsed e = cc
never_broken_denial cause (denial.Damaged size found) e = cc
never_broken_denial cause (denial.Failed what) e = never_broken_fault cause what e

pub err_same : {A : Type 0} (result : Result A Refusal) (a b : Refusal) → result ≡ Err a → result ≡ Err b → a ≡ b
err_same result a b ea eb = cc

ok_err : {A : Type 0} (result : Result A Refusal) (value : A) (why : Refusal) → result ≡ Ok value → result ≡ Err why → ⊥
ok_err result value why ok err = cc

pub some_none : {A : Type 0} (o : Option A) (a : A) → o ≡ None → o ≡ Some a → ⊥
some_none o a none some = cc

by_denial : (Is : Fault → Type 0) (why : Denial) → RefusedBy Is (refusal_for why) → DeniedBy Is why
by_denial Is denial.NotFound by = by
by_denial Is denial.UnknownRepo by = by
by_denial Is (denial.WriteDenied policy) by = by
by_denial Is denial.NoWritable by = by
by_denial Is (denial.IdTaken id) by = by
by_denial Is denial.StampsUsed by = by
by_denial Is (denial.Damaged size found) by = by
by_denial Is (denial.Failed fault.Disk) by = by
by_denial Is (denial.Failed fault.Keeper) by = by
by_denial Is (denial.Failed fault.Memory) by = by

by_fault : (Is : Fault → Type 0) (what : Fault) → RefusedBy Is (refusal_of_fault what) → Is what
by_fault Is fault.Disk by = by
by_fault Is fault.Keeper by = by
by_fault Is fault.Memory by = by

module _ {X A : Type 0} (says : X → A) where
  -- a fault that is answered was the work's
  pub answered_cause : (Is : Fault → Type 0) (Cause : Type 0) (done : Result X Stop) (result : Result A Refusal) → IsAnswerOf says done result
      → IfErr done (λ e. StoppedBy Is e → Cause) → IfErr result (λ e. RefusedBy Is e → Cause)
  answered_cause Is Cause (Ok value) result is failed = subst (λ (r : Result A Refusal). IfErr r (λ e. RefusedBy Is e → Cause)) (sym is) tt
  answered_cause Is Cause (Err (stop.Denied why)) result is failed =
      subst (λ (r : Result A Refusal). IfErr r (λ e. RefusedBy Is e → Cause)) (sym is) (λ by. failed (by_denial Is why by))
  answered_cause Is Cause (Err (stop.Broke what)) result is failed =
      subst (λ (r : Result A Refusal). IfErr r (λ e. RefusedBy Is e → Cause)) (sym is) (λ by. failed (by_fault Is what by))

  pub never_full : (done : Result X Stop) (result : Result A Refusal) → IsAnswerOf says done result → result ≡ Err refusal.JournalFull → ⊥
  never_full (Ok value) result is full = ok_err result (says value) refusal.JournalFull is full
  never_full (Err (stop.Denied why)) result is full = never_full_denial why (err_same result (refusal_for why) refusal.JournalFull is full)
  never_full (Err (stop.Broke what)) result is full = never_full_fault what (err_same result (refusal_of_fault what) refusal.JournalFull is full)

  pub never_broken : (cause : Cause) (done : Result X Stop) (result : Result A Refusal) → IsAnswerOf says done result → result ≡ Err (refusal.Broken cause) → ⊥
  never_broken cause (Ok value) result is broken = ok_err result (says value) (refusal.Broken cause) is broken
  never_broken cause (Err (stop.Denied why)) result is broken = never_broken_denial cause why (err_same result (refusal_for why) (refusal.Broken cause) is broken)
  never_broken cause (Err (stop.Broke what)) result is broken = never_broken_fault cause what (err_same result (refusal_of_fault what) (refusal.Broken cause) is broken)

  -- what is refused, and breaks nothing, was denied
  pub if_denied : (P : Type 0) (number : ℕ) (done : Result X Stop) (result : Result A Refusal) (broken : Option Cause) → IsAnswerOf says done result
      → broken ≡ cause_of number done → broken ≡ None → (is_denied done ≡ true → P) → OnErr result P
  if_denied P number (Ok value) result broken is cause none go = subst (λ (r : Result A Refusal). OnErr r P) (sym is) tt
  if_denied P number (Err (stop.Denied why)) result broken is cause none go = subst (λ (r : Result A Refusal). OnErr r P) (sym is) (go refl)
  if_denied P number (Err (stop.Broke what)) result broken is cause none go = absurd (some_none broken (record { fault = what; entry = number }) none cause)

-- what is broken by the call was stopped halfway
pub was_broke : {X : Type 0} (done : Result X Stop) (number : ℕ) (broken : Option Cause) → broken ≡ cause_of number done → (cause : Cause) → broken ≡ Some cause → is_broke done ≡ true
was_broke (Ok value) number broken is cause broke = absurd (some_none broken cause is broke)
was_broke (Err (stop.Denied why)) number broken is cause broke = absurd (some_none broken cause is broke)
was_broke (Err (stop.Broke what)) number broken is cause broke = refl

-- a work was denied, or it wasn't
pub if_not_denied : {X : Type 0} (P : Type 0) (done : Result X Stop) → (is_denied done ≡ true → P) → (is_denied done ≡ false → P) → P
if_not_denied P (Ok value) denied made = made refl
if_not_denied P (Err (stop.Denied why)) denied made = denied refl
if_not_denied P (Err (stop.Broke what)) denied made = made refl

-- what holds where it wasn't holds where the call did what it was for
pub on_done : {X A : Type 0} (says : X → A) (P : Type 0) (done : Result X Stop) (result : Result A Refusal) → IsAnswerOf says done result → (is_denied done ≡ false → P) → OnOk result P
on_done {X} {A} says P (Ok value) result is made = subst (λ (r : Result A Refusal). OnOk r P) (sym is) (made refl)
on_done {X} {A} says P (Err (stop.Denied why)) result is made = subst (λ (r : Result A Refusal). OnOk r P) (sym is) tt
on_done {X} {A} says P (Err (stop.Broke what)) result is made = subst (λ (r : Result A Refusal). OnOk r P) (sym is) tt

-- what the work comes to is the answer
pub answers : {X : Type 0} (done : Result X Stop) (said : Result X Refusal) → said ≡ answer_of done → IsAnswerOf (λ (value : X). value) done said
answers (Ok value) said is = is
answers (Err (stop.Denied why)) said is = is
answers (Err (stop.Broke what)) said is = is

-- and so it is where the answer shows the caller a part of what was done
pub answers_as : {X A : Type 0} (says : X → A) (shown : Result X Refusal → Result A Refusal) → ((value : X) → shown (Ok value) ≡ Ok (says value)) → ((why : Refusal) → shown (Err why) ≡ Err why)
    → (done : Result X Stop) (said : Result X Refusal) (result : Result A Refusal) → said ≡ answer_of done → result ≡ shown said → IsAnswerOf says done result
answers_as says shown ok err (Ok value) said result is out = out ∙ ap shown is ∙ ok value
answers_as says shown ok err (Err (stop.Denied why)) said result is out = out ∙ ap shown is ∙ err (refusal_for why)
answers_as says shown ok err (Err (stop.Broke what)) said result is out = out ∙ ap shown is ∙ err (refusal_of_fault what)

-- a work that is never stopped halfway
pub stopped_cause : {A : Type 0} (Is : Fault → Type 0) (before now : ℕ) (done : Result A Denial) → HasCauseWhere (DeniedBy Is) before now done → HasCauseWhere (StoppedBy Is) before now (stopped done)
stopped_cause Is before now (Ok value) cause = record { later = cause.later; failed = tt }
stopped_cause Is before now (Err why) cause = record { later = cause.later; failed = cause.failed }

pub breaks_nothing : {A : Type 0} (number : ℕ) (done : Result A Denial) → None ≡ cause_of number (stopped done)
breaks_nothing number (Ok value) = refl
breaks_nothing number (Err why) = refl

pub stopped_answers : {X A : Type 0} (says : X → A) (shown : Result X Denial → Result A Refusal) → ((value : X) → shown (Ok value) ≡ Ok (says value)) → ((why : Denial) → shown (Err why) ≡ Err (refusal_for why))
    → (done : Result X Denial) (result : Result A Refusal) → result ≡ shown done → IsAnswerOf says (stopped done) result
stopped_answers says shown ok err (Ok value) result is = is ∙ ok value
stopped_answers says shown ok err (Err why) result is = is ∙ err why

pub not_denied_counts : {A : Type 0} (P : Type 0) (done : Result A Denial) → OnOk done P → is_denied (stopped done) ≡ false → P
not_denied_counts P (Ok value) holds made = holds
not_denied_counts P (Err why) holds made = cc

pub never_stopped : {A : Type 0} (P : Type 0) (done : Result A Denial) → is_broke (stopped done) ≡ true → P
never_stopped P (Ok value) broke = cc
never_stopped P (Err why) broke = cc

pub if_stopped : {A : Type 0} (P : Type 0) (done : Result A Denial) → OnErr done P → is_denied (stopped done) ≡ true → P
if_stopped P (Ok value) holds denied = cc
if_stopped P (Err why) holds denied = holds
