-- What the end of a call comes to in the history.
use Rattle.std.proofs.Common.{◌≡◌, inl, inr, ℕ, false, not, IsTrue, List, [], Option, Some, None, Result, Ok, Err, refl, sym, ◌∙◌, ap, subst}
use Rattle.nx_base.specs.Given.{given}
use Rattle.repo_model.specs.declared.call.Call.{Call}
use Rattle.repo_model.specs.declared.reply.Cause.{Cause}
use Rattle.repo_model.specs.declared.reply.Fault.{Fault}
use Rattle.repo_model.specs.declared.reply.Fault.TheVariants as fault
use Rattle.repo_model.specs.declared.reply.Refusal.{Refusal}
use Rattle.repo_model.specs.declared.reply.Refusal.TheVariants as refusal
use Rattle.repo_model.specs.declared.reply.Reply.{Reply}
use Rattle.repo_model.specs.declared.reply.Reply.TheVariants as reply
use Rattle.repo_model.specs.Config.{Config}
use Rattle.repo_model.specs.State.{State}
use Rattle.repo_model.specs.Outcome.{refused}
use Rattle.repo_model.specs.Step.{outcome, sound_outcome}
use Rattle.repo_model.specs.History.{Follows, refusal_of, is_begin}
use Rattle.repo_core.specs.declared.denial.Denial.TheVariants as denial
use Rattle.repo_core.specs.declared.stop.Stop.{Stop}
use Rattle.repo_core.specs.declared.stop.Stop.TheVariants as stop
use Rattle.repo_core.specs.Faults.{refusal_of_fault}
use Rattle.repo_core.specs.Answers.{entry_of, reply_of, answer_of, cause_of, is_broke}
use Rattle.repo_core.specs.Standing.{AnswersAt, IsSteadyRefusal}
use Rattle.repo_core.specs.Ends.{Ends, EndsAt}

-- a broken repository answers by its cause, whatever the store
pub outcome_broken : (config : Config) (s : State) (store : List ℕ) (c : Call) (cause : Cause) → s.broken ≡ Some cause → outcome config s store c ≡ refused s (refusal.Broken cause)
unfolding outcome
outcome_broken config s store c cause is = ap (λ (b : Option Cause). given b (sound_outcome config s store c) (λ cause. refused s (refusal.Broken cause))) is

-- a broken repository answers by its cause, and stays
pub follows_broken : (config : Config) (number caller : ℕ) (s : State) (c : Call) (cause : Cause) → s.broken ≡ Some cause
    → Follows config number s (record { caller = caller; call = c; reply = reply.Refused (refusal.Broken cause) }) s
follows_broken config number caller s c cause is = inl ([], outcome_broken config s [] c cause is)

-- the state after one more entry, by which the call was answered so, and which may have broken the repository
pub record Next {A : Type 0} (config : Config) (number caller : ℕ) (s : State) (c : Call) (says : A → Reply) (agrees : State → Type 0) (said : Result A Refusal) (broken : Option Cause) : Type 0 where
  pub new : State
  pub follows : Follows config number s (entry_of caller c says said) new
  pub broken_is : new.broken ≡ broken
  pub agree : broken ≡ None → agrees new

some_none : {A : Type 0} (a : A) → Some a ≡ None → ⊥
some_none a e = cc

says_fault : (what : Fault) → reply.Refused (refusal_of_fault what) ≡ refusal_of what
says_fault fault.Disk = refl
says_fault fault.Keeper = refl
says_fault fault.Memory = refl

by_work : {A : Type 0} (config : Config) (number caller : ℕ) (s : State) (c : Call) (says : A → Reply) (agrees : State → Type 0) (done : Result A Stop)
    → IsTrue (not (is_begin c)) → s.broken ≡ None → ((t : State) → agrees t → t.broken ≡ None) → Ends config s c says agrees done
    → Next config number caller s c says agrees (answer_of done) (cause_of number done)
by_work config number caller s c says agrees (Ok value) other sound all ends = record {
  new = ends.0;
  follows = inl ends.1;
  broken_is = all ends.0 ends.2;
  agree = λ _. ends.2;
}
by_work config number caller s c says agrees (Err (stop.Denied why)) other sound all ends = record {
  new = s;
  follows = ends.0 number caller;
  broken_is = sound;
  agree = λ _. ends.1;
}
by_work config number caller s c says agrees (Err (stop.Broke what)) other sound all ends = record {
  new = record s { broken = Some (record { fault = what; entry = number }) };
  follows = inr (inl (record { what = what; says = says_fault what; sound = sound; leaves = inr (other, refl) }));
  broken_is = refl;
  agree = λ none. absurd (some_none (record { fault = what; entry = number }) none);
}

-- by its work a call leads to the next state
pub next_done : {A : Type 0} (config : Config) (number caller : ℕ) (s : State) (c : Call) (says : A → Reply) (agrees : State → Type 0) (done : Result A Stop) (said : Result A Refusal) (broken : Option Cause) (n : ℕ)
    → said ≡ answer_of done → broken ≡ cause_of n done → n ≡ number
    → IsTrue (not (is_begin c)) → s.broken ≡ None → ((t : State) → agrees t → t.broken ≡ None) → Ends config s c says agrees done
    → Next config number caller s c says agrees said broken
next_done {A} config number caller s c says agrees done said broken n said_is broken_is is_number other sound all ends =
    subst (λ (r : Result A Refusal). Next config number caller s c says agrees r broken) (sym said_is)
    (subst (λ (b : Option Cause). Next config number caller s c says agrees (answer_of done) b) (sym (broken_is ∙ ap (λ (k : ℕ). cause_of k done) is_number))
    (by_work config number caller s c says agrees done other sound all ends))

-- the same of an upload in that store
pub record NextAt {A : Type 0} (config : Config) (number caller : ℕ) (s : State) (store : List ℕ) (c : Call) (says : A → Reply) (agrees : State → Type 0) (said : Result A Refusal) (broken : Option Cause) : Type 0 where
  pub new : State
  pub follows : Follows config number s (entry_of caller c says said) new
  pub at : AnswersAt config s store c (reply_of says said) new
  pub broken_is : new.broken ≡ broken
  pub agree : broken ≡ None → agrees new

unsteady : (what : Fault) → IsSteadyRefusal (refusal_of_fault what) → ⊥
unsteady fault.Disk steady = steady
unsteady fault.Keeper steady = steady
unsteady fault.Memory steady = steady

by_work_at : {A : Type 0} (config : Config) (number caller : ℕ) (s : State) (store : List ℕ) (c : Call) (says : A → Reply) (agrees : State → Type 0) (done : Result A Stop)
    → IsTrue (not (is_begin c)) → s.broken ≡ None → ((t : State) → agrees t → t.broken ≡ None) → EndsAt config s store c says agrees done
    → NextAt config number caller s store c says agrees (answer_of done) (cause_of number done)
by_work_at config number caller s store c says agrees (Ok value) other sound all ends = record {
  new = ends.0;
  follows = inl (store, ends.1);
  at = λ steady. ends.1;
  broken_is = all ends.0 ends.2;
  agree = λ _. ends.2;
}
by_work_at config number caller s store c says agrees (Err (stop.Denied why)) other sound all ends = record {
  new = s;
  follows = ends.0.0 number caller;
  at = ends.0.1;
  broken_is = sound;
  agree = λ _. ends.1;
}
by_work_at config number caller s store c says agrees (Err (stop.Broke what)) other sound all ends = record {
  new = record s { broken = Some (record { fault = what; entry = number }) };
  follows = inr (inl (record { what = what; says = says_fault what; sound = sound; leaves = inr (other, refl) }));
  at = λ steady. absurd (unsteady what steady);
  broken_is = refl;
  agree = λ none. absurd (some_none (record { fault = what; entry = number }) none);
}

-- by its work a call on an upload leads to the next state
pub next_at : {A : Type 0} (config : Config) (number caller : ℕ) (s : State) (store : List ℕ) (c : Call) (says : A → Reply) (agrees : State → Type 0) (done : Result A Stop) (said : Result A Refusal) (broken : Option Cause) (n : ℕ)
    → said ≡ answer_of done → broken ≡ cause_of n done → n ≡ number
    → IsTrue (not (is_begin c)) → s.broken ≡ None → ((t : State) → agrees t → t.broken ≡ None) → EndsAt config s store c says agrees done
    → NextAt config number caller s store c says agrees said broken
next_at {A} config number caller s store c says agrees done said broken n said_is broken_is is_number other sound all ends =
    subst (λ (r : Result A Refusal). NextAt config number caller s store c says agrees r broken) (sym said_is)
    (subst (λ (b : Option Cause). NextAt config number caller s store c says agrees (answer_of done) b) (sym (broken_is ∙ ap (λ (k : ℕ). cause_of k done) is_number))
    (by_work_at config number caller s store c says agrees done other sound all ends))

-- what is not broken afterwards was not stopped halfway
pub not_broke : {A : Type 0} (number : ℕ) (done : Result A Stop) (broken : Option Cause) → broken ≡ cause_of number done → broken ≡ None → is_broke done ≡ false
not_broke number (Ok value) broken is none = refl
not_broke number (Err (stop.Denied why)) broken is none = refl
not_broke number (Err (stop.Broke what)) broken is none = absurd (some_none (record { fault = what; entry = number }) (sym is ∙ none))

-- damage is told where the work was denied for it
pub damage_of : {A : Type 0} (done : Result A Stop) (said : Result A Refusal) (size : ℕ) (found : Option ℕ) → said ≡ answer_of done → said ≡ Err (refusal.Damaged size found)
    → done ≡ Err (stop.Denied (denial.Damaged size found))
damage_of {A} done said size found is says = from done (sym is ∙ says)
  where
    from : (d : Result A Stop) → answer_of d ≡ Err (refusal.Damaged size found) → d ≡ Err (stop.Denied (denial.Damaged size found))
    from (Ok value) e = cc
    from (Err (stop.Denied denial.NotFound)) e = cc
    from (Err (stop.Denied denial.UnknownRepo)) e = cc
    from (Err (stop.Denied (denial.WriteDenied policy))) e = cc
    from (Err (stop.Denied denial.NoWritable)) e = cc
    from (Err (stop.Denied (denial.IdTaken id))) e = cc
    from (Err (stop.Denied denial.StampsUsed)) e = cc
    from (Err (stop.Denied (denial.Damaged n o))) e = cc
    from (Err (stop.Denied (denial.Failed fault.Disk))) e = cc
    from (Err (stop.Denied (denial.Failed fault.Keeper))) e = cc
    from (Err (stop.Denied (denial.Failed fault.Memory))) e = cc
    from (Err (stop.Broke fault.Disk)) e = cc
    from (Err (stop.Broke fault.Keeper)) e = cc
    from (Err (stop.Broke fault.Memory)) e = cc
