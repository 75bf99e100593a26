-- The calls of a request, made one after another.
use Rattle.std.proofs.Common.{◌≡◌, inl, inr, ℕ, ◌+◌, ◌<◌, List, [], ◌∷◌, Option, Some, None, refl, sym, subst}
use Rattle.nx_base.specs.declared.moment.Moment.{Moment}
use Rattle.repo_model.specs.declared.call.Call.{Call}
use Rattle.repo_model.specs.declared.entry.Entry.{Entry}
use Rattle.repo_model.specs.declared.reply.Reply.{Reply}
use Rattle.repo_model.specs.State.{State}
use Rattle.http_requests.specs.Requests.{Item}
use Rattle.http_front.specs.declared.stop.Stop.{Stop}
use Rattle.http_front.specs.Calls.{next_call, store_in}
use Rattle.http_front.specs.Turns.{Setting, FollowsAt, Makes}
use Rattle.repo_session.specs.Leads.{IsEntryOf, LeadsBy}

-- the entry of a call
abbrev pub said_to : Call → Reply → Entry
said_to c said = record { caller = 0; call = c; reply = said }

-- A request of the session with number 0 makes that one call, or none where the journal is full.
pub makes_one : (setting : Setting) → 0 ≡ setting.caller → (moment : Moment) (request : Item) (stop : Option Stop) (number : ℕ) (state new : State) (c : Call) (said : Reply) (entries : List Entry)
    → next_call setting.digest moment request stop [] ≡ Some c → next_call setting.digest moment request stop (said_to c said ∷ []) ≡ None
    → IsEntryOf setting.room number c said entries → LeadsBy setting.config number state [] entries new
    → Makes setting moment request stop [] number state entries new
makes_one setting mine moment request stop number state new c said entries asks last (inl (fits, e)) leads =
    let by : LeadsBy setting.config number state [] (said_to c said ∷ []) new = subst (λ (l : List Entry). LeadsBy setting.config number state [] l new) e leads in
    subst (λ (l : List Entry). Makes setting moment request stop [] number state l new) (sym e)
    (new, record { asked = asks; caller = mine; fits = fits; follows = by.0 }, (inl last, refl))
makes_one setting mine moment request stop number state new c said entries asks last (inr (full, e, is)) leads =
    subst (λ (l : List Entry). Makes setting moment request stop [] number state l new) (sym e)
    (inr (inl full), subst (λ (l : List Entry). LeadsBy setting.config number state [] l new) e leads)

-- Behind its first call a request makes a second one, or none where the journal is full by then.
pub makes_two : (setting : Setting) → 0 ≡ setting.caller → (moment : Moment) (request : Item) (stop : Option Stop) (number : ℕ) (state mid new : State) (c d : Call) (first said : Reply) (entries : List Entry)
    → next_call setting.digest moment request stop [] ≡ Some c → next_call setting.digest moment request stop (said_to c first ∷ []) ≡ Some d
    → number < setting.room → FollowsAt setting.config number state [] (said_to c first) mid
    → IsEntryOf setting.room (number + 1) d said entries → LeadsBy setting.config (number + 1) mid (store_in (said_to c first ∷ [])) entries new
    → Makes setting moment request stop [] number state (said_to c first ∷ entries) new
makes_two setting mine moment request stop number state mid new c d first said entries asks next fits follows (inl (fits2, e)) leads =
    let by : LeadsBy setting.config (number + 1) mid (store_in (said_to c first ∷ [])) (said_to d said ∷ []) new = subst (λ (l : List Entry). LeadsBy setting.config (number + 1) mid (store_in (said_to c first ∷ [])) l new) e leads in
    subst (λ (l : List Entry). Makes setting moment request stop [] number state (said_to c first ∷ l) new) (sym e) (
      mid,
      record { asked = asks; caller = mine; fits = fits; follows = follows },
      (new, record { asked = next; caller = mine; fits = fits2; follows = by.0 }, (inl refl, refl)),
    )
makes_two setting mine moment request stop number state mid new c d first said entries asks next fits follows (inr (full, e, is)) leads =
    subst (λ (l : List Entry). Makes setting moment request stop [] number state (said_to c first ∷ l) new) (sym e) (
      mid,
      record { asked = asks; caller = mine; fits = fits; follows = follows },
      (inr (inl full), subst (λ (l : List Entry). LeadsBy setting.config (number + 1) mid (store_in (said_to c first ∷ [])) l new) e leads),
    )
