-- What a request made where nothing failed is what the one-thread repository makes.
use Rattle.std.proofs.Common.{◌≡◌, ◌⊎◌, ℕ, zero, suc, ◌+◌, ◌<◌, ◌≤◌, Bool, true, false, IsTrue, if◌then◌else◌, nat_le, List, [], ◌∷◌, ◌++◌, length, Option, Some, None, unwrap_or, refl, sym, ◌∙◌, ap, subst, inl, inr, arith, length-append}
use Rattle.std.proofs.lemmas.Bool.Decides.{nat_tests}
use Rattle.nx_base.specs.Given.{given}
use Rattle.nx_base.specs.declared.moment.Moment.{Moment}
use Rattle.repo_model.specs.declared.call.Call.{Call}
use Rattle.repo_model.specs.declared.entry.Entry.{Entry}
use Rattle.repo_model.specs.declared.reply.Fault.{Fault}
use Rattle.repo_model.specs.declared.reply.Fault.TheVariants as fault
use Rattle.repo_model.specs.declared.reply.Refusal.TheVariants as refusal
use Rattle.repo_model.specs.declared.reply.Reply.{Reply}
use Rattle.repo_model.specs.declared.reply.Reply.TheVariants as reply
use Rattle.repo_model.specs.Config.{Config}
use Rattle.repo_model.specs.State.{State}
use Rattle.repo_model.specs.Outcome.{Outcome}
use Rattle.repo_model.specs.History.{refusal_of}
use Rattle.http_requests.specs.Requests.{Item}
use Rattle.http_front.specs.declared.stop.Stop.{Stop}
use Rattle.http_front.specs.declared.stop.Stop.TheVariants as stops
use Rattle.http_front.specs.Calls.{next_call, store_in}
use Rattle.http_front.specs.Turns.{Setting, FollowsAt, Makes}
use Rattle.http_front.specs.Sound.{is_sound, AreSoundEntries}
use Rattle.http_front.specs.Output.{done_by, entry_of, Made, with_entry, made_in}

-- a failure isn't sound
failed : (what : Fault) → IsTrue (is_sound (refusal_of what)) → ⊥
failed fault.Disk h = cc
failed fault.Keeper h = cc
failed fault.Memory h = cc

-- a sound reply is that of the step
pub done_is : (config : Config) (n : ℕ) (s : State) (store : List ℕ) (e : Entry) (new : State) → FollowsAt config n s store e new → IsTrue (is_sound e.reply)
    → done_by config s store e.call ≡ record { reply = e.reply; new = new }
done_is config n s store e new (inl x) h = ap (λ (o : Option Outcome). unwrap_or o (record { reply = reply.Refused refusal.NoMemory; new = s })) x
done_is config n s store e new (inr fails) h = absurd (failed fails.what (subst (λ (r : Reply). IsTrue (is_sound r)) fails.says h))

-- behind two entries there is no call
pub none_behind : (d : List ℕ → List ℕ) (m : Moment) (q : Item) (stop : Option Stop) (done : List Entry) → 2 ≤ length done → next_call d m q stop done ≡ None
none_behind d m q stop [] h = absurd (omega arith)
none_behind d m q stop (e ∷ []) h = absurd (omega arith)
none_behind d m q stop (e ∷ f ∷ done) h = refl

-- no call: the journal is full, or there is none
ends : (full : Bool) (next : Option Call) (nothing : Made) (go : Call → Made) → (full ≡ true) ⊎ (next ≡ None) → (if full then nothing else given next nothing go) ≡ nothing
ends true next nothing go x = refl
ends false next nothing go (inl e) = cc
ends false next nothing go (inr e) = rw e refl

-- a call
goes : (full : Bool) (next : Option Call) (nothing : Made) (go : Call → Made) (c : Call) → full ≡ false → next ≡ Some c → (if full then nothing else given next nothing go) ≡ go c
goes full next nothing go c a b = rw (a, b) refl

-- why no call follows, where nothing stopped the request
why_ends : (next : Option Call) (room number : ℕ) (stop : Option Stop) → stop ≡ None
    → (next ≡ None) ⊎ ((room ≤ number) ⊎ (stop ≡ Some stops.NoMemory)) → (nat_le room number ≡ true) ⊎ (next ≡ None)
why_ends next room number stop unstopped (inl e) = inr e
why_ends next room number stop unstopped (inr (inl h)) = inl (grind (arith, nat_tests))
why_ends next room number stop unstopped (inr (inr e)) = cc

pub made_is : (more : ℕ) (setting : Setting) (m : Moment) (q : Item) (done : List Entry) (n : ℕ) (s : State) (es : List Entry) (new : State)
    → 2 ≤ length done + more → Makes setting m q None done n s es new → AreSoundEntries es
    → made_in more setting m q done n s ≡ record { entries = es; new = new }
made_is zero setting m q done n s [] new h (x, e) sound = ap (λ (t : State). record { entries = []; new = t }) (sym e)
made_is zero setting m q done n s (e ∷ es) new h (mid, here, rest) sound =
    let none : next_call setting.digest m q None done ≡ None = none_behind setting.digest m q None done (omega arith) in
    let asked : next_call setting.digest m q None done ≡ Some e.call = here.asked in
    cc
made_is (suc more) setting m q done n s [] new h (x, e) sound =
    ends (nat_le setting.room n) (next_call setting.digest m q None done) (record { entries = []; new = s }) _ (why_ends (next_call setting.digest m q None done) setting.room n None refl x)
    ∙ ap (λ (t : State). record { entries = []; new = t }) (sym e)
made_is (suc more) setting m q done n s (e ∷ es) new h (mid, here, rest) (good, sound) =
    let fits : n < setting.room = here.fits in
    let room : nat_le setting.room n ≡ false = grind (arith, nat_tests) in
    let went : done_by setting.config s (store_in done) e.call ≡ record { reply = e.reply; new = mid } = done_is setting.config n s (store_in done) e mid here.follows good in
    let same : entry_of setting.caller e.call (record { reply = e.reply; new = mid }) ≡ e = ap (λ (x : ℕ). record { caller = x; call = e.call; reply = e.reply }) (sym here.caller) in
    let longer : 2 ≤ length (done ++ e ∷ []) + more = simp length-append (omega arith) in
    let put : Outcome → Entry → Made = λ (o : Outcome) (x : Entry). with_entry x (made_in more setting m q (done ++ x ∷ []) (n + 1) o.new) in
    goes (nat_le setting.room n) (next_call setting.digest m q None done) (record { entries = []; new = s })
    (λ (c : Call). put (done_by setting.config s (store_in done) c) (entry_of setting.caller c (done_by setting.config s (store_in done) c))) e.call room here.asked
    ∙ ap (λ (o : Outcome). put o (entry_of setting.caller e.call o)) went
    ∙ ap (put (record { reply = e.reply; new = mid })) same
    ∙ ap (with_entry e) (made_is more setting m q (done ++ e ∷ []) (n + 1) mid es new longer rest sound)
