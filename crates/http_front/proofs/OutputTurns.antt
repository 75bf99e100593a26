-- What the one-thread repository makes of requests are turns.
use Rattle.std.proofs.Common.{◌≡◌, ℕ, zero, suc, ◌+◌, ◌<◌, ◌≤◌, Bool, true, false, if◌then◌else◌, nat_le, List, [], ◌∷◌, ◌++◌, length, Option, Some, None, unwrap_or, refl, ap, inl, inr, arith, length-append}
use Rattle.std.proofs.lemmas.Bool.Decides.{nat_tests}
use Rattle.nx_base.specs.Given.{given}
use Rattle.nx_base.specs.declared.moment.Moment.{Moment}
use Rattle.repo_model.specs.declared.call.Call.{Call}
use Rattle.repo_model.specs.declared.entry.Entry.{Entry}
use Rattle.repo_model.specs.declared.reply.Cause.{Cause}
use Rattle.repo_model.specs.declared.reply.Fault.TheVariants as fault
use Rattle.repo_model.specs.declared.reply.Refusal.TheVariants as refusal
use Rattle.repo_model.specs.declared.reply.Reply.TheVariants as reply
use Rattle.repo_model.specs.Config.{Config}
use Rattle.repo_model.specs.State.{State}
use Rattle.repo_model.specs.Outcome.{Outcome}
use Rattle.repo_model.specs.Outcome as outcomes
use Rattle.repo_model.specs.Step.{sound_outcome, outcome}
use Rattle.http_requests.specs.Requests.{Item}
use Rattle.http_front.specs.Contents.{Contents}
use Rattle.http_front.specs.Calls.{next_call, store_in}
use Rattle.http_front.specs.Turns.{Setting, Turn, FollowsAt, Makes, IsTurn, contents_after, turn_answer}
use Rattle.http_front.specs.Output.{done_by, entry_of, Made, with_entry, made_in, made_by, Output, at_end, in_front, output_of}
use Rattle.http_front.specs.TurnLaws.{AllServed, IsOfTurns}
use Rattle.http_front.proofs.Made.{none_behind}
use Rattle.http_front.proofs.SoundTurns.{in_front_is}

-- where a call has no outcome, nothing is broken
sound : (config : Config) (s : State) (store : List ℕ) (c : Call) → outcome config s store c ≡ None → s.broken ≡ None
unfolding outcome
sound config s store c e = whole s.broken e where
  whole : (broken : Option Cause) → given broken (sound_outcome config s store c) (λ cause. outcomes.refused s (refusal.Broken cause)) ≡ None → broken ≡ None
  whole None e = refl
  whole (Some cause) e = cc

-- what is answered follows
answered : (caller : ℕ) (config : Config) (n : ℕ) (s : State) (store : List ℕ) (c : Call) (o : Option Outcome) → outcome config s store c ≡ o
    → FollowsAt config n s store (entry_of caller c (unwrap_or o (record { reply = reply.Refused refusal.NoMemory; new = s }))) (unwrap_or o (record { reply = reply.Refused refusal.NoMemory; new = s })).new
answered caller config n s store c (Some o) e = inl e
answered caller config n s store c None e = inr (record { what = fault.Memory; says = refl; sound = sound config s store c e; leaves = inl refl })

-- the entry of a call
abbrev entry : Setting → List Entry → State → Call → Entry
entry setting done s c = entry_of setting.caller c (done_by setting.config s (store_in done) c)

-- what is made by whether the journal is full, and by the next call
abbrev chosen : ℕ → Setting → Moment → Item → List Entry → ℕ → State → Bool → Option Call → Made
chosen more setting m q done n s full next =
    let nothing : Made = record { entries = []; new = s } in
    if full then nothing else given next nothing (λ c.
    with_entry (entry setting done s c)
    (made_in more setting m q (done ++ entry setting done s c ∷ []) (n + 1) (done_by setting.config s (store_in done) c).new))

by_tests : (more : ℕ) (setting : Setting) (m : Moment) (q : Item) (done : List Entry) (n : ℕ) (s : State)
    → ((e : Entry) (t : State) → Makes setting m q None (done ++ e ∷ []) (n + 1) t (made_in more setting m q (done ++ e ∷ []) (n + 1) t).entries (made_in more setting m q (done ++ e ∷ []) (n + 1) t).new)
    → (full : Bool) (next : Option Call) → nat_le setting.room n ≡ full → next_call setting.digest m q None done ≡ next
    → Makes setting m q None done n s (chosen more setting m q done n s full next).entries (chosen more setting m q done n s full next).new
by_tests more setting m q done n s go true next a b = (inr (inl (grind (arith, nat_tests))), refl)
by_tests more setting m q done n s go false None a b = (inl b, refl)
by_tests more setting m q done n s go false (Some c) a b =
    let room : n < setting.room = grind (arith, nat_tests) in (
      (done_by setting.config s (store_in done) c).new,
      record { asked = b; caller = refl; fits = room; follows = answered setting.caller setting.config n s (store_in done) c _ refl },
      go (entry setting done s c) (done_by setting.config s (store_in done) c).new,
    )

pub made_makes : (more : ℕ) (setting : Setting) (m : Moment) (q : Item) (done : List Entry) (n : ℕ) (s : State) → 2 ≤ length done + more
    → Makes setting m q None done n s (made_in more setting m q done n s).entries (made_in more setting m q done n s).new
made_makes zero setting m q done n s h = (inl (none_behind setting.digest m q None done (omega arith)), refl)
made_makes (suc more) setting m q done n s h =
    by_tests more setting m q done n s (λ e t. made_makes more setting m q (done ++ e ∷ []) (n + 1) t (simp length-append (omega arith)))
    (nat_le setting.room n) (next_call setting.digest m q None done) refl refl

-- a turn in front of the rest of a run, or alone where it ends the session
first : (b : Bool) (setting : Setting) (n number : ℕ) (s mid : State) (k : Contents) (t : Turn) (qs : List Item) (tail : Output) → (turn_answer k t).ends ≡ b
    → IsTurn setting n number s k t mid
    → (b ≡ false → IsOfTurns tail setting (n + 1) (number + length t.entries) mid (contents_after t k) qs)
    → IsOfTurns (in_front t.entries (turn_answer k t) (if b then at_end true mid (contents_after t k) else tail)) setting n number s k (t.request ∷ qs)
first true setting n number s mid k t qs tail e is rest = record {
  turns = t ∷ [];
  rest = qs;
  parts = refl;
  all = λ x. cc;
  are = (mid, is, inr refl, (refl, refl));
  is = record { entries = refl; bytes = refl; new_is = refl; contents_are = refl };
}
first false setting n number s mid k t qs tail e is rest =
    let r : IsOfTurns tail setting (n + 1) (number + length t.entries) mid (contents_after t k) qs = rest refl in
    record {
      turns = t ∷ r.turns;
      rest = r.rest;
      parts = ap (λ (x : List Item). t.request ∷ x) r.parts;
      all = r.all;
      are = (mid, is, inl e, r.are);
      is = in_front_is t r.turns tail.new k tail.contents tail r.is;
    }

pub output_turns : (qs : List Item) (setting : Setting) (n number : ℕ) (s : State) (k : Contents)
    → AllServed setting n number s k qs → IsOfTurns (output_of setting n number s k qs) setting n number s k qs
output_turns [] setting n number s k served = record {
  turns = [];
  rest = [];
  parts = refl;
  all = λ e. refl;
  are = (refl, refl);
  is = record { entries = refl; bytes = refl; new_is = refl; contents_are = refl };
}
output_turns (q ∷ qs) setting n number s k (here, later) =
    let made : Made = made_by setting (setting.draws n) q number s in
    let t : Turn = record { request = q; stop = None; entries = made.entries } in
    let is : IsTurn setting n number s k t made.new = record { makes = made_makes 2 setting (setting.draws n) q [] number s (omega arith); stops = tt; served = here } in
    first (turn_answer k t).ends setting n number s made.new k t qs _ refl is
    (λ e. output_turns qs setting (n + 1) (number + length made.entries) made.new (contents_after t k) (later e))
