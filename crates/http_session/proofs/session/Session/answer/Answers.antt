use Rattle.http_front.specs.Entries.{is_begun}
use Rattle.std.proofs.Common.{◌≡◌, ℕ, List, [], take, refl, sym, ap, subst, ◌∙◌, false}
use Rattle.repo_model.specs.declared.reply.Reply.{Reply}
use Rattle.repo_model.specs.declared.reply.Reply.TheVariants as reply
use Rattle.session_history.specs.Marks.{replied}
use Rattle.http_session.specs.declared.place.Place.TheVariants as places
use Rattle.http_session.specs.Views.{SessionView, awaits_at}
use Rattle.http_session.specs.Taken.{Took, with_mark}
use Rattle.http_session.proofs.Replied.{replied_asked, replied_putting, begun, begin_denied, none_borrowed}
use Rattle.http_session.proofs.session.Session.answer.Goals as goal

pub returns-in-Asked-clause-answered : goal.returns-in-Asked-clause-answered
returns-in-Asked-clause-answered c fed past took due =
    let s = c.args.self.now in
    let in_place : s.place ≡ places.Asked c.in-Asked.bare c.in-Asked.closes = sym (ap (λ (v : SessionView). v.place) c.self.view_is) ∙ c.in-Asked.is in
    let quiet : s.out ≡ [] = sym (ap (λ (v : SessionView). v.out) c.self.view_is) ∙ ap (λ (n : ℕ). take n c.self.inside.out) (c.self.invariant.5 (ap awaits_at c.in-Asked.is)) in
    subst (λ (v : SessionView). Took v fed (with_mark (replied c.args.reply.now) past)) (sym c.say_reply.ensures)
    (replied_asked s fed past c.in-Asked.bare c.in-Asked.closes c.args.reply.now in_place quiet took)

pub returns-in-Putting-clause-answered : goal.returns-in-Putting-clause-answered
returns-in-Putting-clause-answered c fed past took due =
    let s = c.args.self.now in
    let in_place : s.place ≡ places.Putting c.in-Putting.closes = sym (ap (λ (v : SessionView). v.place) c.self.view_is) ∙ c.in-Putting.is in
    let quiet : s.out ≡ [] = sym (ap (λ (v : SessionView). v.out) c.self.view_is) ∙ ap (λ (n : ℕ). take n c.self.inside.out) (c.self.invariant.5 (ap awaits_at c.in-Putting.is)) in
    subst (λ (v : SessionView). Took v fed (with_mark (replied c.args.reply.now) past)) (sym c.say_reply-in-Putting.ensures)
    (replied_putting s fed past c.in-Putting.closes c.args.reply.now in_place quiet took)

pub returns-in-Begun-clause-answered : goal.returns-in-Begun-clause-answered
returns-in-Begun-clause-answered c fed past took due =
    let s = c.args.self.now in
    let in_place : s.place ≡ places.Beginning c.in-Beginning.framing c.in-Beginning.expects c.in-Beginning.closes = sym (ap (λ (v : SessionView). v.place) c.self.view_is) ∙ c.in-Beginning.is in
    let quiet : s.out ≡ [] = sym (ap (λ (v : SessionView). v.out) c.self.view_is) ∙ ap (λ (n : ℕ). take n c.self.inside.out) (c.self.invariant.5 (ap awaits_at c.in-Beginning.is)) in
    let is = c.go_on.ensures in
    subst (λ (v : SessionView). Took v fed (with_mark (replied c.args.reply.now) past)) (sym is.2)
    (begun s fed past c.in-Beginning.framing c.in-Beginning.expects c.in-Beginning.closes is.0 c.args.reply.now in_place quiet (ap is_begun c.in-Begun.is) is.1 took)

-- any other reply begins no upload
no_begun : (r : Reply) → ((store : List ℕ) → r ≡ reply.Begun store → ⊥) → is_begun r ≡ false
no_begun (reply.Found asset) n = refl
no_begun (reply.Begun store) n = absurd (n store refl)
no_begun (reply.Stored asset) n = refl
no_begun reply.Gone n = refl
no_begun reply.Removed n = refl
no_begun (reply.Reconciled kept) n = refl
no_begun (reply.Refused r) n = refl

pub returns-in_default-clause-answered : goal.returns-in_default-clause-answered
returns-in_default-clause-answered c fed past took due =
    let s = c.args.self.now in
    let in_place : s.place ≡ places.Beginning c.in-Beginning.framing c.in-Beginning.expects c.in-Beginning.closes = sym (ap (λ (v : SessionView). v.place) c.self.view_is) ∙ c.in-Beginning.is in
    let quiet : s.out ≡ [] = sym (ap (λ (v : SessionView). v.out) c.self.view_is) ∙ ap (λ (n : ℕ). take n c.self.inside.out) (c.self.invariant.5 (ap awaits_at c.in-Beginning.is)) in
    subst (λ (v : SessionView). Took v fed (with_mark (replied c.args.reply.now) past)) (sym c.say_reply-in_default.ensures)
    (begin_denied s fed past c.in-Beginning.framing c.in-Beginning.expects c.in-Beginning.closes c.ends_unread-ends.result c.args.reply.now in_place quiet (no_begun c.args.reply.now c.in_default.not-Begun) c.ends_unread-ends.ensures took)

pub returns-in-Asked-clause-none_borrowed : goal.returns-in-Asked-clause-none_borrowed
returns-in-Asked-clause-none_borrowed c fed past took due = none_borrowed c.args.self.now c.say_reply.new.self fed past (ap (λ (v : SessionView). v.borrowed) c.say_reply.ensures) took due

pub returns-in-Putting-clause-none_borrowed : goal.returns-in-Putting-clause-none_borrowed
returns-in-Putting-clause-none_borrowed c fed past took due = none_borrowed c.args.self.now c.say_reply-in-Putting.new.self fed past (ap (λ (v : SessionView). v.borrowed) c.say_reply-in-Putting.ensures) took due

pub returns-in_default-clause-none_borrowed : goal.returns-in_default-clause-none_borrowed
returns-in_default-clause-none_borrowed c fed past took due = none_borrowed c.args.self.now c.say_reply-in_default.new.self fed past (ap (λ (v : SessionView). v.borrowed) c.say_reply-in_default.ensures) took due

pub returns-in-Begun-clause-none_borrowed : goal.returns-in-Begun-clause-none_borrowed
returns-in-Begun-clause-none_borrowed c fed past took due = none_borrowed c.args.self.now c.go_on.new.self fed past (ap (λ (v : SessionView). v.borrowed) c.go_on.ensures.2) took due
