-- A session after an answer.
use Rattle.std.proofs.Common.{◌≡◌, ℕ, Bool, true, false, cond, ◌||◌, not, List, [], ◌++◌, refl, sym, ap, subst, ◌∙◌}
use Rattle.repo_model.specs.declared.reply.Reply.{Reply}
use Rattle.repo_model.specs.declared.reply.Reply.TheVariants as reply
use Rattle.repo_model.specs.declared.transfer.UploadErr.{UploadErr}
use Rattle.http_heads.specs.declared.head.Head.{Head}
use Rattle.http_heads.specs.declared.framing.Framing.{Framing}
use Rattle.http_heads.specs.Response.{refused_with}
use Rattle.http_heads.specs.Cut.{drop_blank}
use Rattle.http_front.specs.Answers.{Answer, begin_refused}
use Rattle.http_front.specs.Asking.{is_head, is_empty}
use Rattle.http_front.specs.Contents.{asset_content}
use Rattle.http_front.specs.Responses.{replied_with}
use Rattle.session_history.specs.Marks.{replied, failed, broke}
use Rattle.http_front.specs.Entries.{is_begun}
use Rattle.session_history.specs.Phases.{Phase, asked, beginning, inside, putting, over, behind, go_on, after, answer_at}
use Rattle.session_history.specs.Histories.{IsTextOf}
use Rattle.session_history.specs.Saying.{why_upload}
use Rattle.http_session.specs.declared.body.Body.{Body}
use Rattle.http_session.specs.declared.place.Place.{Place}
use Rattle.http_session.specs.declared.place.Place.TheVariants as places
use Rattle.http_session.specs.Bodies.{IsReading}
use Rattle.http_session.specs.Views.{SessionView, place_behind, continue_if}
use Rattle.http_session.specs.Taken.{Past, phase_of, with_mark, StandsAt, Took, awaits}
use Rattle.http_session.proofs.Marked.{no_parts, answer_took, advance}
use Rattle.http_session.proofs.Places.{at_asked, at_beginning, at_inside, at_putting, nothing_taken}

-- where a session stands behind an answer, nothing being borrowed
behind_stands : (ends : Bool) (bytes borrowed : List ℕ) → borrowed ≡ [] → StandsAt (behind (record { bytes = bytes; ends = ends })) (place_behind ends) borrowed borrowed
behind_stands true bytes borrowed e = (refl, e, e)
behind_stands false bytes borrowed e = (refl, subst (λ (l : List ℕ). (rest : List ℕ) → drop_blank (l ++ rest) ≡ drop_blank rest) (sym e) (λ rest. refl), e)

no_content : (r : Reply) → asset_content [] r ≡ []
no_content (reply.Found asset) = refl
no_content (reply.Begun store) = refl
no_content (reply.Stored asset) = refl
no_content reply.Gone = refl
no_content reply.Removed = refl
no_content (reply.Reconciled kept) = refl
no_content (reply.Refused r) = refl

-- a reply to a call that isn't the beginning of an upload
pub replied_asked : (s : SessionView) (fed : List ℕ) (past : Past) (bare closes : Bool) (r : Reply) → s.place ≡ places.Asked bare closes → s.out ≡ [] → Took s fed past
    → Took (record s { place = place_behind closes; out = replied_with bare closes [] r }) fed (with_mark (replied r) past)
replied_asked s fed past bare closes r is quiet t =
    let x = at_asked (phase_of past) bare closes (t.part ++ s.borrowed) (past.came ++ s.borrowed) (subst (λ (p : Place). StandsAt (phase_of past) p (t.part ++ s.borrowed) (past.came ++ s.borrowed)) is t.stands) in
    let none = no_parts t.part s.borrowed x.4 in
    let new : SessionView = record s { place = place_behind closes; out = replied_with bare closes [] r } in
    answer_took s new fed past (replied r) t (subst (λ (p : Phase). IsTextOf p (replied r) []) (sym x.1) refl) none.0 quiet
    (subst (λ (p : Phase). replied_with bare closes [] r ≡ (answer_at p (replied r)).bytes) (sym x.1)
    (ap (λ (b : Bool). replied_with b closes [] r) x.2 ∙ ap (λ (b : Bool). replied_with (is_head x.0.method) b [] r) x.3 ∙ ap (λ (c : List ℕ). replied_with (is_head x.0.method) x.0.closes c r) (sym (no_content r))))
    refl refl refl
    (subst (λ (p : Phase). StandsAt (after p (replied r)) (place_behind closes) s.borrowed s.borrowed) (sym x.1)
    (subst (λ (b : Bool). StandsAt (after (asked x.0) (replied r)) (place_behind b) s.borrowed s.borrowed) (sym x.3) (behind_stands x.0.closes (replied_with (is_head x.0.method) x.0.closes (asset_content [] r) r) s.borrowed none.1)))

-- the reply to a put
pub replied_putting : (s : SessionView) (fed : List ℕ) (past : Past) (closes : Bool) (r : Reply) → s.place ≡ places.Putting closes → s.out ≡ [] → Took s fed past
    → Took (record s { place = place_behind closes; out = replied_with false closes [] r }) fed (with_mark (replied r) past)
replied_putting s fed past closes r is quiet t =
    let x = at_putting (phase_of past) closes (t.part ++ s.borrowed) (past.came ++ s.borrowed) (subst (λ (p : Place). StandsAt (phase_of past) p (t.part ++ s.borrowed) (past.came ++ s.borrowed)) is t.stands) in
    let none = no_parts t.part s.borrowed x.3 in
    let new : SessionView = record s { place = place_behind closes; out = replied_with false closes [] r } in
    answer_took s new fed past (replied r) t (subst (λ (p : Phase). IsTextOf p (replied r) []) (sym x.1) refl) none.0 quiet
    (subst (λ (p : Phase). replied_with false closes [] r ≡ (answer_at p (replied r)).bytes) (sym x.1) (ap (λ (b : Bool). replied_with false b [] r) x.2))
    refl refl refl
    (subst (λ (p : Phase). StandsAt (after p (replied r)) (place_behind closes) s.borrowed s.borrowed) (sym x.1)
    (subst (λ (b : Bool). StandsAt (after (putting x.0) (replied r)) (place_behind b) s.borrowed s.borrowed) (sym x.2) (behind_stands x.0.closes (replied_with false x.0.closes [] r) s.borrowed none.1)))

-- an upload was begun
begun_phase : (head : Head) (r : Reply) (b : Bool) → is_begun r ≡ b → after (beginning head) (replied r) ≡ cond b (inside head) (behind (begin_refused head r))
begun_phase head r b e = ap (λ (c : Bool). cond c (inside head) (behind (begin_refused head r))) e

begun_answer : (head : Head) (r : Reply) (b : Bool) → is_begun r ≡ b → answer_at (beginning head) (replied r) ≡ cond b (go_on head) (begin_refused head r)
begun_answer head r b e = ap (λ (c : Bool). cond c (go_on head) (begin_refused head r)) e

pub begun : (s : SessionView) (fed : List ℕ) (past : Past) (framing : Framing) (expects closes : Bool) (body : Body) (r : Reply) → s.place ≡ places.Beginning framing expects closes → s.out ≡ []
    → is_begun r ≡ true → IsReading framing body [] [] → Took s fed past
    → Took (record s { place = places.Inside body closes; out = continue_if expects }) fed (with_mark (replied r) past)
begun s fed past framing expects closes body r is quiet has reading t =
    let x = at_beginning (phase_of past) framing expects closes (t.part ++ s.borrowed) (past.came ++ s.borrowed) (subst (λ (p : Place). StandsAt (phase_of past) p (t.part ++ s.borrowed) (past.came ++ s.borrowed)) is t.stands) in
    let none = no_parts t.part s.borrowed x.5 in
    let new : SessionView = record s { place = places.Inside body closes; out = continue_if expects } in
    let stands : StandsAt (inside x.0) (places.Inside body closes) s.borrowed s.borrowed =
    (body, ap (λ (b : Bool). places.Inside body b) x.4, subst (λ (l : List ℕ). IsReading x.0.framing body l l) (sym none.1) (subst (λ (f : Framing). IsReading f body [] []) x.2 reading)) in
    answer_took s new fed past (replied r) t (subst (λ (p : Phase). IsTextOf p (replied r) []) (sym x.1) refl) none.0 quiet
    (subst (λ (p : Phase). continue_if expects ≡ (answer_at p (replied r)).bytes) (sym x.1) (ap continue_if x.3 ∙ sym (ap (λ (a : Answer). a.bytes) (begun_answer x.0 r true has))))
    refl refl refl
    (subst (λ (p : Phase). StandsAt (after p (replied r)) (places.Inside body closes) s.borrowed s.borrowed) (sym x.1)
    (subst (λ (p : Phase). StandsAt p (places.Inside body closes) s.borrowed s.borrowed) (sym (begun_phase x.0 r true has)) stands))

-- the beginning of an upload was refused
pub begin_denied : (s : SessionView) (fed : List ℕ) (past : Past) (framing : Framing) (expects closes ends : Bool) (r : Reply) → s.place ≡ places.Beginning framing expects closes → s.out ≡ []
    → is_begun r ≡ false → ends ≡ (closes || not (is_empty framing)) → Took s fed past
    → Took (record s { place = place_behind ends; out = replied_with false ends [] r }) fed (with_mark (replied r) past)
begin_denied s fed past framing expects closes ends r is quiet denied e t =
    let x = at_beginning (phase_of past) framing expects closes (t.part ++ s.borrowed) (past.came ++ s.borrowed) (subst (λ (p : Place). StandsAt (phase_of past) p (t.part ++ s.borrowed) (past.came ++ s.borrowed)) is t.stands) in
    let none = no_parts t.part s.borrowed x.5 in
    let new : SessionView = record s { place = place_behind ends; out = replied_with false ends [] r } in
    let same : ends ≡ (x.0.closes || not (is_empty x.0.framing)) = e ∙ ap (λ (b : Bool). b || not (is_empty framing)) x.4 ∙ ap (λ (f : Framing). x.0.closes || not (is_empty f)) x.2 in
    answer_took s new fed past (replied r) t (subst (λ (p : Phase). IsTextOf p (replied r) []) (sym x.1) refl) none.0 quiet
    (subst (λ (p : Phase). replied_with false ends [] r ≡ (answer_at p (replied r)).bytes) (sym x.1)
    (ap (λ (b : Bool). replied_with false b [] r) same ∙ sym (ap (λ (a : Answer). a.bytes) (begun_answer x.0 r false denied))))
    refl refl refl
    (subst (λ (p : Phase). StandsAt (after p (replied r)) (place_behind ends) s.borrowed s.borrowed) (sym x.1)
    (subst (λ (p : Phase). StandsAt p (place_behind ends) s.borrowed s.borrowed) (sym (begun_phase x.0 r false denied))
    (subst (λ (b : Bool). StandsAt (behind (begin_refused x.0 r)) (place_behind b) s.borrowed s.borrowed) (sym same)
    (behind_stands (x.0.closes || not (is_empty x.0.framing)) (begin_refused x.0 r).bytes s.borrowed none.1))))

-- ---- failures

ended : SessionView → Bool → UploadErr → SessionView
ended s bare why = record s { borrowed = []; held = s.borrowed ++ s.held; place = places.Over; out = refused_with bare true (why_upload why) }

-- a failure in the place of a reply, by the phase
failed_at : (s : SessionView) (fed : List ℕ) (past : Past) (bare : Bool) (why : UploadErr) (t : Took s fed past) (p : Phase) → phase_of past ≡ p → IsTextOf p (failed why) []
    → t.part ≡ [] → s.out ≡ [] → refused_with bare true (why_upload why) ≡ (answer_at p (failed why)).bytes → after p (failed why) ≡ over → Took (ended s bare why) fed (with_mark (failed why) past)
unfolding ended
failed_at s fed past bare why t p is text none quiet says ends =
    answer_took s (ended s bare why) fed past (failed why) t (subst (λ (q : Phase). IsTextOf q (failed why) []) (sym is) text) none quiet
    (subst (λ (q : Phase). refused_with bare true (why_upload why) ≡ (answer_at q (failed why)).bytes) (sym is) says)
    refl refl refl
    (subst (λ (q : Phase). StandsAt q places.Over [] []) (sym (ap (λ (q : Phase). after q (failed why)) is ∙ ends)) (refl, refl, refl))

pub failed_asked : (s : SessionView) (fed : List ℕ) (past : Past) (bare closes : Bool) (why : UploadErr) → s.place ≡ places.Asked bare closes → s.out ≡ [] → Took s fed past
    → Took (record s { borrowed = []; held = s.borrowed ++ s.held; place = places.Over; out = refused_with bare true (why_upload why) }) fed (with_mark (failed why) past)
unfolding ended
failed_asked s fed past bare closes why is quiet t =
    let x = at_asked (phase_of past) bare closes (t.part ++ s.borrowed) (past.came ++ s.borrowed) (subst (λ (p : Place). StandsAt (phase_of past) p (t.part ++ s.borrowed) (past.came ++ s.borrowed)) is t.stands) in
    failed_at s fed past bare why t (asked x.0) x.1 refl (no_parts t.part s.borrowed x.4).0 quiet (ap (λ (b : Bool). refused_with b true (why_upload why)) x.2) refl

pub failed_beginning : (s : SessionView) (fed : List ℕ) (past : Past) (framing : Framing) (expects closes : Bool) (why : UploadErr) → s.place ≡ places.Beginning framing expects closes → s.out ≡ []
    → Took s fed past
    → Took (record s { borrowed = []; held = s.borrowed ++ s.held; place = places.Over; out = refused_with false true (why_upload why) }) fed (with_mark (failed why) past)
unfolding ended
failed_beginning s fed past framing expects closes why is quiet t =
    let x = at_beginning (phase_of past) framing expects closes (t.part ++ s.borrowed) (past.came ++ s.borrowed) (subst (λ (p : Place). StandsAt (phase_of past) p (t.part ++ s.borrowed) (past.came ++ s.borrowed)) is t.stands) in
    failed_at s fed past false why t (beginning x.0) x.1 refl (no_parts t.part s.borrowed x.5).0 quiet refl refl

pub failed_putting : (s : SessionView) (fed : List ℕ) (past : Past) (closes : Bool) (why : UploadErr) → s.place ≡ places.Putting closes → s.out ≡ [] → Took s fed past
    → Took (record s { borrowed = []; held = s.borrowed ++ s.held; place = places.Over; out = refused_with false true (why_upload why) }) fed (with_mark (failed why) past)
unfolding ended
failed_putting s fed past closes why is quiet t =
    let x = at_putting (phase_of past) closes (t.part ++ s.borrowed) (past.came ++ s.borrowed) (subst (λ (p : Place). StandsAt (phase_of past) p (t.part ++ s.borrowed) (past.came ++ s.borrowed)) is t.stands) in
    failed_at s fed past false why t (putting x.0) x.1 refl (no_parts t.part s.borrowed x.3).0 quiet refl refl

-- the upload broke while its content came
pub broke_inside : (s : SessionView) (fed : List ℕ) (past : Past) (body : Body) (closes : Bool) (why : UploadErr) → s.place ≡ places.Inside body closes → s.out ≡ [] → Took s fed past
    → Took (record s { borrowed = []; held = s.borrowed ++ s.held; place = places.Over; out = refused_with false true (why_upload why) }) fed (with_mark (broke why) past)
broke_inside s fed past body closes why is quiet t =
    let x = at_inside (phase_of past) body closes (t.part ++ s.borrowed) (past.came ++ s.borrowed) (subst (λ (p : Place). StandsAt (phase_of past) p (t.part ++ s.borrowed) (past.came ++ s.borrowed)) is t.stands) in
    let new : SessionView = record s { borrowed = []; held = s.borrowed ++ s.held; place = places.Over; out = refused_with false true (why_upload why) } in
    advance s new fed past (broke why) t.part t (subst (λ (p : Phase). IsTextOf p (broke why) t.part) (sym x.1) tt) refl quiet
    (subst (λ (p : Phase). refused_with false true (why_upload why) ≡ (answer_at p (broke why)).bytes) (sym x.1) refl)
    refl refl
    (subst (λ (p : Phase). StandsAt (after p (broke why)) places.Over [] []) (sym x.1) (refl, refl, refl))

-- ---- where the phase isn't that of the place

pub not_awaits : (p : Phase) (body : Body) (closes : Bool) (part came : List ℕ) → StandsAt p (places.Inside body closes) part came → awaits p ≡ true → ⊥
not_awaits p body closes part came x due =
    let e : false ≡ true = sym (ap awaits (at_inside p body closes part came x).1) ∙ due in
    absurd cc

-- where an answer comes next nothing is borrowed, nor behind a change that lends nothing
pub none_borrowed : (s new : SessionView) (fed : List ℕ) (past : Past) → new.borrowed ≡ s.borrowed → Took s fed past → awaits (phase_of past) ≡ true → new.borrowed ≡ []
none_borrowed s new fed past same t due =
    same ∙ (no_parts t.part s.borrowed (nothing_taken (phase_of past) s.place (t.part ++ s.borrowed) (past.came ++ s.borrowed) due t.stands)).1
