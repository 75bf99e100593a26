-- A session in a content, after a step.
use Rattle.std.proofs.Common.{◌≡◌, ℕ, Bool, true, false, List, [], ◌++◌, take, drop, refl, sym, ap, subst, ◌∙◌, append-nil, append_assoc}
use Rattle.std.proofs.lemmas.List.{take-append-drop}
use Rattle.http_heads.specs.declared.body_err.BodyErr.{BodyErr}
use Rattle.http_heads.specs.declared.framing.Framing.{Framing}
use Rattle.http_heads.specs.declared.head.Head.{Head}
use Rattle.http_heads.specs.Response.{refused_with, why_body}
use Rattle.http_chunks.specs.Reading as readings
use Rattle.http_requests.specs.Bodies.{HoldsBody}
use Rattle.http_requests.specs.Requests.{stop_of}
use Rattle.session_history.specs.Marks.{content, spoiled}
use Rattle.session_history.specs.Phases.{Phase, inside, after, answer_at}
use Rattle.session_history.specs.Histories.{IsTextOf, HasNoNext, IsHistory}
use Rattle.http_session.specs.declared.body.Body.{Body}
use Rattle.http_session.specs.declared.place.Place.{Place}
use Rattle.http_session.specs.declared.place.Place.TheVariants as places
use Rattle.http_session.specs.Bodies.{IsReading}
use Rattle.http_session.specs.Views.{SessionView}
use Rattle.http_session.specs.Taken.{Past, phase_of, with_mark, StandsAt, Took}
use Rattle.http_session.proofs.Marked.{advance}
use Rattle.http_session.proofs.Places.{at_inside}

-- what the session knows of the content that it reads
pub record InContent (s : SessionView) (fed : List ℕ) (past : Past) (body : Body) (closes : Bool) (t : Took s fed past) : Type 0 where
  pub head : Head
  pub phase : phase_of past ≡ inside head
  pub ends : closes ≡ head.closes
  pub reading : IsReading head.framing body t.part past.came
  pub parts : fed ≡ t.text ++ (t.part ++ s.held)

pub in_content : (s : SessionView) (fed : List ℕ) (past : Past) (body : Body) (closes : Bool) → s.place ≡ places.Inside body closes → s.borrowed ≡ [] → (t : Took s fed past)
    → InContent s fed past body closes t
in_content s fed past body closes is none t =
    let x = at_inside (phase_of past) body closes (t.part ++ s.borrowed) (past.came ++ s.borrowed) (subst (λ (p : Place). StandsAt (phase_of past) p (t.part ++ s.borrowed) (past.came ++ s.borrowed)) is t.stands) in
    let part : t.part ++ s.borrowed ≡ t.part = ap (λ (l : List ℕ). t.part ++ l) none ∙ append-nil t.part in
    let came : past.came ++ s.borrowed ≡ past.came = ap (λ (l : List ℕ). past.came ++ l) none ∙ append-nil past.came in
    record {
      head = x.0;
      phase = x.1;
      ends = x.2;
      reading = subst (λ (l : List ℕ). IsReading x.0.framing body t.part l) came (subst (λ (l : List ℕ). IsReading x.0.framing body l (past.came ++ s.borrowed)) part x.3);
      parts = t.parts ∙ ap (λ (l : List ℕ). t.text ++ (t.part ++ (l ++ s.held))) none;
    }

-- it stands in the content behind a part of which so much is borrowed
stands_in : (p : Phase) (head : Head) (body : Body) (closes : Bool) (part came borrowed : List ℕ) → p ≡ inside head → closes ≡ head.closes → IsReading head.framing body (part ++ borrowed) (came ++ borrowed)
    → StandsAt p (places.Inside body closes) (part ++ borrowed) (came ++ borrowed)
stands_in p head body closes part came borrowed is ends reading =
    subst (λ (q : Phase). StandsAt q (places.Inside body closes) (part ++ borrowed) (came ++ borrowed)) (sym is) (body, ap (λ (b : Bool). places.Inside body b) ends, reading)

-- framing was taken
pub framing_taken : (s : SessionView) (fed : List ℕ) (past : Past) (old new : Body) (closes : Bool) (n : ℕ) → s.place ≡ places.Inside old closes → s.borrowed ≡ []
    → ((framing : Framing) (part came : List ℕ) → IsReading framing old part came → IsReading framing new (part ++ take n s.held) came) → Took s fed past
    → Took (record s { held = drop n s.held; place = places.Inside new closes }) fed past
framing_taken s fed past old new closes n is none reads t =
    let x = in_content s fed past old closes is none t in
    let more : List ℕ = t.part ++ take n s.held in
    let now : IsReading x.head.framing new (more ++ s.borrowed) (past.came ++ s.borrowed) =
    subst (λ (l : List ℕ). IsReading x.head.framing new (more ++ l) (past.came ++ l)) (sym none)
    (subst (λ (l : List ℕ). IsReading x.head.framing new (more ++ []) l) (sym (append-nil past.came)) (subst (λ (l : List ℕ). IsReading x.head.framing new l past.came) (sym (append-nil more)) (reads x.head.framing t.part past.came x.reading))) in
    record {
      text = t.text;
      part = more;
      parts = x.parts ∙ ap (λ (l : List ℕ). t.text ++ (t.part ++ l)) (sym (take-append-drop n s.held)) ∙ ap (λ (l : List ℕ). t.text ++ l) (sym (append_assoc t.part (take n s.held) (drop n s.held)))
          ∙ ap (λ (l : List ℕ). t.text ++ (more ++ (l ++ drop n s.held))) (sym none);
      spans = t.spans;
      stands = stands_in (phase_of past) x.head new closes more past.came s.borrowed x.phase x.ends now;
      said = t.said;
      count = t.count;
      longer = t.longer;
    }

-- content was borrowed
pub content_borrowed : (s : SessionView) (fed : List ℕ) (past : Past) (old new : Body) (closes : Bool) (n : ℕ) → s.place ≡ places.Inside old closes → s.borrowed ≡ []
    → ((framing : Framing) (part came : List ℕ) → IsReading framing old part came → IsReading framing new (part ++ take n s.held) (came ++ take n s.held)) → Took s fed past
    → Took (record s { borrowed = take n s.held; held = drop n s.held; place = places.Inside new closes }) fed past
content_borrowed s fed past old new closes n is none reads t =
    let x = in_content s fed past old closes is none t in
    record {
      text = t.text;
      part = t.part;
      parts = x.parts ∙ ap (λ (l : List ℕ). t.text ++ (t.part ++ l)) (sym (take-append-drop n s.held));
      spans = t.spans;
      stands = stands_in (phase_of past) x.head new closes t.part past.came (take n s.held) x.phase x.ends (reads x.head.framing t.part past.came x.reading);
      said = t.said;
      count = t.count;
      longer = t.longer;
    }

-- the content came whole
pub content_whole : (s : SessionView) (fed : List ℕ) (past : Past) (body : Body) (closes : Bool) → s.place ≡ places.Inside body closes → s.borrowed ≡ [] → s.out ≡ []
    → ((framing : Framing) (part came : List ℕ) → IsReading framing body part came → (more : List ℕ) → HoldsBody framing (part ++ more) (readings.whole came more)) → Took s fed past
    → (head : Head) × (phase_of past ≡ inside head) × Took (record s { place = places.Putting closes }) fed (with_mark (content past.came) past)
content_whole s fed past body closes is none quiet reads t =
    let x = in_content s fed past body closes is none t in
    let new : SessionView = record s { place = places.Putting closes } in (
      x.head,
      x.phase,
      advance s new fed past (content past.came) t.part t (subst (λ (p : Phase). IsTextOf p (content past.came) t.part) (sym x.phase) (reads x.head.framing t.part past.came x.reading)) refl quiet
          (quiet ∙ sym (ap (λ (p : Phase). (answer_at p (content past.came)).bytes) x.phase)) refl refl
          (subst (λ (p : Phase). StandsAt (after p (content past.came)) (places.Putting closes) s.borrowed s.borrowed) (sym x.phase) (ap places.Putting x.ends, none, none)),
    )

-- the content is refused
pub content_spoiled : (s : SessionView) (fed : List ℕ) (past : Past) (body : Body) (closes : Bool) (why : BodyErr) → s.place ≡ places.Inside body closes → s.borrowed ≡ [] → s.out ≡ []
    → ((framing : Framing) (part came : List ℕ) → IsReading framing body part came → (more : List ℕ) → HoldsBody framing ((part ++ s.held) ++ more) (stop_of came why)) → Took s fed past
    → (head : Head) × (phase_of past ≡ inside head)
    × Took (record s { held = []; place = places.Over; out = refused_with false true (why_body why) }) fed (with_mark (spoiled past.came why) past)
content_spoiled s fed past body closes why is none quiet reads t =
    let x = in_content s fed past body closes is none t in
    let new : SessionView = record s { held = []; place = places.Over; out = refused_with false true (why_body why) } in
    let all : t.part ++ (s.borrowed ++ s.held) ≡ (t.part ++ s.held) ++ (s.borrowed ++ []) =
    ap (λ (l : List ℕ). t.part ++ (l ++ s.held)) none ∙ sym (append-nil (t.part ++ s.held)) ∙ ap (λ (l : List ℕ). (t.part ++ s.held) ++ (l ++ [])) (sym none) in (
      x.head,
      x.phase,
      advance s new fed past (spoiled past.came why) (t.part ++ s.held) t
          (subst (λ (p : Phase). IsTextOf p (spoiled past.came why) (t.part ++ s.held)) (sym x.phase) (reads x.head.framing t.part past.came x.reading)) all quiet
          (sym (ap (λ (p : Phase). (answer_at p (spoiled past.came why)).bytes) x.phase)) refl refl
          (subst (λ (p : Phase). StandsAt (after p (spoiled past.came why)) places.Over s.borrowed s.borrowed) (sym x.phase) (refl, none, none)),
    )

-- the content isn't whole
pub content_waits : (s : SessionView) (fed : List ℕ) (past : Past) (body : Body) (closes : Bool) → s.place ≡ places.Inside body closes → s.borrowed ≡ []
    → ((framing : Framing) (part came : List ℕ) → IsReading framing body part came → HoldsBody framing (part ++ s.held) (readings.cut came)) → Took s fed past
    → (head : Head) × (phase_of past ≡ inside head) × IsHistory fed past.marks past.came
content_waits s fed past body closes is none reads t =
    let x = in_content s fed past body closes is none t in (
      x.head,
      x.phase,
      record {
        text = t.text;
        rest = t.part ++ s.held;
        parts = x.parts;
        spans = t.spans;
        rests = subst (λ (p : Phase). HasNoNext p (t.part ++ s.held) past.came) (sym x.phase) (reads x.head.framing t.part past.came x.reading);
      },
    )
