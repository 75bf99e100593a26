-- A session between requests, after a step.
use Rattle.std.proofs.Common.{◌≡◌, ℕ, Bool, true, cond, List, [], ◌++◌, take, drop, refl, sym, ap, subst, ◌∙◌, append-nil, append_assoc}
use Rattle.std.proofs.lemmas.List.{take-append-drop}
use Rattle.http_heads.specs.declared.head.Head.{Head}
use Rattle.http_heads.specs.declared.head_err.HeadErr.{HeadErr}
use Rattle.http_heads.specs.declared.method.Method.{Method}
use Rattle.http_heads.specs.declared.method.Method.TheVariants as methods
use Rattle.http_heads.specs.Cut.{drop_blank}
use Rattle.http_heads.specs.Head.{is_put}
use Rattle.http_heads.specs.Response.{refused_with, why_head}
use Rattle.http_front.specs.Asking.{is_head}
use Rattle.http_front.specs.Looks.{IsLook}
use Rattle.http_front.specs.declared.look.Look.TheVariants as looks
use Rattle.http_front.specs.Skips.{IsBlank}
use Rattle.http_front.proofs.Blanks.{blank_prefix, splits, is_blank}
use Rattle.http_front.proofs.Seeks.{joined, keeps_prefix, behind, all_behind, some_request}
use Rattle.http_requests.specs.Heads.{Accepts, IsRefused}
use Rattle.session_history.specs.Marks.{accepted, refused}
use Rattle.session_history.specs.Phases.{Phase, between, asked, beginning, after, answer_at}
use Rattle.session_history.specs.Histories.{IsTextOf, HasNoNext, IsHistory}
use Rattle.http_session.specs.declared.place.Place.{Place}
use Rattle.http_session.specs.declared.place.Place.TheVariants as places
use Rattle.http_session.specs.Views.{SessionView, place_of}
use Rattle.http_session.specs.Taken.{Past, phase_of, with_mark, StandsAt, Took}
use Rattle.http_session.proofs.Marked.{advance}
use Rattle.http_session.proofs.Places.{at_between}

-- what the session knows between requests
pub record InBetween (s : SessionView) (fed : List ℕ) (past : Past) (t : Took s fed past) : Type 0 where
  pub phase : phase_of past ≡ between
  pub blank : IsBlank t.part
  pub none : past.came ≡ []
  pub parts : fed ≡ t.text ++ (t.part ++ s.held)

pub in_between : (s : SessionView) (fed : List ℕ) (past : Past) → s.place ≡ places.Between → s.borrowed ≡ [] → (t : Took s fed past) → InBetween s fed past t
in_between s fed past is none t =
    let x = at_between (phase_of past) (t.part ++ s.borrowed) (past.came ++ s.borrowed) (subst (λ (p : Place). StandsAt (phase_of past) p (t.part ++ s.borrowed) (past.came ++ s.borrowed)) is t.stands) in
    record {
      phase = x.0;
      blank = subst IsBlank (ap (λ (l : List ℕ). t.part ++ l) none ∙ append-nil t.part) x.1;
      none = sym (ap (λ (l : List ℕ). past.came ++ l) none ∙ append-nil past.came) ∙ x.2;
      parts = t.parts ∙ ap (λ (l : List ℕ). t.text ++ (t.part ++ (l ++ s.held))) none;
    }

-- line ends were taken
pub blank_taken : (s : SessionView) (fed : List ℕ) (past : Past) → s.place ≡ places.Between → s.borrowed ≡ [] → Took s fed past
    → Took (record s { held = drop_blank s.held }) fed past
blank_taken s fed past is none t =
    let x = in_between s fed past is none t in
    let prefix : List ℕ = blank_prefix s.held in
    let more : List ℕ = t.part ++ prefix in
    let blank : IsBlank (more ++ s.borrowed) = subst IsBlank (sym (ap (λ (l : List ℕ). more ++ l) none ∙ append-nil more)) (joined t.part prefix x.blank (is_blank s.held)) in
    record {
      text = t.text;
      part = more;
      parts = x.parts ∙ ap (λ (l : List ℕ). t.text ++ (t.part ++ l)) (splits s.held) ∙ ap (λ (l : List ℕ). t.text ++ l) (sym (append_assoc t.part prefix (drop_blank s.held)))
          ∙ ap (λ (l : List ℕ). t.text ++ (more ++ (l ++ drop_blank s.held))) (sym none);
      spans = t.spans;
      stands = subst (λ (p : Phase). StandsAt p s.place (more ++ s.borrowed) (past.came ++ s.borrowed)) (sym x.phase)
          (is, blank, ap (λ (l : List ℕ). past.came ++ l) none ∙ append-nil past.came ∙ x.none);
      said = t.said;
      count = t.count;
      longer = t.longer;
    }

-- where a session stands behind a head, by its method
stands_head : (head : Head) (m : Method) (borrowed : List ℕ) → head.method ≡ m → borrowed ≡ [] → StandsAt (cond (is_put m) (beginning head) (asked head)) (place_of head m) borrowed borrowed
stands_head head methods.Get borrowed e none = (ap (λ (b : Bool). places.Asked b head.closes) (sym (ap is_head e)), none, none)
stands_head head methods.Head borrowed e none = (ap (λ (b : Bool). places.Asked b head.closes) (sym (ap is_head e)), none, none)
stands_head head methods.Put borrowed e none = (refl, none, none)
stands_head head methods.Delete borrowed e none = (ap (λ (b : Bool). places.Asked b head.closes) (sym (ap is_head e)), none, none)

quiet_head : (m : Method) (head : Head) → (answer_at between (accepted head)).bytes ≡ []
quiet_head m head = refl

-- an accepted head was taken
pub head_taken : (s : SessionView) (fed : List ℕ) (past : Past) (head : Head) (n : ℕ) → s.place ≡ places.Between → s.borrowed ≡ [] → s.out ≡ [] → drop_blank s.held ≡ s.held
    → IsLook s.held (looks.Head head n) → Took s fed past
    → (phase_of past ≡ between) × (past.came ≡ []) × Took (record s { held = drop n s.held; place = place_of head head.method }) fed (with_mark (accepted head) past)
head_taken s fed past head n is none quiet still look t =
    let x = in_between s fed past is none t in
    let new : SessionView = record s { held = drop n s.held; place = place_of head head.method } in
    let prefix : List ℕ = t.part ++ take n s.held in
    let all : t.part ++ (s.borrowed ++ s.held) ≡ prefix ++ (s.borrowed ++ drop n s.held) =
    ap (λ (l : List ℕ). t.part ++ (l ++ s.held)) none ∙ ap (λ (l : List ℕ). t.part ++ l) (sym (take-append-drop n s.held)) ∙ sym (append_assoc t.part (take n s.held) (drop n s.held))
    ∙ ap (λ (l : List ℕ). prefix ++ (l ++ drop n s.held)) (sym none) in
    let text : (more : List ℕ) → Accepts (drop_blank (prefix ++ more)) head more =
    λ more. subst (λ (l : List ℕ). Accepts l head more) (sym (behind t.part (take n s.held) more x.blank (keeps_prefix s.held more n still look.0 look.1))) (look.3 more) in (
      x.phase,
      x.none,
      advance s new fed past (accepted head) prefix t (subst (λ (p : Phase). IsTextOf p (accepted head) prefix) (sym x.phase) text) all quiet
          (quiet ∙ sym (ap (λ (p : Phase). (answer_at p (accepted head)).bytes) x.phase)) refl refl
          (subst (λ (p : Phase). StandsAt (after p (accepted head)) (place_of head head.method) s.borrowed s.borrowed) (sym x.phase) (stands_head head head.method s.borrowed refl none)),
    )

-- a head was refused
pub head_refused : (s : SessionView) (fed : List ℕ) (past : Past) (why : HeadErr) (bare : Bool) → s.place ≡ places.Between → s.borrowed ≡ [] → s.out ≡ [] → drop_blank s.held ≡ s.held
    → IsLook s.held (looks.Refused why bare) → Took s fed past
    → (phase_of past ≡ between) × Took (record s { held = []; place = places.Over; out = refused_with bare true (why_head why) }) fed (with_mark (refused why bare) past)
head_refused s fed past why bare is none quiet still look t =
    let x = in_between s fed past is none t in
    let new : SessionView = record s { held = []; place = places.Over; out = refused_with bare true (why_head why) } in
    let prefix : List ℕ = t.part ++ s.held in
    let all : t.part ++ (s.borrowed ++ s.held) ≡ prefix ++ (s.borrowed ++ []) =
    ap (λ (l : List ℕ). t.part ++ (l ++ s.held)) none ∙ sym (append-nil prefix) ∙ ap (λ (l : List ℕ). prefix ++ (l ++ [])) (sym none) in
    let text : (more : List ℕ) → IsRefused (drop_blank (prefix ++ more)) why bare =
    λ more. subst (λ (l : List ℕ). IsRefused l why bare) (sym (all_behind t.part s.held more x.blank still look.0)) (look.1 more) in (
      x.phase,
      advance s new fed past (refused why bare) prefix t (subst (λ (p : Phase). IsTextOf p (refused why bare) prefix) (sym x.phase) text) all quiet
          (sym (ap (λ (p : Phase). (answer_at p (refused why bare)).bytes) x.phase)) refl refl
          (subst (λ (p : Phase). StandsAt (after p (refused why bare)) places.Over s.borrowed s.borrowed) (sym x.phase) (refl, none, none)),
    )

-- no head is there
pub head_waits : (s : SessionView) (fed : List ℕ) (past : Past) → s.place ≡ places.Between → s.borrowed ≡ [] → drop_blank s.held ≡ s.held → IsLook s.held looks.Open → Took s fed past
    → (phase_of past ≡ between) × IsHistory fed past.marks past.came
head_waits s fed past is none still look t =
    let x = in_between s fed past is none t in (
      x.phase,
      record {
        text = t.text;
        rest = t.part ++ s.held;
        parts = x.parts;
        spans = t.spans;
        rests = subst (λ (p : Phase). HasNoNext p (t.part ++ s.held) past.came) (sym x.phase) (some_request (t.part ++ s.held) s.held (x.blank s.held ∙ still) look.0 look.1, x.none);
      },
    )
