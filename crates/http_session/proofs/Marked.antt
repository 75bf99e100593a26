-- A session after one mark more.
use Rattle.std.proofs.Common.{◌≡◌, ℕ, List, [], ◌∷◌, ◌++◌, refl, sym, ap, subst, ◌∙◌, append-nil, append_assoc}
use Rattle.session_history.specs.Marks.{Mark}
use Rattle.session_history.specs.Phases.{Phase, between, after, after_all, answer_at, said_in}
use Rattle.session_history.specs.Histories.{IsTextOf, Spans}
use Rattle.http_session.specs.Views.{SessionView}
use Rattle.http_session.specs.Taken.{Past, phase_of, with_mark, StandsAt, Took}

pub after_more : (p : Phase) (marks : List Mark) (m : Mark) → after_all p (marks ++ m ∷ []) ≡ after (after_all p marks) m
after_more p [] m = refl
after_more p (x ∷ marks) m = after_more (after p x) marks m

pub said_more : (p : Phase) (marks : List Mark) (m : Mark) → said_in p (marks ++ m ∷ []) ≡ said_in p marks ++ (answer_at (after_all p marks) m).bytes
said_more p [] m = append-nil (answer_at p m).bytes
said_more p (x ∷ marks) m =
    ap (λ (t : List ℕ). (answer_at p x).bytes ++ t) (said_more (after p x) marks m)
    ∙ sym (append_assoc (answer_at p x).bytes (said_in (after p x) marks) (answer_at (after_all (after p x) marks) m).bytes)

pub spans_more : (p : Phase) (marks : List Mark) (m : Mark) (text prefix : List ℕ) → Spans p marks text → IsTextOf (after_all p marks) m prefix → Spans p (marks ++ m ∷ []) (text ++ prefix)
spans_more p [] m text prefix e is = (prefix, [], ap (λ (u : List ℕ). u ++ prefix) e ∙ sym (append-nil prefix), is, refl)
spans_more p (x ∷ marks) m text prefix s is =
    (s.0, s.1 ++ prefix, ap (λ (u : List ℕ). u ++ prefix) s.2 ∙ append_assoc s.0 s.1 prefix, s.3, spans_more (after p x) marks m s.1 prefix s.4 is)

-- the mark took this prefix of the part that was taken and of what is borrowed and held
pub advance : (s new : SessionView) (fed : List ℕ) (past : Past) (mark : Mark) (prefix : List ℕ) (t : Took s fed past)
    → IsTextOf (phase_of past) mark prefix → t.part ++ (s.borrowed ++ s.held) ≡ prefix ++ (new.borrowed ++ new.held)
    → s.out ≡ [] → new.out ≡ (answer_at (phase_of past) mark).bytes → new.total ≡ s.total → new.longer ≡ s.longer
    → StandsAt (after (phase_of past) mark) new.place new.borrowed new.borrowed
    → Took new fed (with_mark mark past)
advance s new fed past mark prefix t is parts quiet says total longer stands = record {
  text = t.text ++ prefix;
  part = [];
  parts = t.parts ∙ ap (λ (u : List ℕ). t.text ++ u) parts ∙ sym (append_assoc t.text prefix (new.borrowed ++ new.held));
  spans = spans_more between past.marks mark t.text prefix t.spans is;
  stands = subst (λ (p : Phase). StandsAt p new.place new.borrowed new.borrowed) (sym (after_more between past.marks mark)) stands;
  said = said_more between past.marks mark
      ∙ ap (λ (u : List ℕ). u ++ (answer_at (phase_of past) mark).bytes) (t.said ∙ ap (λ (u : List ℕ). past.said ++ u) quiet ∙ append-nil past.said)
      ∙ ap (λ (u : List ℕ). past.said ++ u) (sym says);
  count = total ∙ t.count;
  longer = λ e. t.longer (sym longer ∙ e);
}

pub no_parts : (a b : List ℕ) → a ++ b ≡ [] → (a ≡ []) × (b ≡ [])
no_parts [] b e = (refl, e)
no_parts (x ∷ a) b e = absurd cc

-- an answer, which has no text, where no part of anything was taken
pub answer_took : (s new : SessionView) (fed : List ℕ) (past : Past) (mark : Mark) (t : Took s fed past)
    → IsTextOf (phase_of past) mark [] → t.part ≡ []
    → s.out ≡ [] → new.out ≡ (answer_at (phase_of past) mark).bytes → new.borrowed ++ new.held ≡ s.borrowed ++ s.held → new.total ≡ s.total → new.longer ≡ s.longer
    → StandsAt (after (phase_of past) mark) new.place new.borrowed new.borrowed
    → Took new fed (with_mark mark past)
answer_took s new fed past mark t is none quiet says rest total longer stands =
    advance s new fed past mark [] t is (ap (λ (u : List ℕ). u ++ (s.borrowed ++ s.held)) none ∙ sym rest) quiet says total longer stands
