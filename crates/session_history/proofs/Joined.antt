-- Marks that follow on others: where the session stands, what it says, and of which text and which requests they are.
use Rattle.std.proofs.Common.{◌≡◌, ℕ, List, [], ◌∷◌, ◌++◌, refl, sym, ap, subst, ◌∙◌, append-nil, append_assoc}
use Rattle.http_requests.specs.Requests.{Item}
use Rattle.session_history.specs.Marks.{Mark}
use Rattle.session_history.specs.Phases.{Phase, between, after, after_all, answer_at, said_in}
use Rattle.session_history.specs.Histories.{Spans}
use Rattle.session_history.specs.Requests.{ended_at, open_in, requests_in}

-- the session stands behind both where it stands behind the second, from behind the first
pub after_joined : (p : Phase) (prefix more : List Mark) → after_all p (prefix ++ more) ≡ after_all (after_all p prefix) more
after_joined p [] more = refl
after_joined p (mark ∷ prefix) more = after_joined (after p mark) prefix more

-- what is said at both is what is said at the first, and then at the second
pub said_joined : (p : Phase) (prefix more : List Mark) → said_in p (prefix ++ more) ≡ said_in p prefix ++ said_in (after_all p prefix) more
said_joined p [] more = refl
said_joined p (mark ∷ prefix) more =
    ap (λ (t : List ℕ). (answer_at p mark).bytes ++ t) (said_joined (after p mark) prefix more)
    ∙ sym (append_assoc (answer_at p mark).bytes (said_in (after p mark) prefix) (said_in (after_all (after p mark) prefix) more))

-- what is said at marks with one more is what is said at them, and then at that one
pub out_of : (p : Phase) (marks : List Mark) (mark : Mark) → said_in p (marks ++ mark ∷ []) ≡ said_in p marks ++ (answer_at (after_all p marks) mark).bytes
out_of p marks mark =
    said_joined p marks (mark ∷ []) ∙ ap (λ (t : List ℕ). said_in p marks ++ t) (append-nil (answer_at (after_all p marks) mark).bytes)

-- a text of both is a text of the first, and then one of the second
pub spans_joined : (p : Phase) (prefix more : List Mark) (text : List ℕ) → Spans p (prefix ++ more) text
    → (first : List ℕ) × (rest : List ℕ) × (text ≡ first ++ rest) × Spans p prefix first × Spans (after_all p prefix) more rest
spans_joined p [] more text s = ([], text, refl, refl, s)
spans_joined p (mark ∷ prefix) more text (here, behind, halves, is_text, spans) =
    let x = spans_joined (after p mark) prefix more behind spans in
    (here ++ x.0, x.1, halves ∙ ap (λ (t : List ℕ). here ++ t) x.2 ∙ sym (append_assoc here x.0 x.1), (here, x.0, refl, is_text, x.3), x.4)

-- behind marks that end between requests, the requests of both are those of the first, and then those of the second
pub requests_joined : (p : Phase) (prefix more : List Mark) (came : List ℕ) → after_all p prefix ≡ between
    → requests_in p (prefix ++ more) came ≡ requests_in p prefix [] ++ requests_in between more came
requests_joined p [] more came e =
    subst (λ (q : Phase). requests_in q more came ≡ open_in q [] ++ requests_in between more came) (sym e) refl
requests_joined p (mark ∷ prefix) more came e =
    ap (λ (items : List Item). ended_at p mark ++ items) (requests_joined (after p mark) prefix more came e)
    ∙ sym (append_assoc (ended_at p mark) (requests_in (after p mark) prefix []) (requests_in between more came))
