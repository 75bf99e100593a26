-- The marks that bytes make from a phase on, one after another.
use Rattle.std.proofs.Common.{◌≡◌, ℕ, Bool, List, [], ◌∷◌, ◌++◌, refl, sym, ap, subst, ◌∙◌}
use Rattle.std.proofs.lemmas.List.{append_assoc}
use Rattle.http_heads.specs.declared.head.Head.{Head}
use Rattle.http_heads.specs.declared.head_err.HeadErr.{HeadErr}
use Rattle.http_heads.specs.declared.body_err.BodyErr.{BodyErr}
use Rattle.http_heads.specs.Cut.{drop_blank}
use Rattle.http_chunks.specs.Reading as readings
use Rattle.http_requests.specs.Heads.{Accepts, IsRefused}
use Rattle.http_requests.specs.Bodies.{HoldsBody}
use Rattle.http_requests.specs.Requests.{stop_of}
use Rattle.session_history.specs.Marks.{Mark, refused, accepted, content, spoiled}
use Rattle.session_history.specs.Phases.{Phase, between, inside, over, after, after_all}
use Rattle.session_history.specs.Histories.{IsTextOf, Spans, HasNoNext, IsHistory}

-- the mark comes next of the bytes, in front of the rest
abbrev pub Comes : Phase → Mark → List ℕ → List ℕ → Type 0
Comes phase mark bytes rest = (prefix : List ℕ) × (bytes ≡ prefix ++ rest) × IsTextOf phase mark prefix

-- from a phase on the bytes make these marks and no more; of the last content so much came
abbrev pub Goes : Phase → List ℕ → List Mark → List ℕ → Type 0
Goes phase bytes [] came = HasNoNext phase bytes came
Goes phase bytes (mark ∷ marks) came = (rest : List ℕ) × Comes phase mark bytes rest × Goes (after phase mark) rest marks came

goes : (phase : Phase) (marks : List Mark) (bytes text rest came : List ℕ) → bytes ≡ text ++ rest → Spans phase marks text
    → HasNoNext (after_all phase marks) rest came → Goes phase bytes marks came
goes phase [] bytes text rest came parts none rests =
    let same : bytes ≡ rest = parts ∙ ap (λ (t : List ℕ). t ++ rest) none in
    subst (λ (t : List ℕ). HasNoNext phase t came) (sym same) rests
goes phase (mark ∷ marks) bytes text rest came parts (prefix, back, halves, is_text, spans) rests =
    let here : bytes ≡ prefix ++ (back ++ rest) = parts ∙ ap (λ (t : List ℕ). t ++ rest) halves ∙ append_assoc prefix back rest in
    (back ++ rest, (prefix, here, is_text), goes (after phase mark) marks (back ++ rest) back rest came refl spans rests)

pub of_history : (bytes : List ℕ) (marks : List Mark) (came : List ℕ) → IsHistory bytes marks came → Goes between bytes marks came
of_history bytes marks came h = goes between marks bytes h.text h.rest came h.parts h.spans h.rests

-- nothing comes of an ended session
pub ended : (bytes : List ℕ) (marks : List Mark) (came : List ℕ) → Goes over bytes marks came → (marks ≡ []) × (came ≡ [])
ended bytes [] came x = (refl, x)
ended bytes (mark ∷ marks) came x = absurd x.1.2

-- ---- what a mark says of the bytes that it stands in front of

pub accepts : (bytes rest : List ℕ) (head : Head) → Comes between (accepted head) bytes rest → Accepts (drop_blank bytes) head rest
accepts bytes rest head x = subst (λ (t : List ℕ). Accepts (drop_blank t) head rest) (sym x.1) (x.2 rest)

pub refuses : (bytes rest : List ℕ) (why : HeadErr) (bare : Bool) → Comes between (refused why bare) bytes rest → IsRefused (drop_blank bytes) why bare
refuses bytes rest why bare x = subst (λ (t : List ℕ). IsRefused (drop_blank t) why bare) (sym x.1) (x.2 rest)

pub holds : (head : Head) (bytes rest whole : List ℕ) → Comes (inside head) (content whole) bytes rest → HoldsBody head.framing bytes (readings.whole whole rest)
holds head bytes rest whole x = subst (λ (t : List ℕ). HoldsBody head.framing t (readings.whole whole rest)) (sym x.1) (x.2 rest)

pub stops : (head : Head) (bytes rest part : List ℕ) (why : BodyErr) → Comes (inside head) (spoiled part why) bytes rest → HoldsBody head.framing bytes (stop_of part why)
stops head bytes rest part why x = subst (λ (t : List ℕ). HoldsBody head.framing t (stop_of part why)) (sym x.1) (x.2 rest)

-- an answer without a text leaves the bytes
pub left : (bytes prefix rest : List ℕ) → bytes ≡ prefix ++ rest → prefix ≡ [] → bytes ≡ rest
left bytes prefix rest parts none = parts ∙ ap (λ (t : List ℕ). t ++ rest) none
