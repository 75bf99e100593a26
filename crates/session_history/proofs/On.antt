-- Where a session stands between requests, the requests of its bytes are those of its marks and then those of what follows.
use Rattle.std.proofs.Common.{◌≡◌, ℕ, ◌⊎◌, Bool, true, false, if◌then◌else◌, List, [], ◌∷◌, ◌++◌, refl, sym, ap, subst, ◌∙◌, inl, append_assoc}
use Rattle.http_heads.specs.declared.head.Head.{Head}
use Rattle.http_heads.specs.Cut.{drop_blank}
use Rattle.http_heads.specs.Head.{is_put}
use Rattle.http_requests.specs.Heads.{Accepts}
use Rattle.http_requests.specs.Requests as requests
use Rattle.http_requests.specs.Requests.{Item, AreRequests}
use Rattle.http_front.specs.Asking.{is_empty}
use Rattle.http_front.proofs.Profile.{fits}
use Rattle.session_history.specs.Marks.{Mark, refused, accepted, content, spoiled, replied, failed, broke}
use Rattle.http_front.specs.Entries.{is_begun}
use Rattle.session_history.specs.Phases.{Phase, between, asked, beginning, inside, putting, over, after, after_all}
use Rattle.session_history.specs.Histories.{Spans}
use Rattle.session_history.specs.Requests.{alone, requests_in}
use Rattle.session_history.proofs.Goes.{Comes, accepts, holds, left}
use Rattle.session_history.proofs.Made.{begun_or, empty_holds, no_content}

-- from a phase on the bytes make these marks, in front of more
abbrev Leads : Phase → List ℕ → List Mark → List ℕ → Type 0
Leads phase bytes [] more = bytes ≡ more
Leads phase bytes (mark ∷ marks) more = (rest : List ℕ) × Comes phase mark bytes rest × Leads (after phase mark) rest marks more

-- a text of the marks leads to what follows it
leads : (phase : Phase) (marks : List Mark) (bytes text more : List ℕ) → bytes ≡ text ++ more → Spans phase marks text → Leads phase bytes marks more
leads phase [] bytes text more parts none = left bytes text more parts none
leads phase (mark ∷ marks) bytes text more parts (prefix, back, halves, is_text, spans) =
    let here : bytes ≡ prefix ++ (back ++ more) = parts ∙ ap (λ (t : List ℕ). t ++ more) halves ∙ append_assoc prefix back more in
    (back ++ more, (prefix, here, is_text), leads (after phase mark) marks (back ++ more) back more refl spans)

-- an ended session doesn't come between requests again
stays_over : (bytes : List ℕ) (marks : List Mark) (more : List ℕ) → Leads over bytes marks more → after_all over marks ≡ between → ⊥
stays_over bytes [] more x e = cc
stays_over bytes (mark ∷ marks) more x e = x.1.2

-- ---- what a phase knows of the requests of the bytes in front

-- these are the requests of each stream in which the head stands in front of the bytes
abbrev OfHead : Head → List ℕ → List Item → Bool → Type 0
OfHead head bytes items ends_inside = (stream : List ℕ) → Accepts (drop_blank stream) head bytes → AreRequests stream items ends_inside

-- they are those of the bytes behind a request with that head, if it doesn't close
abbrev Behind : Head → List ℕ → List Item → Bool → Type 0
Behind head bytes items ends_inside =
    ((head.closes ≡ false) × AreRequests bytes items ends_inside) ⊎ ((head.closes ≡ true) × (items ≡ []) × (ends_inside ≡ false))

-- they are those of the bytes, by what the phase knows of the bytes in front. An ended session comes to no more of them.
abbrev Has : Phase → List ℕ → List Item → Bool → Type 0
Has between bytes items ends_inside = AreRequests bytes items ends_inside
Has (asked head) bytes items ends_inside = is_empty head.framing ≡ true → OfHead head bytes items ends_inside
Has (beginning head) bytes items ends_inside = OfHead head bytes items ends_inside
Has (inside head) bytes items ends_inside = OfHead head bytes items ends_inside
Has (putting head) bytes items ends_inside = Behind head bytes items ends_inside
Has over bytes items ends_inside = ⊥

-- behind a head, by whether it is that of an upload
accepted_has : (head : Head) (put : Bool) (bytes : List ℕ) (items : List Item) (ends_inside : Bool) → is_put head.method ≡ put
    → Has (if put then beginning head else asked head) bytes items ends_inside → OfHead head bytes items ends_inside
accepted_has head true bytes items ends_inside e m = m
accepted_has head false bytes items ends_inside e m = λ stream a. m (no_content head e (fits a.text head a.gives)) stream a

-- a request without a content
empty_has : (head : Head) (bytes : List ℕ) (items : List Item) (ends_inside : Bool) → is_empty head.framing ≡ true → Behind head bytes items ends_inside
    → OfHead head bytes (requests.whole head [] ∷ items) ends_inside
empty_has head bytes items ends_inside e b = λ stream a. (bytes, record { body = bytes; accepts = a; holds = empty_holds head.framing e bytes }, b)

-- an answer leaves the bytes, and the session goes on only where the request doesn't close
replied_has : (head : Head) (closes : Bool) (bytes rest : List ℕ) (items : List Item) (ends_inside : Bool) → head.closes ≡ closes → bytes ≡ rest
    → Has (if closes then over else between) rest items ends_inside → Behind head bytes items ends_inside
replied_has head true bytes rest items ends_inside e same m = absurd m
replied_has head false bytes rest items ends_inside e same m = inl (e, subst (λ (t : List ℕ). AreRequests t items ends_inside) (sym same) m)

-- the beginning of an upload is answered
begun_has : (head : Head) (begun closes empty : Bool) (bytes rest : List ℕ) (prefix items : List Item) (ends_inside : Bool)
    → head.closes ≡ closes → is_empty head.framing ≡ empty → bytes ≡ rest → Has (begun_or head begun closes empty) rest (prefix ++ items) ends_inside
    → OfHead head bytes (((if begun then [] else alone head empty) ++ prefix) ++ items) ends_inside
begun_has head true closes empty bytes rest prefix items ends_inside c e same m =
    λ stream a. m stream (subst (λ (b : List ℕ). Accepts (drop_blank stream) head b) same a)
begun_has head false false true bytes rest prefix items ends_inside c e same m =
    empty_has head bytes (prefix ++ items) ends_inside e (replied_has head false bytes rest (prefix ++ items) ends_inside c same m)
begun_has head false true empty bytes rest prefix items ends_inside c e same m = absurd m
begun_has head false false false bytes rest prefix items ends_inside c e same m = absurd m

-- ---- the marks

-- from each phase on, the requests of the bytes are those of the marks and then those of what follows
on : (phase : Phase) (bytes : List ℕ) (marks : List Mark) (more : List ℕ) → Leads phase bytes marks more → after_all phase marks ≡ between
    → (items : List Item) (ends_inside : Bool) → AreRequests more items ends_inside → Has phase bytes (requests_in phase marks [] ++ items) ends_inside
on between bytes [] more x e items i r = subst (λ (t : List ℕ). AreRequests t items i) (sym x) r
on between bytes (accepted head ∷ marks) more x e items i r =
    accepted_has head (is_put head.method) x.0 _ i refl (on (after between (accepted head)) x.0 marks more x.2 e items i r) bytes (accepts bytes x.0 head x.1)
on between bytes (refused why bare ∷ marks) more x e items i r = absurd (stays_over x.0 marks more x.2 e)
on (asked head) bytes (replied r ∷ marks) more x e items i a =
    let m = on (after (asked head) (replied r)) x.0 marks more x.2 e items i a in
    λ empty. empty_has head bytes _ i empty (replied_has head head.closes bytes x.0 _ i refl (left bytes x.1.0 x.0 x.1.1 x.1.2) m)
on (asked head) bytes (failed why ∷ marks) more x e items i r = absurd (stays_over x.0 marks more x.2 e)
on (beginning head) bytes (replied r ∷ marks) more x e items i a =
    let m = on (after (beginning head) (replied r)) x.0 marks more x.2 e items i a in
    begun_has head (is_begun r) head.closes (is_empty head.framing) bytes x.0 (requests_in (after (beginning head) (replied r)) marks []) items i refl refl
    (left bytes x.1.0 x.0 x.1.1 x.1.2) m
on (beginning head) bytes (failed why ∷ marks) more x e items i r = absurd (stays_over x.0 marks more x.2 e)
on (inside head) bytes (content whole ∷ marks) more x e items i r =
    let b = on (putting head) x.0 marks more x.2 e items i r in
    λ stream a. (x.0, record { body = bytes; accepts = a; holds = holds head bytes x.0 whole x.1 }, b)
on (inside head) bytes (spoiled part why ∷ marks) more x e items i r = absurd (stays_over x.0 marks more x.2 e)
on (inside head) bytes (broke why ∷ marks) more x e items i r = absurd (stays_over x.0 marks more x.2 e)
on (putting head) bytes (replied r ∷ marks) more x e items i a =
    replied_has head head.closes bytes x.0 _ i refl (left bytes x.1.0 x.0 x.1.1 x.1.2) (on (after (putting head) (replied r)) x.0 marks more x.2 e items i a)
on (putting head) bytes (failed why ∷ marks) more x e items i r = absurd (stays_over x.0 marks more x.2 e)
on phase bytes [] more x e items i r = absurd cc
on phase bytes (mark ∷ marks) more x e items i r = absurd x.1.2

-- where the session stands between requests behind its marks, the requests of its bytes are those of the marks and then those of what follows
pub go_on : (marks : List Mark) (text : List ℕ) → Spans between marks text → after_all between marks ≡ between
    → (more : List ℕ) (items : List Item) (ends_inside : Bool) → AreRequests more items ends_inside
    → AreRequests (text ++ more) (requests_in between marks [] ++ items) ends_inside
go_on marks text spans e more items ends_inside r = on between (text ++ more) marks more (leads between marks (text ++ more) text more refl spans) e items ends_inside r
