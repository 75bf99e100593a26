-- A history that tells of all requests has those of the bytes.
use Rattle.std.proofs.Common.{◌≡◌, ℕ, ◌⊎◌, IsTrue, Bool, true, false, ◌||◌, not, if◌then◌else◌, List, [], ◌∷◌, ◌++◌, refl, sym, subst, inl, inr}
use Rattle.std.proofs.lemmas.Bool.{eqb-true}
use Rattle.http_heads.specs.declared.framing.Framing.{Framing}
use Rattle.http_heads.specs.declared.framing.Framing.TheVariants as framings
use Rattle.http_heads.specs.declared.head.Head.{Head}
use Rattle.http_heads.specs.Cut.{drop_blank}
use Rattle.http_heads.specs.Head.{is_put}
use Rattle.http_chunks.specs.Reading as readings
use Rattle.http_requests.specs.Heads.{Accepts}
use Rattle.http_requests.specs.Bodies.{HoldsBody}
use Rattle.http_requests.specs.Requests as requests
use Rattle.http_requests.specs.Requests.{Item, AreRequests}
use Rattle.http_front.specs.Asking.{is_empty, OnlyPutHasContent}
use Rattle.http_front.proofs.Profile.{fits}
use Rattle.session_history.specs.Marks.{Mark, refused, accepted, content, spoiled, replied, failed, broke}
use Rattle.http_front.specs.Entries.{is_begun}
use Rattle.session_history.specs.Phases.{Phase, between, asked, beginning, inside, putting, over, after}
use Rattle.session_history.specs.Histories.{HasNoNext, IsHistory}
use Rattle.session_history.specs.Requests.{alone, requests_in, TellsAll}
use Rattle.session_history.proofs.Goes.{Goes, of_history, accepts, refuses, holds, stops, left}

-- these are the requests of each stream in which the head stands in front of the bytes
abbrev OfHead : Head → List ℕ → List Item → Type 0
OfHead head bytes items = (stream : List ℕ) → Accepts (drop_blank stream) head bytes → (ends_inside : Bool) × AreRequests stream items ends_inside

-- they are those of the bytes behind a request with that head, if it doesn't close
abbrev pub Behind : Head → List ℕ → List Item → Type 0
Behind head bytes items =
    (ends_inside : Bool) × (((head.closes ≡ false) × AreRequests bytes items ends_inside) ⊎ ((head.closes ≡ true) × (items ≡ []) × (ends_inside ≡ false)))

-- they are those of the bytes, by what the phase knows of the bytes in front
abbrev Makes : Phase → List ℕ → List Item → Type 0
Makes between bytes items = (ends_inside : Bool) × AreRequests bytes items ends_inside
Makes (asked head) bytes items = is_empty head.framing ≡ true → OfHead head bytes items
Makes (beginning head) bytes items = OfHead head bytes items
Makes (inside head) bytes items = OfHead head bytes items
Makes (putting head) bytes items = Behind head bytes items
Makes over bytes items = items ≡ []

-- ---- behind a head

pub empty_holds : (framing : Framing) → is_empty framing ≡ true → (rest : List ℕ) → HoldsBody framing rest (readings.whole [] rest)
empty_holds framings.None e rest = (refl, refl)
empty_holds (framings.Length n) e rest = (sym (eqb-true n 0 e), refl)
empty_holds framings.Chunked e rest = cc

pub no_content : (head : Head) → is_put head.method ≡ false → OnlyPutHasContent head → is_empty head.framing ≡ true
no_content head e (inl f) = cc
no_content head e (inr f) = f

accepted_makes : (head : Head) (put : Bool) (bytes : List ℕ) (items : List Item) → is_put head.method ≡ put → Makes (if put then beginning head else asked head) bytes items
    → OfHead head bytes items
accepted_makes head true bytes items e m = m
accepted_makes head false bytes items e m = λ stream a. m (no_content head e (fits a.text head a.gives)) stream a

-- a request without a content
empty_makes : (head : Head) (bytes : List ℕ) (items : List Item) → is_empty head.framing ≡ true → Behind head bytes items → OfHead head bytes (requests.whole head [] ∷ items)
empty_makes head bytes items e b = λ stream a. (b.0, (bytes, record { body = bytes; accepts = a; holds = empty_holds head.framing e bytes }, b.1))

-- ---- behind an answer, which leaves the bytes

-- nothing comes behind a request
rested : (closes : Bool) (bytes came : List ℕ) → HasNoNext (if closes then over else between) bytes came
    → Makes (if closes then over else between) bytes (requests_in (if closes then over else between) [] came)
rested true bytes came x = refl
rested false bytes came x = x.0

replied_makes : (head : Head) (closes : Bool) (bytes rest : List ℕ) (items : List Item) → head.closes ≡ closes → bytes ≡ rest
    → Makes (if closes then over else between) rest items → Behind head bytes items
replied_makes head true bytes rest items e same m = (false, inr (e, m, refl))
replied_makes head false bytes rest items e same m = (m.0, inl (e, subst (λ (t : List ℕ). AreRequests t items m.0) (sym same) m.1))

-- the phase behind the beginning of an upload, by whether it was begun, the request closes, and its content is empty
abbrev pub begun_or : Head → Bool → Bool → Bool → Phase
begun_or head begun closes empty = if begun then inside head else if closes || not empty then over else between

-- nothing comes behind a beginning
begun_rested : (head : Head) (begun closes empty : Bool) (bytes came : List ℕ) → HasNoNext (begun_or head begun closes empty) bytes came
    → Makes (begun_or head begun closes empty) bytes (requests_in (begun_or head begun closes empty) [] came)
begun_rested head true closes empty bytes came x = λ stream a. (true, (record { body = bytes; accepts = a; holds = x }, refl, refl))
begun_rested head false closes empty bytes came x = rested (closes || not empty) bytes came x

-- something comes behind it
begun_goes : (head : Head) (begun closes empty : Bool) (bytes : List ℕ) (mark : Mark) (marks : List Mark) (came : List ℕ)
    → Goes (begun_or head begun closes empty) bytes (mark ∷ marks) came → IsTrue (begun || empty)
begun_goes head true closes empty bytes mark marks came x = refl
begun_goes head false closes true bytes mark marks came x = refl
begun_goes head false true false bytes mark marks came x = absurd x.1.2
begun_goes head false false false bytes mark marks came x = absurd x.1.2

begun_makes : (head : Head) (begun closes empty : Bool) (bytes rest : List ℕ) (items : List Item) → head.closes ≡ closes → is_empty head.framing ≡ empty → bytes ≡ rest
    → IsTrue (begun || empty) → Makes (begun_or head begun closes empty) rest items → OfHead head bytes ((if begun then [] else alone head empty) ++ items)
begun_makes head true closes empty bytes rest items c e same t m = λ stream a. m stream (subst (λ (b : List ℕ). Accepts (drop_blank stream) head b) same a)
begun_makes head false true true bytes rest items c e same t m = empty_makes head bytes items e (replied_makes head true bytes rest items c same m)
begun_makes head false false true bytes rest items c e same t m = empty_makes head bytes items e (replied_makes head false bytes rest items c same m)
begun_makes head false closes false bytes rest items c e same t m = absurd cc

-- ---- an ended session

pub none_over : (bytes : List ℕ) (marks : List Mark) (came : List ℕ) → Goes over bytes marks came → requests_in over marks came ≡ []
none_over bytes [] came x = refl
none_over bytes (mark ∷ marks) came x = absurd x.1.2

untold : (bytes : List ℕ) (marks : List Mark) (came : List ℕ) → Goes over bytes marks came → TellsAll over marks → ⊥
untold bytes [] came x t = t
untold bytes (mark ∷ marks) came x t = x.1.2

-- ---- the whole history

makes : (phase : Phase) (bytes : List ℕ) (marks : List Mark) (came : List ℕ) → Goes phase bytes marks came → TellsAll phase marks → Makes phase bytes (requests_in phase marks came)
makes between bytes [] came x t = x.0
makes between bytes (accepted head ∷ marks) came x t =
    accepted_makes head (is_put head.method) x.0 _ refl (makes (after between (accepted head)) x.0 marks came x.2 t) bytes (accepts bytes x.0 head x.1)
makes between bytes (refused why bare ∷ marks) came x t = (false, (refuses bytes x.0 why bare x.1, none_over x.0 marks came x.2, refl))
makes (asked head) bytes (replied r ∷ []) came x t =
    λ empty. empty_makes head bytes _ empty (replied_makes head head.closes bytes x.0 _ refl (left bytes x.1.0 x.0 x.1.1 x.1.2) (rested head.closes x.0 came x.2))
makes (asked head) bytes (replied r ∷ mark ∷ marks) came x t =
    let m = makes (after (asked head) (replied r)) x.0 (mark ∷ marks) came x.2 t in
    λ empty. empty_makes head bytes _ empty (replied_makes head head.closes bytes x.0 _ refl (left bytes x.1.0 x.0 x.1.1 x.1.2) m)
makes (asked head) bytes (failed why ∷ marks) came x t = absurd (untold x.0 marks came x.2 t)
makes (beginning head) bytes (replied r ∷ []) came x t =
    begun_makes head (is_begun r) head.closes (is_empty head.framing) bytes x.0 _ refl refl (left bytes x.1.0 x.0 x.1.1 x.1.2) t
    (begun_rested head (is_begun r) head.closes (is_empty head.framing) x.0 came x.2)
makes (beginning head) bytes (replied r ∷ mark ∷ marks) came x t =
    let m = makes (after (beginning head) (replied r)) x.0 (mark ∷ marks) came x.2 t in
    let goes = begun_goes head (is_begun r) head.closes (is_empty head.framing) x.0 mark marks came x.2 in
    begun_makes head (is_begun r) head.closes (is_empty head.framing) bytes x.0 _ refl refl (left bytes x.1.0 x.0 x.1.1 x.1.2) goes m
makes (beginning head) bytes (failed why ∷ marks) came x t = absurd (untold x.0 marks came x.2 t)
makes (inside head) bytes [] came x t = λ stream a. (true, (record { body = bytes; accepts = a; holds = x }, refl, refl))
makes (inside head) bytes (content whole ∷ marks) came x t =
    let b = makes (putting head) x.0 marks came x.2 t in
    λ stream a. (b.0, (x.0, record { body = bytes; accepts = a; holds = holds head bytes x.0 whole x.1 }, b.1))
makes (inside head) bytes (spoiled part why ∷ marks) came x t =
    λ stream a. (false, (record { body = bytes; accepts = a; holds = stops head bytes x.0 part why x.1 }, none_over x.0 marks came x.2, refl))
makes (inside head) bytes (broke why ∷ marks) came x t = absurd (untold x.0 marks came x.2 t)
makes (putting head) bytes (replied r ∷ []) came x t = replied_makes head head.closes bytes x.0 _ refl (left bytes x.1.0 x.0 x.1.1 x.1.2) (rested head.closes x.0 came x.2)
makes (putting head) bytes (replied r ∷ mark ∷ marks) came x t =
    replied_makes head head.closes bytes x.0 _ refl (left bytes x.1.0 x.0 x.1.1 x.1.2) (makes (after (putting head) (replied r)) x.0 (mark ∷ marks) came x.2 t)
makes (putting head) bytes (failed why ∷ marks) came x t = absurd (untold x.0 marks came x.2 t)
makes over bytes marks came x t = none_over bytes marks came x
makes phase bytes [] came x t = absurd t
makes phase bytes (mark ∷ marks) came x t = absurd x.1.2

pub made : (bytes : List ℕ) (marks : List Mark) (came : List ℕ) → IsHistory bytes marks came → TellsAll between marks
    → (ends_inside : Bool) × AreRequests bytes (requests_in between marks came) ends_inside
made bytes marks came h t = makes between bytes marks came (of_history bytes marks came h) t
