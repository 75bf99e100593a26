-- The requests that bytes hold begin with those of each of their histories.
use Rattle.std.proofs.Common.{◌≡◌, ℕ, Bool, true, false, if◌then◌else◌, List, [], ◌∷◌, ◌++◌, map, refl, sym, ap, subst, ◌∙◌, inl, inr}
use Rattle.http_heads.specs.declared.head.Head.{Head}
use Rattle.http_heads.specs.declared.body_err.BodyErr.{BodyErr}
use Rattle.http_heads.specs.declared.body_err.BodyErr.TheVariants.{BadChunk, BodyTooLarge}
use Rattle.http_heads.specs.Cut.{drop_blank}
use Rattle.http_heads.specs.Head.{is_put}
use Rattle.http_chunks.specs.Reading as readings
use Rattle.http_chunks.specs.Reading.{Reading}
use Rattle.http_requests.specs.Heads.{Accepts}
use Rattle.http_requests.specs.Bodies.{HoldsBody}
use Rattle.http_requests.specs.Requests as requests
use Rattle.http_requests.specs.Requests.{Item, Asks, AreRequests, stop_of, merged}
use Rattle.http_requests.proofs.FirstHeads.{accepts_same, accepts_refused}
use Rattle.http_requests.proofs.Unique.{unique}
use Rattle.http_front.specs.Asking.{is_empty, OnlyPutHasContent}
use Rattle.http_front.proofs.Profile.{fits}
use Rattle.session_history.specs.Marks.{Mark, refused, accepted, content, spoiled, replied, failed, broke}
use Rattle.http_front.specs.Entries.{is_begun}
use Rattle.session_history.specs.Phases.{Phase, between, asked, beginning, inside, putting, over, after}
use Rattle.session_history.specs.Histories.{IsHistory}
use Rattle.session_history.specs.Requests.{alone, requests_in, BeginsWith}
use Rattle.session_history.proofs.Goes.{Goes, of_history, accepts, refuses, holds, stops, left}
use Rattle.http_requests.proofs.Unique.{body_same}
use Rattle.session_history.proofs.Same.{whole_stop, cut_stop, no_head}
use Rattle.session_history.proofs.Made.{Behind, begun_or, empty_holds, no_content, none_over}

begins_none : (items : List Item) → BeginsWith items []
begins_none items = (items, refl)

begins_next : (a : Item) (items prefix : List Item) → BeginsWith items prefix → BeginsWith (a ∷ items) (a ∷ prefix)
begins_next a items prefix x = (x.0, ap (λ (more : List Item). merged a ∷ more) x.1)

begins_one : (items : List Item) (a : Item) → map merged items ≡ map merged (a ∷ []) → BeginsWith items (a ∷ [])
begins_one items a x = ([], x)

-- ---- the requests of a stream in which a head stands in front of the bytes

OfHead : Head → List ℕ → List Item → Type 0
OfHead head bytes items = (stream : List ℕ) × (ends_inside : Bool) × Accepts (drop_blank stream) head bytes × AreRequests stream items ends_inside

-- the first of them has that head, and its content is what the bytes hold
Held : Head → List ℕ → List Item → Type 0
Held head bytes [] = ⊥
Held head bytes (requests.refused why bare ∷ items) = ⊥
Held head bytes (requests.whole other whole ∷ items) = (rest : List ℕ) × (other ≡ head) × HoldsBody head.framing bytes (readings.whole whole rest) × Behind head rest items
Held head bytes (requests.stopped other part why ∷ items) = (other ≡ head) × HoldsBody head.framing bytes (stop_of part why) × (items ≡ [])
Held head bytes (requests.cut other part ∷ items) = (other ≡ head) × HoldsBody head.framing bytes (readings.cut part) × (items ≡ [])

asks_held : (stream bytes : List ℕ) (head other : Head) (reading : Reading) → Accepts stream head bytes → Asks stream other reading
    → (other ≡ head) × HoldsBody head.framing bytes reading
asks_held stream bytes head other reading a x =
    let same = accepts_same stream x.body bytes other head x.accepts a in
    let there = subst (λ (t : List ℕ). HoldsBody other.framing t reading) same.1 x.holds in
    (same.0, subst (λ (h : Head). HoldsBody h.framing bytes reading) same.0 there)

held : (head : Head) (bytes : List ℕ) (items : List Item) → OfHead head bytes items → Held head bytes items
unfolding OfHead Held
held head bytes [] x = no_head x.0 bytes head x.1 x.3 x.2
held head bytes (requests.refused why bare ∷ items) x = accepts_refused (drop_blank x.0) bytes head why bare x.2 x.3.0
held head bytes (requests.whole other whole ∷ items) x =
    let here = asks_held (drop_blank x.0) bytes head other _ x.2 x.3.1 in
    (x.3.0, here.0, here.1, subst (λ (h : Head). Behind h x.3.0 items) here.0 (x.1, x.3.2))
held head bytes (requests.stopped other part why ∷ items) x =
    let here = asks_held (drop_blank x.0) bytes head other _ x.2 x.3.0 in
    (here.0, here.1, x.3.1)
held head bytes (requests.cut other part ∷ items) x =
    let here = asks_held (drop_blank x.0) bytes head other _ x.2 x.3.0 in
    (here.0, here.1, x.3.1)

-- a content that is whole: the first request has it, and the others are those behind
whole_held : (head : Head) (bytes whole rest : List ℕ) (items : List Item) → HoldsBody head.framing bytes (readings.whole whole rest) → Held head bytes items
    → (more : List Item) × (items ≡ requests.whole head whole ∷ more) × Behind head rest more
unfolding Held
whole_held head bytes whole rest [] x y = absurd y
whole_held head bytes whole rest (requests.refused why bare ∷ items) x y = absurd y
whole_held head bytes whole rest (requests.whole other found ∷ items) x y =
    let same : readings.whole found y.0 ≡ readings.whole whole rest = body_same head.framing bytes (readings.whole found y.0) (readings.whole whole rest) y.2 x in
    let contents : found ≡ whole = cc in
    let rests : y.0 ≡ rest = cc in
    let heads : other ≡ head = y.1 in
    (items, (cc), subst (λ (t : List ℕ). Behind head t items) rests y.3)
whole_held head bytes whole rest (requests.stopped other part why ∷ items) x y =
    absurd (whole_stop whole rest part why (body_same head.framing bytes (readings.whole whole rest) (stop_of part why) x y.1))
whole_held head bytes whole rest (requests.cut other part ∷ items) x y =
    let same : readings.whole whole rest ≡ readings.cut part = body_same head.framing bytes (readings.whole whole rest) (readings.cut part) x y.1 in
    absurd cc

stop_one : (a b : List ℕ) (e f : BodyErr) → stop_of a e ≡ stop_of b f → (a ≡ b) × (e ≡ f)
stop_one a b (BadChunk at) (BadChunk other) e = (cc, cc)
stop_one a b (BadChunk at) BodyTooLarge e = absurd cc
stop_one a b BodyTooLarge (BadChunk other) e = absurd cc
stop_one a b BodyTooLarge BodyTooLarge e = (cc, refl)

-- a content that is refused, or isn't whole: it is that of the only request
stop_held : (head : Head) (bytes part : List ℕ) (why : BodyErr) (items : List Item) → HoldsBody head.framing bytes (stop_of part why) → Held head bytes items
    → items ≡ requests.stopped head part why ∷ []
unfolding Held
stop_held head bytes part why [] x y = absurd y
stop_held head bytes part why (requests.refused cause bare ∷ items) x y = absurd y
stop_held head bytes part why (requests.whole other found ∷ items) x y =
    absurd (whole_stop found y.0 part why (body_same head.framing bytes (readings.whole found y.0) (stop_of part why) y.2 x))
stop_held head bytes part why (requests.stopped other found cause ∷ items) x y =
    let same = stop_one found part cause why (body_same head.framing bytes (stop_of found cause) (stop_of part why) y.1 x) in
    let parts : found ≡ part = same.0 in
    let causes : cause ≡ why = same.1 in
    let heads : other ≡ head = y.0 in
    let none : items ≡ [] = y.2 in
    cc
stop_held head bytes part why (requests.cut other found ∷ items) x y =
    absurd (cut_stop found part why (body_same head.framing bytes (readings.cut found) (stop_of part why) y.1 x))

cut_held : (head : Head) (bytes came : List ℕ) (items : List Item) → HoldsBody head.framing bytes (readings.cut came) → Held head bytes items
    → items ≡ requests.cut head came ∷ []
unfolding Held
cut_held head bytes came [] x y = absurd y
cut_held head bytes came (requests.refused cause bare ∷ items) x y = absurd y
cut_held head bytes came (requests.whole other found ∷ items) x y =
    let same : readings.whole found y.0 ≡ readings.cut came = body_same head.framing bytes (readings.whole found y.0) (readings.cut came) y.2 x in
    absurd cc
cut_held head bytes came (requests.stopped other found cause ∷ items) x y =
    absurd (cut_stop came found cause (body_same head.framing bytes (readings.cut came) (stop_of found cause) x y.1))
cut_held head bytes came (requests.cut other found ∷ items) x y =
    let same : readings.cut found ≡ readings.cut came = body_same head.framing bytes (readings.cut found) (readings.cut came) y.1 x in
    let heads : other ≡ head = y.0 in
    let none : items ≡ [] = y.2 in
    cc

-- ---- what a phase knows of the requests of the bytes in front

Knows : Phase → List ℕ → List Item → Type 0
Knows between bytes items = (ends_inside : Bool) × AreRequests bytes items ends_inside
Knows (asked head) bytes items = (is_empty head.framing ≡ true) × Held head bytes items
Knows (beginning head) bytes items = Held head bytes items
Knows (inside head) bytes items = Held head bytes items
Knows (putting head) bytes items = Behind head bytes items
Knows over bytes items = Unit {0}

accepted_knows : (head : Head) (put : Bool) (bytes : List ℕ) (items : List Item) → is_put head.method ≡ put → OnlyPutHasContent head → Held head bytes items
    → Knows (if put then beginning head else asked head) bytes items
unfolding Knows
accepted_knows head true bytes items e f x = x
accepted_knows head false bytes items e f x = (no_content head e f, x)

-- behind a request that closes nothing is known, and nothing comes
behind_knows : (head : Head) (closes : Bool) (bytes rest : List ℕ) (items : List Item) → head.closes ≡ closes → bytes ≡ rest → Behind head bytes items
    → Knows (if closes then over else between) rest items
unfolding Knows
behind_knows head true bytes rest items e same x = tt
behind_knows head false bytes rest items e same (ends_inside, inl x) = (ends_inside, subst (λ (t : List ℕ). AreRequests t items ends_inside) same x.1)
behind_knows head false bytes rest items e same (ends_inside, inr x) = let clash : false ≡ true = sym e ∙ x.0 in absurd cc

-- a request without a content
alone_held : (head : Head) (bytes : List ℕ) (items : List Item) → is_empty head.framing ≡ true → Held head bytes items
    → (more : List Item) × (items ≡ requests.whole head [] ∷ more) × Behind head bytes more
alone_held head bytes items e x = whole_held head bytes [] bytes items (empty_holds head.framing e bytes) x

-- ---- the history

-- from each phase on, the requests of the bytes begin with those of the marks
First : Phase → List ℕ → List Mark → List ℕ → Type 0
First phase bytes marks came = (items : List Item) → Knows phase bytes items → BeginsWith items (requests_in phase marks came)

begins_as : (items prefix other : List Item) → prefix ≡ other → BeginsWith items other → BeginsWith items prefix
begins_as items prefix other e x = subst (λ (f : List Item). BeginsWith items f) (sym e) x

-- the first request is known, and what is behind it begins with the rest
first_is : (items : List Item) (a : Item) (prefix : List Item) (more : List Item) → items ≡ a ∷ more → BeginsWith more prefix → BeginsWith items (a ∷ prefix)
first_is items a prefix more e x = subst (λ (i : List Item). BeginsWith i (a ∷ prefix)) (sym e) (begins_next a more prefix x)

over_first : (bytes : List ℕ) (marks : List Mark) (came : List ℕ) (items : List Item) → Goes over bytes marks came → BeginsWith items (requests_in over marks came)
over_first bytes marks came items x = begins_as items (requests_in over marks came) [] (none_over bytes marks came x) (begins_none items)

-- a request is all that is told, as the session ends with it
last_is : (items : List Item) (a : Item) (bytes : List ℕ) (marks : List Mark) (came : List ℕ) → map merged items ≡ map merged (a ∷ []) → Goes over bytes marks came
    → BeginsWith items (a ∷ requests_in over marks came)
last_is items a bytes marks came e x =
    begins_as items (a ∷ requests_in over marks came) (a ∷ []) (ap (λ (prefix : List Item). a ∷ prefix) (none_over bytes marks came x)) (begins_one items a e)

-- what is answered to a request without a content
replied_first : (head : Head) (bytes rest : List ℕ) (marks : List Mark) (came : List ℕ) (items : List Item) → bytes ≡ rest → is_empty head.framing ≡ true → Held head bytes items
    → First (if head.closes then over else between) rest marks came
    → BeginsWith items (requests.whole head [] ∷ requests_in (if head.closes then over else between) marks came)
unfolding First
replied_first head bytes rest marks came items same e x behind =
    let here = alone_held head bytes items e x in
    first_is items (requests.whole head []) _ here.0 here.1 (behind here.0 (behind_knows head head.closes bytes rest here.0 refl same here.2))

-- the session ends behind a request without a content
failed_first : (head : Head) (empty : Bool) (bytes rest : List ℕ) (marks : List Mark) (came : List ℕ) (items : List Item) → is_empty head.framing ≡ empty → Held head bytes items
    → Goes over rest marks came → BeginsWith items (alone head empty ++ requests_in over marks came)
failed_first head true bytes rest marks came items e x goes =
    let here = alone_held head bytes items e x in
    first_is items (requests.whole head []) _ here.0 here.1 (over_first rest marks came here.0 goes)
failed_first head false bytes rest marks came items e x goes = over_first rest marks came items goes

-- what is answered where an upload is to begin
begun_first : (head : Head) (begun closes empty : Bool) (bytes rest : List ℕ) (marks : List Mark) (came : List ℕ) (items : List Item)
    → head.closes ≡ closes → is_empty head.framing ≡ empty → bytes ≡ rest → Held head bytes items
    → Goes (begun_or head begun closes empty) rest marks came → First (begun_or head begun closes empty) rest marks came
    → BeginsWith items ((if begun then [] else alone head empty) ++ requests_in (begun_or head begun closes empty) marks came)
unfolding First Knows
begun_first head true closes empty bytes rest marks came items c e same x goes behind = behind items (subst (λ (t : List ℕ). Held head t items) same x)
begun_first head false true true bytes rest marks came items c e same x goes behind = failed_first head true bytes rest marks came items e x goes
begun_first head false true false bytes rest marks came items c e same x goes behind = over_first rest marks came items goes
begun_first head false false false bytes rest marks came items c e same x goes behind = over_first rest marks came items goes
begun_first head false false true bytes rest marks came items c e same x goes behind =
    let here = alone_held head bytes items e x in
    first_is items (requests.whole head []) _ here.0 here.1 (behind here.0 (behind_knows head false bytes rest here.0 c same here.2))

firsts : (phase : Phase) (bytes : List ℕ) (marks : List Mark) (came : List ℕ) → Goes phase bytes marks came → First phase bytes marks came
unfolding First Knows OfHead
firsts between bytes [] came x items k = begins_none items
firsts between bytes (accepted head ∷ marks) came x items k =
    let a = accepts bytes x.0 head x.1 in
    let here = held head x.0 items (bytes, k.0, a, k.1) in
    firsts (after between (accepted head)) x.0 marks came x.2 items (accepted_knows head (is_put head.method) x.0 items refl (fits a.text head a.gives) here)
firsts between bytes (refused why bare ∷ marks) came x items k =
    let one = unique bytes items (requests.refused why bare ∷ []) k.0 false k.1 (refuses bytes x.0 why bare x.1, refl, refl) in
    last_is items (requests.refused why bare) x.0 marks came one.0 x.2
firsts (asked head) bytes [] came x items k = begins_none items
firsts (asked head) bytes (replied r ∷ marks) came x items k =
    let m = firsts (after (asked head) (replied r)) x.0 marks came x.2 in
    replied_first head bytes x.0 marks came items (left bytes x.1.0 x.0 x.1.1 x.1.2) k.0 k.1 m
firsts (asked head) bytes (failed why ∷ marks) came x items k = failed_first head true bytes x.0 marks came items k.0 k.1 x.2
firsts (beginning head) bytes [] came x items k = begins_none items
firsts (beginning head) bytes (replied r ∷ marks) came x items k =
    let m = firsts (after (beginning head) (replied r)) x.0 marks came x.2 in
    begun_first head (is_begun r) head.closes (is_empty head.framing) bytes x.0 marks came items refl refl (left bytes x.1.0 x.0 x.1.1 x.1.2) k x.2 m
firsts (beginning head) bytes (failed why ∷ marks) came x items k = failed_first head (is_empty head.framing) bytes x.0 marks came items refl k x.2
firsts (inside head) bytes [] came x items k = begins_one items (requests.cut head came) (ap (λ (i : List Item). map merged i) (cut_held head bytes came items x k))
firsts (inside head) bytes (content whole ∷ marks) came x items k =
    let here = whole_held head bytes whole x.0 items (holds head bytes x.0 whole x.1) k in
    first_is items (requests.whole head whole) _ here.0 here.1 (firsts (putting head) x.0 marks came x.2 here.0 here.2)
firsts (inside head) bytes (spoiled part why ∷ marks) came x items k =
    let one = stop_held head bytes part why items (stops head bytes x.0 part why x.1) k in
    last_is items (requests.stopped head part why) x.0 marks came (ap (λ (i : List Item). map merged i) one) x.2
firsts (inside head) bytes (broke why ∷ marks) came x items k = over_first x.0 marks came items x.2
firsts (putting head) bytes [] came x items k = begins_none items
firsts (putting head) bytes (replied r ∷ marks) came x items k =
    firsts (after (putting head) (replied r)) x.0 marks came x.2 items (behind_knows head head.closes bytes x.0 items refl (left bytes x.1.0 x.0 x.1.1 x.1.2) k)
firsts (putting head) bytes (failed why ∷ marks) came x items k = over_first x.0 marks came items x.2
firsts over bytes marks came x items k = over_first bytes marks came items x
firsts phase bytes (mark ∷ marks) came x items k = absurd x.1.2

pub first : (bytes : List ℕ) (marks : List Mark) (came : List ℕ) → IsHistory bytes marks came
    → (items : List Item) (ends_inside : Bool) → AreRequests bytes items ends_inside → BeginsWith items (requests_in between marks came)
unfolding First Knows
first bytes marks came h items ends_inside r = firsts between bytes marks came (of_history bytes marks came h) items (ends_inside, r)
