-- A stream holds one list of requests.
use Rattle.std.proofs.Common.{◌≡◌, ℕ, zero, suc, ◌+◌, ◌<◌, ◌⊎◌, Bool, true, false, List, [], ◌∷◌, length, map, refl, sym, ap, subst, ◌∙◌, arith, inl, inr, length-append}
use Rattle.http_heads.specs.declared.framing.Framing.{Framing}
use Rattle.http_heads.specs.declared.framing.Framing.TheVariants as framings
use Rattle.http_heads.specs.declared.head.Head.{Head}
use Rattle.http_heads.specs.declared.head_err.HeadErr.{HeadErr}
use Rattle.http_heads.specs.declared.body_err.BodyErr.TheVariants.{BadChunk, BodyTooLarge}
use Rattle.http_heads.specs.Cut.{drop_blank}
use Rattle.http_chunks.specs.Reading as readings
use Rattle.http_chunks.specs.Reading.{Reading, Holds}
use Rattle.http_chunks.proofs.OneReading.{one_reading}
use Rattle.http_requests.specs.Heads.{merged_cause}
use Rattle.http_requests.specs.Bodies.{HoldsLength, HoldsBody}
use Rattle.http_requests.specs.Requests.{Item, refused, whole, stopped, cut, Asks, AreRequests, merged}
use Rattle.http_requests.specs.Found.{Opening, over, inside_head, refusal, asked, Opens}
use Rattle.http_requests.proofs.FirstHeads.{one_split, accepts_same, accepts_refused, refused_same, refused_some, refused_open, accepts_some, accepts_open, open_some}

-- ---- one content

-- a content of a length is read in one way
length_same : (n : ℕ) (bytes : List ℕ) (a b : Reading) → HoldsLength n bytes a → HoldsLength n bytes b → a ≡ b
length_same n bytes (readings.whole c r) (readings.whole d s) x y =
    let parts = one_split c r d s (x.0 ∙ sym y.0) (sym x.1 ∙ y.1) in
    let contents : c ≡ d = parts.0 in
    let rests : r ≡ s = parts.1 in
    cc
length_same n bytes (readings.whole c r) (readings.cut d) x y = absurd (omega (arith, x.0, ap length x.1, length-append c r, y.0))
length_same n bytes (readings.cut c) (readings.whole d s) x y = absurd (omega (arith, y.0, ap length y.1, length-append d s, x.0))
length_same n bytes (readings.cut c) (readings.cut d) x y = let contents : c ≡ d = x.1 ∙ sym y.1 in cc
length_same n bytes (readings.bad c at) b x y = absurd x
length_same n bytes (readings.large c) b x y = absurd x
length_same n bytes (readings.whole c r) (readings.bad d at) x y = absurd y
length_same n bytes (readings.whole c r) (readings.large d) x y = absurd y
length_same n bytes (readings.cut c) (readings.bad d at) x y = absurd y
length_same n bytes (readings.cut c) (readings.large d) x y = absurd y

-- what follows a head is read in one way
pub body_same : (framing : Framing) (bytes : List ℕ) (a b : Reading) → HoldsBody framing bytes a → HoldsBody framing bytes b → a ≡ b
body_same framings.None bytes a b x y = length_same 0 bytes a b x y
body_same (framings.Length n) bytes a b x y = length_same n bytes a b x y
body_same framings.Chunked bytes a b x y = one_reading bytes a b x y

asks_same : (bytes : List ℕ) (head other : Head) (a b : Reading) → Asks bytes head a → Asks bytes other b → (head ≡ other) × (a ≡ b)
asks_same bytes head other a b x y =
    let same = accepts_same bytes x.body y.body head other x.accepts y.accepts in
    let there : HoldsBody head.framing x.body b =
    subst (λ (h : Head). HoldsBody h.framing x.body b) (sym same.0) (subst (λ (t : List ℕ). HoldsBody other.framing t b) (sym same.1) y.holds) in
    (same.0, body_same head.framing x.body a b x.holds there)

-- ---- one opening of a stream

SameOpening : Opening → Opening → Type 0
SameOpening over over = Unit {0}
SameOpening inside_head inside_head = Unit {0}
SameOpening (refusal e b) (refusal f c) = (merged_cause e ≡ merged_cause f) × (b ≡ c)
SameOpening (asked h r) (asked k s) = (h ≡ k) × (r ≡ s)
SameOpening o p = ⊥

opens_same : (bytes : List ℕ) (o p : Opening) → Opens bytes o → Opens bytes p → SameOpening o p
unfolding SameOpening
opens_same bytes over over x y = tt
opens_same bytes over inside_head x y = open_some bytes y x
opens_same bytes over (refusal f c) x y = refused_some bytes f c y x
opens_same bytes over (asked k s) x y = accepts_some bytes y.body k y.accepts x
opens_same bytes inside_head over x y = open_some bytes x y
opens_same bytes inside_head inside_head x y = tt
opens_same bytes inside_head (refusal f c) x y = refused_open bytes f c y x
opens_same bytes inside_head (asked k s) x y = accepts_open bytes y.body k y.accepts x
opens_same bytes (refusal e b) over x y = refused_some bytes e b x y
opens_same bytes (refusal e b) inside_head x y = refused_open bytes e b x y
opens_same bytes (refusal e b) (refusal f c) x y = refused_same bytes e f b c x y
opens_same bytes (refusal e b) (asked k s) x y = accepts_refused bytes y.body k e b y.accepts x
opens_same bytes (asked h r) over x y = accepts_some bytes x.body h x.accepts y
opens_same bytes (asked h r) inside_head x y = accepts_open bytes x.body h x.accepts y
opens_same bytes (asked h r) (refusal f c) x y = accepts_refused bytes x.body h f c x.accepts y
opens_same bytes (asked h r) (asked k s) x y = asks_same bytes h k r s x y

-- ---- the list that follows an opening

Goes : Bool → List ℕ → List Item → Bool → Type 0
Goes closes rest items inside = ((closes ≡ false) × AreRequests rest items inside) ⊎ ((closes ≡ true) × (items ≡ []) × (inside ≡ false))

Follows : Opening → List Item → Bool → Type 0
Follows over items inside = (items ≡ []) × (inside ≡ false)
Follows inside_head items inside = (items ≡ []) × (inside ≡ true)
Follows (refusal why bare) items inside = (items ≡ refused why bare ∷ []) × (inside ≡ false)
Follows (asked head (readings.whole content rest)) items inside = (more : List Item) × (items ≡ whole head content ∷ more) × Goes head.closes rest more inside
Follows (asked head (readings.bad content at)) items inside = (items ≡ stopped head content (BadChunk at) ∷ []) × (inside ≡ false)
Follows (asked head (readings.large content)) items inside = (items ≡ stopped head content BodyTooLarge ∷ []) × (inside ≡ false)
Follows (asked head (readings.cut content)) items inside = (items ≡ cut head content ∷ []) × (inside ≡ true)

Opened : List ℕ → List Item → Bool → Type 0
Opened bytes items inside = (o : Opening) × Opens (drop_blank bytes) o × Follows o items inside

opened : (bytes : List ℕ) (items : List Item) (inside : Bool) → AreRequests bytes items inside → Opened bytes items inside
unfolding Opened Follows Goes
opened bytes [] true x = (inside_head, x, (refl, refl))
opened bytes [] false x = (over, x, (refl, refl))
opened bytes (refused why bare ∷ items) inside x = (refusal why bare, x.0, (ap (λ (more : List Item). refused why bare ∷ more) x.1, x.2))
opened bytes (whole head content ∷ items) inside x = (asked head (readings.whole content x.0), x.1, (items, refl, x.2))
opened bytes (stopped head content (BadChunk at) ∷ items) inside x =
    (asked head (readings.bad content at), x.0, (ap (λ (more : List Item). stopped head content (BadChunk at) ∷ more) x.1, x.2))
opened bytes (stopped head content BodyTooLarge ∷ items) inside x =
    (asked head (readings.large content), x.0, (ap (λ (more : List Item). stopped head content BodyTooLarge ∷ more) x.1, x.2))
opened bytes (cut head content ∷ items) inside x = (asked head (readings.cut content), x.0, (ap (λ (more : List Item). cut head content ∷ more) x.1, x.2))

Same : List Item → List Item → Bool → Bool → Type 0
Same a b i j = (map merged a ≡ map merged b) × (i ≡ j)

-- where the two lists that go on behind one request are the same
Joins : Bool → List ℕ → List Item → List Item → Bool → Bool → Type 0
Joins closes rest a b i j = Goes closes rest a i → Goes closes rest b j → Same a b i j

goes_same : (closes : Bool) (rest : List ℕ) (a b : List Item) (i j : Bool) → (AreRequests rest a i → AreRequests rest b j → Same a b i j) → Joins closes rest a b i j
unfolding Joins Goes Same
goes_same closes rest a b i j more (inl x) (inl y) = more x.1 y.1
goes_same closes rest a b i j more (inl x) (inr y) = let clash : false ≡ true = sym x.0 ∙ y.0 in absurd cc
goes_same closes rest a b i j more (inr x) (inl y) = let clash : false ≡ true = sym y.0 ∙ x.0 in absurd cc
goes_same closes rest a b i j more (inr x) (inr y) = (ap (λ (items : List Item). map merged items) (x.1 ∙ sym y.1), x.2 ∙ sym y.2)

-- two lists of one item or none
lists_same : (a b c d : List Item) (i j k : Bool) → a ≡ c → b ≡ d → map merged c ≡ map merged d → i ≡ k → j ≡ k → Same a b i j
unfolding Same
lists_same a b c d i j k p q e x y = (ap (λ (items : List Item). map merged items) p ∙ e ∙ ap (λ (items : List Item). map merged items) (sym q), x ∙ sym y)

-- one reading behind one head
asked_same : (head : Head) (reading : Reading) (a b : List Item) (i j : Bool)
    → ((rest : List ℕ) (more others : List Item) → length more < length a → AreRequests rest more i → AreRequests rest others j → Same more others i j)
    → Follows (asked head reading) a i → Follows (asked head reading) b j → Same a b i j
unfolding Follows Same Joins
asked_same head (readings.whole content rest) a b i j more x y =
    let shorter : length x.0 < length a = omega (arith, ap (λ (items : List Item). length items) x.1) in
    let tails = goes_same head.closes rest x.0 y.0 i j (more rest x.0 y.0 shorter) x.2 y.2 in
    let made : List Item → List Item = λ items. whole head content ∷ items in (
      ap (λ (items : List Item). map merged items) x.1 ∙ ap made tails.0 ∙ ap (λ (items : List Item). map merged items) (sym y.1),
      tails.1,
    )
asked_same head (readings.bad content at) a b i j more x y = lists_same a b _ _ i j false x.0 y.0 refl x.1 y.1
asked_same head (readings.large content) a b i j more x y = lists_same a b _ _ i j false x.0 y.0 refl x.1 y.1
asked_same head (readings.cut content) a b i j more x y = lists_same a b _ _ i j true x.0 y.0 refl x.1 y.1

-- one opening
follows_same : (o p : Opening) (a b : List Item) (i j : Bool)
    → ((rest : List ℕ) (more others : List Item) → length more < length a → AreRequests rest more i → AreRequests rest others j → Same more others i j)
    → SameOpening o p → Follows o a i → Follows p b j → Same a b i j
unfolding SameOpening Follows
follows_same over over a b i j more same x y = lists_same a b [] [] i j false x.0 y.0 refl x.1 y.1
follows_same inside_head inside_head a b i j more same x y = lists_same a b [] [] i j true x.0 y.0 refl x.1 y.1
follows_same (refusal e g) (refusal f h) a b i j more same x y =
    lists_same a b (refused e g ∷ []) (refused f h ∷ []) i j false x.0 y.0 (one e f g h same.0 same.1) x.1 y.1
  where
    one : (e f : HeadErr) (g h : Bool) → merged_cause e ≡ merged_cause f → g ≡ h → map merged (refused e g ∷ []) ≡ map merged (refused f h ∷ [])
    one e f g h p q =
        let made : HeadErr → Bool → List Item = λ why bare. refused why bare ∷ [] in
        ap (λ (why : HeadErr). made why g) p ∙ ap (λ (bare : Bool). made (merged_cause f) bare) q
follows_same (asked h r) (asked k s) a b i j more same x y =
    asked_same h r a b i j more x (subst (λ (head : Head). Follows (asked head r) b j) (sym same.0) (subst (λ (reading : Reading). Follows (asked k reading) b j) (sym same.1) y))
follows_same over inside_head a b i j more same x y = absurd same
follows_same over (refusal f h) a b i j more same x y = absurd same
follows_same over (asked k s) a b i j more same x y = absurd same
follows_same inside_head over a b i j more same x y = absurd same
follows_same inside_head (refusal f h) a b i j more same x y = absurd same
follows_same inside_head (asked k s) a b i j more same x y = absurd same
follows_same (refusal e g) over a b i j more same x y = absurd same
follows_same (refusal e g) inside_head a b i j more same x y = absurd same
follows_same (refusal e g) (asked k s) a b i j more same x y = absurd same
follows_same (asked h r) over a b i j more same x y = absurd same
follows_same (asked h r) inside_head a b i j more same x y = absurd same
follows_same (asked h r) (refusal f c) a b i j more same x y = absurd same

-- lists of at most so many items
unique_below : (n : ℕ) (a b : List Item) (bytes : List ℕ) (i j : Bool) → length a < n → AreRequests bytes a i → AreRequests bytes b j → Same a b i j
unfolding Opened
unique_below zero a b bytes i j lt x y = absurd (omega arith)
unique_below (suc n) a b bytes i j lt x y =
    let p = opened bytes a i x in
    let q = opened bytes b j y in
    follows_same p.0 q.0 a b i j (λ rest more others shorter u v. unique_below n more others rest i j (omega arith) u v)
    (opens_same (drop_blank bytes) p.0 q.0 p.1 q.1) p.2 q.2

pub unique : (bytes : List ℕ) (a b : List Item) (i j : Bool) → AreRequests bytes a i → AreRequests bytes b j → (map merged a ≡ map merged b) × (i ≡ j)
unfolding Same
unique bytes a b i j x y = unique_below (length a + 1) a b bytes i j (omega arith) x y
