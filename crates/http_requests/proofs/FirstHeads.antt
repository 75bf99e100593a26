-- A stream has one head in front, with one answer to it.
use Rattle.std.proofs.Common.{◌≡◌, ℕ, ◌⊎◌, Bool, List, [], ◌∷◌, ◌++◌, length, take, drop, Result, Ok, Err, refl, sym, ap, subst, ◌∙◌, arith, inl, inr, length-append}
use Rattle.std.proofs.lemmas.Bool.{cases_lt}
use Rattle.std.proofs.lemmas.List.{take_at, drop_at, take-take, take_all}
use Rattle.httparse.specs.Grammar.{RequestHead}
use Rattle.httparse.proofs.GrammarLemmas.{request_unique}
use Rattle.http_heads.specs.declared.head.Head.{Head}
use Rattle.http_heads.specs.declared.head_err.HeadErr.{HeadErr}
use Rattle.http_heads.specs.declared.head_err.HeadErr.TheVariants.{HeadTooLarge, TooManyHeaders, BadHead, BadMethod, BadPath, BothFramings, BadCoding, BadLength, LengthRequired, BodyTooLarge, NoMemory}
use Rattle.http_heads.specs.Cut.{IsHeadLen, EndsHead}
use Rattle.http_heads.specs.Head.{IsWholeHead, judge_of, GivesHead}
use Rattle.http_heads.proofs.Limits.{head_limit_is}
use Rattle.http_requests.specs.Heads.{asks_for_head, FirstHead, Accepts, HasTooLong, HasRefused, IsRefused, EndsInHead, merged_cause}

no_end : ¬ (EndsHead [])
no_end (prefix, inl e) = absurd (omega (arith, ap length e, length-append prefix (10 ∷ 10 ∷ [])))
no_end (prefix, inr e) = absurd (omega (arith, ap length e, length-append prefix (10 ∷ 13 ∷ 10 ∷ [])))

one_len : (d : List ℕ) (n m : ℕ) → IsHeadLen d n → IsHeadLen d m → n ≡ m
one_len d n m x y = elim (cases_lt n m) [
  | inl lt ↦ absurd (y.shortest n lt x.ends)
  | inr ge ↦ elim (cases_lt m n) [ inl lt ↦ absurd (x.shortest m lt y.ends) | inr le ↦ omega arith ]
]

pub one_split : (t r u s : List ℕ) → length t ≡ length u → t ++ r ≡ u ++ s → (t ≡ u) × (r ≡ s)
one_split t r u s len e = (
  sym (take_at t r (length t) refl) ∙ ap (take (length t)) e ∙ take_at u s (length t) (sym len),
  sym (drop_at t r (length t) refl) ∙ ap (drop (length t)) e ∙ drop_at u s (length t) (sym len),
)

first_same : (bytes t r u s : List ℕ) → FirstHead bytes t r → FirstHead bytes u s → (t ≡ u) × (r ≡ s)
first_same bytes t r u s x y = one_split t r u s (one_len bytes (length t) (length u) x.shortest y.shortest) (sym x.parts ∙ y.parts)

first_some : (bytes t r : List ℕ) → FirstHead bytes t r → bytes ≡ [] → ⊥
first_some bytes t r x e = no_end (subst EndsHead (ap (take (length t)) e ∙ take_all (length t) [] (omega arith)) x.shortest.ends)

first_open : (bytes t r : List ℕ) → FirstHead bytes t r → EndsInHead bytes → ⊥
first_open bytes t r x o = o.none (length t) x.shortest.ends

first_long : (bytes t r : List ℕ) (bare : Bool) → FirstHead bytes t r → HasTooLong bytes bare → ⊥
first_long bytes t r bare x o =
    let window : take (length o.text) bytes ≡ o.text = ap (take (length o.text)) o.parts ∙ take_at o.text o.rest (length o.text) refl in
    let same : take (length t) bytes ≡ take (length t) o.text = sym (take-take (length t) (length o.text) bytes (omega (arith, x.room, o.long))) ∙ ap (take (length t)) window in
    o.none (length t) (subst EndsHead same x.shortest.ends)

-- ---- one answer to a text

-- what an answer says of a text whose length is no refusal: none reads it, or the judgement of the one that does
Answered : List ℕ → Result Head HeadErr → Type 0
Answered text answer =
    (((head : RequestHead) → IsWholeHead text head → ⊥) × ((answer ≡ Err BadHead) ⊎ (answer ≡ Err TooManyHeaders)))
    ⊎ ((head : RequestHead) × IsWholeHead text head × (judge_of head ≡ answer))

merge : Result Head HeadErr → Result Head HeadErr
merge (Ok head) = Ok head
merge (Err why) = Err (merged_cause why)

bad_merge : (answer : Result Head HeadErr) → (answer ≡ Err BadHead) ⊎ (answer ≡ Err TooManyHeaders) → merge answer ≡ Err BadHead
unfolding merge
bad_merge answer (inl e) = rw e refl
bad_merge answer (inr e) = rw e refl

answered_same : (text : List ℕ) (a b : Result Head HeadErr) → Answered text a → Answered text b → merge a ≡ merge b
unfolding Answered
answered_same text a b (inl x) (inl y) = bad_merge a x.1 ∙ sym (bad_merge b y.1)
answered_same text a b (inl x) (inr y) = absurd (x.0 y.0 y.1)
answered_same text a b (inr x) (inl y) = absurd (y.0 x.0 x.1)
answered_same text a b (inr x) (inr y) =
    let heads = request_unique text x.0 y.0 [] [] x.1.reads y.1.reads in
    ap merge (sym x.2 ∙ ap judge_of heads.0 ∙ y.2)

answered_ok : (text : List ℕ) (head : Head) → GivesHead text (Ok head) → Answered text (Ok head)
unfolding Answered
answered_ok text head g = inr (g.0, g.1, g.2)

-- a refusal in front, whose text isn't too long
answered_err : (bytes : List ℕ) (why : HeadErr) (bare : Bool) → IsRefused bytes why bare → (HasTooLong bytes bare × (why ≡ HeadTooLarge)) ⊎ ((x : HasRefused bytes why bare) × Answered x.text (Err why))
unfolding Answered
answered_err bytes HeadTooLarge bare x = inl (x, refl)
answered_err bytes TooManyHeaders bare x = inr (x, inl (λ head whole. absurd (omega (arith, x.gives.1 head whole.reads, whole.room)), inr refl))
answered_err bytes BadHead bare x = inr (x, inl (λ head whole. x.gives.1 head whole.reads, inl refl))
answered_err bytes BadMethod bare x = inr (x, inr (x.gives.0, x.gives.1, x.gives.2))
answered_err bytes BadPath bare x = inr (x, inr (x.gives.0, x.gives.1, x.gives.2))
answered_err bytes BothFramings bare x = inr (x, inr (x.gives.0, x.gives.1, x.gives.2))
answered_err bytes BadCoding bare x = inr (x, inr (x.gives.0, x.gives.1, x.gives.2))
answered_err bytes BadLength bare x = inr (x, inr (x.gives.0, x.gives.1, x.gives.2))
answered_err bytes LengthRequired bare x = inr (x, inr (x.gives.0, x.gives.1, x.gives.2))
answered_err bytes BodyTooLarge bare x = inr (x, inr (x.gives.0, x.gives.1, x.gives.2))
answered_err bytes NoMemory bare x = absurd x

-- ---- one opening

pub accepts_same : (bytes r s : List ℕ) (a b : Head) → Accepts bytes a r → Accepts bytes b s → (a ≡ b) × (r ≡ s)
unfolding merge
accepts_same bytes r s a b x y =
    let same = first_same bytes x.text r y.text s x.first y.first in
    let there : Answered x.text (Ok b) = subst (λ (t : List ℕ). Answered t (Ok b)) (sym same.0) (answered_ok y.text b y.gives) in
    let answers : ◌≡◌ {A = Result Head HeadErr} (Ok a) (Ok b) = answered_same x.text (Ok a) (Ok b) (answered_ok x.text a x.gives) there in
    (cc, same.1)

pub accepts_refused : (bytes r : List ℕ) (a : Head) (why : HeadErr) (bare : Bool) → Accepts bytes a r → IsRefused bytes why bare → ⊥
unfolding merge
accepts_refused bytes r a why bare x y = elim (answered_err bytes why bare y) [
  | inl long ↦ first_long bytes x.text r bare x.first long.0
  | inr found ↦
      let same = first_same bytes x.text r found.0.text found.0.rest x.first found.0.first in
      let there : Answered x.text (Err why) = subst (λ (t : List ℕ). Answered t (Err why)) (sym same.0) found.1 in
      let clash : ◌≡◌ {A = Result Head HeadErr} (Ok a) (Err (merged_cause why)) = answered_same x.text (Ok a) (Err why) (answered_ok x.text a x.gives) there in
      absurd cc
]

long_same : (bytes : List ℕ) (b c : Bool) → HasTooLong bytes b → HasTooLong bytes c → b ≡ c
long_same bytes b c x y = x.begins ∙ ap asks_for_head (one_split x.text x.rest y.text y.rest (x.long ∙ sym y.long) (sym x.parts ∙ y.parts)).0 ∙ sym y.begins

pub refused_same : (bytes : List ℕ) (e f : HeadErr) (b c : Bool) → IsRefused bytes e b → IsRefused bytes f c → (merged_cause e ≡ merged_cause f) × (b ≡ c)
unfolding merge
refused_same bytes e f b c x y = elim (answered_err bytes e b x) [
  | inl long ↦ elim (answered_err bytes f c y) [
    | inl other ↦ (ap merged_cause (long.1 ∙ sym other.1), long_same bytes b c long.0 other.0)
    | inr found ↦ absurd (first_long bytes found.0.text found.0.rest b found.0.first long.0)
  ]
  | inr found ↦ elim (answered_err bytes f c y) [
    | inl long ↦ absurd (first_long bytes found.0.text found.0.rest c found.0.first long.0)
    | inr other ↦
        let same = first_same bytes found.0.text found.0.rest other.0.text other.0.rest found.0.first other.0.first in
        let there : Answered found.0.text (Err f) = subst (λ (t : List ℕ). Answered t (Err f)) (sym same.0) other.1 in
        let answers : ◌≡◌ {A = Result Head HeadErr} (Err (merged_cause e)) (Err (merged_cause f)) = answered_same found.0.text (Err e) (Err f) found.1 there in
        (cc, found.0.begins ∙ ap asks_for_head same.0 ∙ sym other.0.begins)
  ]
]

pub refused_some : (bytes : List ℕ) (why : HeadErr) (bare : Bool) → IsRefused bytes why bare → bytes ≡ [] → ⊥
refused_some bytes why bare x e = elim (answered_err bytes why bare x) [
  | inl long ↦ absurd (omega (arith, ap length e, ap length long.0.parts, length-append long.0.text long.0.rest, long.0.long, head_limit_is))
  | inr found ↦ first_some bytes found.0.text found.0.rest found.0.first e
]

pub refused_open : (bytes : List ℕ) (why : HeadErr) (bare : Bool) → IsRefused bytes why bare → EndsInHead bytes → ⊥
refused_open bytes why bare x o = elim (answered_err bytes why bare x) [
  | inl long ↦ absurd (omega (arith, ap length long.0.parts, length-append long.0.text long.0.rest, long.0.long, o.short))
  | inr found ↦ first_open bytes found.0.text found.0.rest found.0.first o
]

pub accepts_some : (bytes r : List ℕ) (a : Head) → Accepts bytes a r → bytes ≡ [] → ⊥
accepts_some bytes r a x e = first_some bytes x.text r x.first e

pub accepts_open : (bytes r : List ℕ) (a : Head) → Accepts bytes a r → EndsInHead bytes → ⊥
accepts_open bytes r a x o = first_open bytes x.text r x.first o

pub open_some : (bytes : List ℕ) → EndsInHead bytes → bytes ≡ [] → ⊥
open_some bytes o e = omega (arith, ap length e, o.some)
