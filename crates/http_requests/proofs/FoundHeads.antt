-- A stream holds a list of requests.
use Rattle.std.proofs.Common.{◌≡◌, ◌≢◌, ℕ, zero, suc, ◌+◌, ◌<◌, ◌≤◌, min, Bool, true, false, cond, eqb, ◌&&◌, List, [], ◌∷◌, ◌++◌, length, take, drop, Result, Ok, Err, refl, sym, ap, subst, ◌∙◌, arith, inl, inr, length-append, append_assoc}
use Rattle.std.proofs.lemmas.Bool.{cases_lt}
use Rattle.std.proofs.lemmas.List.{drop_at, take-append-drop, take_all, nil_from_length, length-take-le}
use Rattle.http_heads.specs.declared.framing.Framing.{Framing}
use Rattle.http_heads.specs.declared.framing.Framing.TheVariants as framings
use Rattle.http_heads.specs.declared.head.Head.{Head}
use Rattle.http_heads.specs.declared.head_err.HeadErr.{HeadErr}
use Rattle.http_heads.specs.declared.head_err.HeadErr.TheVariants.{HeadTooLarge, NoMemory}
use Rattle.http_heads.specs.declared.body_err.BodyErr.TheVariants.{BadChunk, BodyTooLarge}
use Rattle.http_heads.specs.Cut.{drop_blank, HasNoHead, head_limit}
use Rattle.http_heads.specs.Found.{HasAnswer}
use Rattle.http_heads.specs.Head.{GivesHead}
use Rattle.http_heads.proofs.Appends.{two_bytes}
use Rattle.http_chunks.specs.Reading as readings
use Rattle.http_chunks.specs.Reading.{Reading, Holds}
use Rattle.http_chunks.specs.Found.{HasReading}
use Rattle.http_requests.specs.Heads.{asks_for_head, FirstHead}
use Rattle.http_requests.specs.Bodies.{HoldsLength, HoldsBody}
use Rattle.http_requests.specs.Requests.{refused, whole, stopped, cut, Asks}
use Rattle.http_requests.specs.Found.{Opening, over, inside_head, refusal, asked, Opens, HasPrefix, HasOpening, HasRequests}
use Rattle.http_requests.proofs.Firsts.{refuses}

-- ---- one content

some_length : (n : ℕ) (bytes : List ℕ) → (reading : Reading) × HoldsLength n bytes reading
some_length n bytes = elim (cases_lt (length bytes) n) [
  | inl short ↦ (readings.cut bytes, (short, refl))
  | inr le ↦ (readings.whole (take n bytes) (drop n bytes), (length-take-le n bytes le, sym (take-append-drop n bytes)))
]

some_body : (framing : Framing) (bytes : List ℕ) → HasReading bytes → (reading : Reading) × HoldsBody framing bytes reading
some_body framings.None bytes chunked = some_length 0 bytes
some_body (framings.Length n) bytes chunked = some_length n bytes
some_body framings.Chunked bytes chunked = chunked

-- ---- one opening

answered : (bytes t r : List ℕ) (answer : Result Head HeadErr) → FirstHead bytes t r → GivesHead t answer → answer ≢ Err NoMemory → HasReading r → HasPrefix bytes
answered bytes t r (Ok head) first gives told chunked =
    let body = some_body head.framing r chunked in
    (asked head body.0, record { body = r; accepts = record { text = t; first = first; gives = gives }; holds = body.1 })
answered bytes t r (Err why) first gives told chunked =
    (refusal why (asks_for_head t), refuses bytes t r why (asks_for_head t) first gives (λ same. told (ap Err same)) refl)

pub some_head : (bytes t r : List ℕ) → FirstHead bytes t r → HasAnswer t → HasReading r → HasPrefix bytes
some_head bytes t r first answer chunked = answered bytes t r answer.0 first answer.1 answer.2 chunked

-- no head lies in the bytes that a head may have
pub no_head : (bytes : List ℕ) (m : ℕ) → m ≡ min (length bytes) head_limit → HasNoHead (take m bytes) → HasPrefix bytes
no_head bytes m is none = elim (cases_lt (length bytes) head_limit) [
  | inl short ↦ elim (cases_lt 0 (length bytes)) [
    | inl some ↦ (inside_head, record { some = some; short = short; none = subst HasNoHead (take_all m bytes (omega (arith, is, short))) none })
    | inr empty ↦ (over, nil_from_length bytes (omega (arith, empty)))
  ]
  | inr long ↦ (
    refusal HeadTooLarge (asks_for_head (take head_limit bytes)),
    record {
      text = take head_limit bytes;
      rest = drop head_limit bytes;
      parts = sym (take-append-drop head_limit bytes);
      long = length-take-le head_limit bytes long;
      none = subst (λ (k : ℕ). HasNoHead (take k bytes)) (omega (arith, is, long)) none;
      begins = refl;
    },
  )
]

-- ---- the rests of a stream

Ends : List ℕ → List ℕ → Type 0
Ends bytes rest = (prefix : List ℕ) × (bytes ≡ prefix ++ rest)

ends_behind : (bytes middle rest : List ℕ) → Ends bytes middle → Ends middle rest → Ends bytes rest
unfolding Ends
ends_behind bytes middle rest (prefix, e) (more, f) = (prefix ++ more, e ∙ ap (λ (t : List ℕ). prefix ++ t) f ∙ sym (append_assoc prefix more rest))

ends_cond : (p q : Bool) (bytes u v : List ℕ) → Ends bytes u → Ends bytes v → Ends bytes (cond p u (cond q v bytes))
unfolding Ends
ends_cond true q bytes u v e f = e
ends_cond false true bytes u v e f = f
ends_cond false false bytes u v e f = ([], refl)

ends_one : (p : Bool) (b : ℕ) → Ends (b ∷ []) (cond p [] (b ∷ []))
unfolding Ends
ends_one true b = (b ∷ [], refl)
ends_one false b = ([], refl)

ends_blank : (bytes : List ℕ) → Ends bytes (drop_blank bytes)
unfolding Ends
ends_blank [] = ([], refl)
ends_blank (b ∷ []) = ends_one (eqb b 10) b
ends_blank (b ∷ c ∷ bytes) =
    ends_cond (eqb b 10) (eqb b 13 && eqb c 10) (b ∷ c ∷ bytes) (drop_blank (c ∷ bytes)) (drop_blank bytes)
    (ends_behind (b ∷ c ∷ bytes) (c ∷ bytes) (drop_blank (c ∷ bytes)) (b ∷ [], refl) (ends_blank (c ∷ bytes)))
    (ends_behind (b ∷ c ∷ bytes) bytes (drop_blank bytes) (b ∷ c ∷ [], refl) (ends_blank bytes))

ends_body : (framing : Framing) (bytes content rest : List ℕ) → HoldsBody framing bytes (readings.whole content rest) → Ends bytes rest
unfolding Ends
ends_body framings.None bytes content rest h = (content, h.1)
ends_body (framings.Length n) bytes content rest h = (content, h.1)
ends_body framings.Chunked bytes content rest h = (h.prefix, h.parts)

ends_length : (bytes rest : List ℕ) → Ends bytes rest → length rest ≤ length bytes
unfolding Ends
ends_length bytes rest e = omega (arith, ap length e.1, length-append e.0 rest)

-- the rest behind a request is shorter
rest_shorter : (bytes : List ℕ) (head : Head) (content rest : List ℕ) → Asks bytes head (readings.whole content rest) → Ends bytes rest × (length rest < length bytes)
unfolding Ends
rest_shorter bytes head content rest asks =
    let first = asks.accepts.first in
    let text = asks.accepts.text in
    let behind : Ends asks.body rest = ends_body head.framing asks.body content rest asks.holds in
    let two = two_bytes bytes (length text) first.shortest in (
      ends_behind bytes asks.body rest (text, first.parts) behind,
      omega (arith, two, ap length first.parts, length-append text asks.body, ends_length asks.body rest behind),
    )

-- ---- the list

-- a request and what follows it, where it closes and where it doesn't
goes_on : (bytes : List ℕ) (head : Head) (content rest : List ℕ) (closes : Bool) → head.closes ≡ closes → Asks (drop_blank bytes) head (readings.whole content rest)
    → HasRequests rest → HasRequests bytes
goes_on bytes head content rest true is asks more = (whole head content ∷ [], false, (rest, asks, inr (is, refl, refl)))
goes_on bytes head content rest false is asks more = (whole head content ∷ more.0, more.1, (rest, asks, inl (is, more.2)))

opened : (bytes : List ℕ) (o : Opening) → Opens (drop_blank bytes) o
    → ((rest : List ℕ) → Ends bytes rest → length rest < length bytes → HasRequests rest) → HasRequests bytes
opened bytes over x more = ([], false, x)
opened bytes inside_head x more = ([], true, x)
opened bytes (refusal why bare) x more = (refused why bare ∷ [], false, (x, refl, refl))
opened bytes (asked head (readings.whole content rest)) x more =
    let shorter = rest_shorter (drop_blank bytes) head content rest x in
    let blank = ends_blank bytes in
    goes_on bytes head content rest head.closes refl x
    (more rest (ends_behind bytes (drop_blank bytes) rest blank shorter.0) (omega (arith, shorter.1, ends_length bytes (drop_blank bytes) blank)))
opened bytes (asked head (readings.bad content at)) x more = (stopped head content (BadChunk at) ∷ [], false, (x, refl, refl))
opened bytes (asked head (readings.large content)) x more = (stopped head content BodyTooLarge ∷ [], false, (x, refl, refl))
opened bytes (asked head (readings.cut content)) x more = (cut head content ∷ [], true, (x, refl, refl))

list_below : (n : ℕ) (bytes : List ℕ) → length bytes < n → ((rest : List ℕ) → Ends bytes rest → HasOpening rest) → HasRequests bytes
unfolding Ends
list_below zero bytes lt opens = absurd (omega (arith, lt))
list_below (suc n) bytes lt opens =
    let first = opens bytes ([], refl) in
    opened bytes first.0 first.1 (λ rest ends shorter. list_below n rest (omega (arith, lt, shorter)) (λ other behind. opens other (ends_behind bytes rest other ends behind)))

-- what stands in front of each rest, by the place where the rest begins
pub list_of : (bytes : List ℕ) → ((k : ℕ) → k < length bytes → HasOpening (drop k bytes)) → HasRequests bytes
unfolding Ends
list_of bytes opens = list_below (length bytes + 1) bytes (omega arith) (λ rest ends. at_place rest ends.0 ends.1)
  where
    at_place : (rest prefix : List ℕ) → bytes ≡ prefix ++ rest → HasOpening rest
    at_place rest prefix e = elim (cases_lt (length prefix) (length bytes)) [
      | inl lt ↦ subst HasOpening (ap (drop (length prefix)) e ∙ drop_at prefix rest (length prefix) refl) (opens (length prefix) lt)
      | inr ge ↦
          let none : rest ≡ [] = nil_from_length rest (omega (arith, ge, ap length e, length-append prefix rest)) in
          subst HasOpening (sym none) (over, refl)
    ]
