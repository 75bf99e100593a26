-- Lemmas on the places of an id's text.
use Rattle.std.proofs.Common.{◌≡◌, ◌<◌, ◌≤◌, ℕ, zero, suc, ◌+◌, ◌*◌, ◌/◌, ◌%◌, ◌==◌, List, [], ◌∷◌, length, get_or, drop, Option, Some, None, Bool, true, false, true≢false, is_some, unwrap_or, if◌then◌else◌, arith, refl, sym, ap, ◌∙◌, inl, inr, slice_index, nat_lt}
use Rattle.std.proofs.lemmas.Bool.{cases_lt}
use Rattle.std.proofs.lemmas.Bool.Decides.{nat_tests}
use Rattle.std.proofs.lemmas.List.{at_drop_more, get_or_default}
use Rattle.std.proofs.Math.ListN.{drop_of_length-le}
use Rattle.uuid.specs.Text.{by_index, lower, hex_digit, nibble, is_hyphen_place, digit_place, hyphen_place, is_hex_digit, value_of, byte_of_digits, digits_of, has_hyphens, parsed, hyphenated_text}
use Rattle.uuid.proofs.TextLemmas.{by_index_length, by_index_at, by_index_same, simple_some, hyphens_pass, nibble_even, nibble_odd, nibble_small}
use Rattle.nx_base.specs.Ids.{is_id_byte, is_lower_digit}
use Rattle.nx_base.specs.Ids.{bad_id_place, id_refusal}
use Rattle.nx_base.specs.declared.name_err.NameErr.TheVariants.{BadByte}

pub bad_step : (t : List ℕ) (k : ℕ) → k < length t → bad_id_place k (drop k t) ≡ (if is_id_byte k (get_or t k 0) then bad_id_place (k + 1) (drop (k + 1) t) else Some k)
unfolding bad_id_place
bad_step t k h = at_drop_more (bad_id_place k) t k 0 h

pub bad_here : (t : List ℕ) (k : ℕ) → k < length t → is_id_byte k (get_or t k 0) ≡ false → bad_id_place k (drop k t) ≡ Some k
bad_here t k h bad = bad_step t k h ∙ rw bad refl

pub bad_later : (t : List ℕ) (k : ℕ) → k < length t → is_id_byte k (get_or t k 0) ≡ true → bad_id_place k (drop k t) ≡ bad_id_place (k + 1) (drop (k + 1) t)
bad_later t k h good = bad_step t k h ∙ rw good refl

pub bad_end : (t : List ℕ) (k : ℕ) → length t ≤ k → bad_id_place k (drop k t) ≡ (if k == 36 then None else Some k)
unfolding bad_id_place
bad_end t k h = rw (drop_of_length-le t h) refl

-- a text without a bad place
if_good : (b : Bool) (k : ℕ) (o : Option ℕ) → (if b then o else Some k) ≡ None → (b ≡ true) × (o ≡ None)
if_good true k o e = (refl, e)
if_good false k o e = absurd (true≢false (ap is_some e))

if_whole : (b : Bool) (k : ℕ) → (if b then None else Some k) ≡ None → b ≡ true
if_whole true k e = refl
if_whole false k e = absurd (true≢false (ap is_some e))

places : (k b : ℕ) (rest : List ℕ) → is_id_byte k b ≡ true → ((j : ℕ) → j < length rest → is_id_byte (k + 1 + j) (get_or rest j 0) ≡ true)
    → (j : ℕ) → j < suc (length rest) → is_id_byte (k + j) (get_or (b ∷ rest) j 0) ≡ true
places k b rest here below zero h = let same : k + 0 ≡ k = omega arith in rw same here
places k b rest here below (suc j) h = let same : k + suc j ≡ k + 1 + j = omega arith in rw same (below j (omega arith))

pub no_bad : (k : ℕ) (t : List ℕ) → bad_id_place k t ≡ None
    → (k + length t ≡ 36) × ((j : ℕ) → j < length t → is_id_byte (k + j) (get_or t j 0) ≡ true)
unfolding bad_id_place
no_bad k [] e =
    let whole : (k == 36) ≡ true = if_whole (k == 36) k e in
    (grind (arith, nat_tests), λ j h. absurd (omega arith))
no_bad k (b ∷ rest) e =
    let here = if_good (is_id_byte k b) k (bad_id_place (k + 1) rest) e in
    let below = no_bad (k + 1) rest here.1 in
    (omega (arith, below.0), places k b rest here.0 below.1)

-- ---- a whole text

digit_is : (b : Bool) (x : ℕ) (p : Bool) → b ≡ false → (if b then x == 45 else p) ≡ true → p ≡ true
digit_is true x p not_hyphen e = absurd (true≢false not_hyphen)
digit_is false x p not_hyphen e = e

lower_is_digit : (c : ℕ) → is_lower_digit c ≡ true → is_hex_digit c ≡ true
lower_is_digit c e = grind (arith, nat_tests)

lower_back : (c : ℕ) → is_lower_digit c ≡ true → (value_of c < 16) × (hex_digit lower (value_of c) ≡ c)
lower_back c e = (grind (arith, nat_tests), grind (arith, nat_tests))

high : (v w : ℕ) → v < 16 → w < 16 → (v * 16 + w) / 16 % 16 ≡ v
high v w p q = omega arith

low : (v w : ℕ) → w < 16 → (v * 16 + w) % 16 ≡ w
low v w q = omega arith

place_back : (b : Bool) (x v : ℕ) → (if b then x == 45 else is_lower_digit x) ≡ true → (b ≡ false → v ≡ value_of x)
    → x ≡ (if b then 45 else hex_digit lower v)
place_back true x v e h = grind (arith, nat_tests)
place_back false x v e h = rw (h refl) (sym (lower_back x e).1)

module _ (t : List ℕ) (good : bad_id_place 0 t ≡ None) where
  long : length t ≡ 36
  long = omega (arith, (no_bad 0 t good).0)

  at_place : (k : ℕ) → k < 36 → is_id_byte k (get_or t k 0) ≡ true
  at_place k h =
      let same : 0 + k ≡ k = omega arith in
      rw same at ((no_bad 0 t good).1 k (rw long h))

  hyphens : has_hyphens t ≡ true
  hyphens = rw (at_place 8 (omega arith), at_place 13 (omega arith), at_place 18 (omega arith), at_place 23 (omega arith)) refl

  digit_at : (i d : ℕ) → i < 32 → get_or (digits_of t) i d ≡ get_or t (hyphen_place i) 0
  digit_at i d h = by_index_at 32 (λ j. slice_index t (hyphen_place j)) i d h

  is_digit_at : (i : ℕ) → i < 32 → is_lower_digit (get_or t (hyphen_place i) 0) ≡ true
  is_digit_at i h =
      digit_is (is_hyphen_place (hyphen_place i)) (get_or t (hyphen_place i) 0) (is_lower_digit (get_or t (hyphen_place i) 0))
      (grind (arith, nat_tests)) (at_place (hyphen_place i) (grind (arith, nat_tests)))

  abbrev pub bytes : List ℕ
  bytes = by_index 16 (byte_of_digits (digits_of t))

  pub parses : Some bytes ≡ parsed t
  parses =
      let simple = simple_some (digits_of t) bytes (by_index_length 32 _) (by_index_length 16 _)
      (λ k h. rw (digit_at k 0 h) (lower_is_digit (get_or t (hyphen_place k) 0) (is_digit_at k h)))
      (λ i d h. by_index_at 16 (byte_of_digits (digits_of t)) i d h) in
      simple ∙ hyphens_pass t long hyphens ∙ (rw long refl)

  byte_at : (j : ℕ) → j < 16 → get_or bytes j 0 ≡ value_of (get_or t (hyphen_place (2 * j)) 0) * 16 + value_of (get_or t (hyphen_place (2 * j + 1)) 0)
  byte_at j h =
      by_index_at 16 (byte_of_digits (digits_of t)) j 0 h
      ∙ rw (digit_at (2 * j) 0 (omega arith), digit_at (2 * j + 1) 0 (omega arith)) refl

  even_at : (j : ℕ) → j < 16 → nibble bytes (2 * j) ≡ value_of (get_or t (hyphen_place (2 * j)) 0)
  even_at j h =
      let first = (lower_back (get_or t (hyphen_place (2 * j)) 0) (is_digit_at (2 * j) (omega arith))).0 in
      let second = (lower_back (get_or t (hyphen_place (2 * j + 1)) 0) (is_digit_at (2 * j + 1) (omega arith))).0 in
      nibble_even bytes j ∙ rw (byte_at j h) (high _ _ first second)

  odd_at : (j : ℕ) → j < 16 → nibble bytes (2 * j + 1) ≡ value_of (get_or t (hyphen_place (2 * j + 1)) 0)
  odd_at j h =
      let second = (lower_back (get_or t (hyphen_place (2 * j + 1)) 0) (is_digit_at (2 * j + 1) (omega arith))).0 in
      nibble_odd bytes j ∙ rw (byte_at j h) (low _ _ second)

  nibble_at : (i : ℕ) → i < 32 → nibble bytes i ≡ value_of (get_or t (hyphen_place i) 0)
  nibble_at i h =
      elim (cases_lt (i % 2) 1) [
        | inl even ↦ let same : i ≡ 2 * (i / 2) = omega arith in rw same (even_at (i / 2) (omega arith))
        | inr odd ↦ let same : i ≡ 2 * (i / 2) + 1 = omega arith in rw same (odd_at (i / 2) (omega arith))
      ]

  value_at : (k : ℕ) → k < 36 → is_hyphen_place k ≡ false → nibble bytes (digit_place k) ≡ value_of (get_or t k 0)
  value_at k h not_hyphen =
      let here : hyphen_place (digit_place k) ≡ k = grind (arith, nat_tests) in
      let within : digit_place k < 32 = grind (arith, nat_tests) in
      rw here at (nibble_at (digit_place k) within)

  pub text_back : hyphenated_text lower bytes ≡ t
  text_back = sym (by_index_same t 36 _ long (λ k d h.
      get_or_default t k d 0 (rw long h) ∙ place_back (is_hyphen_place k) (get_or t k 0) (nibble bytes (digit_place k)) (at_place k h) (value_at k h)))

-- ---- the refusal of a text that is neither empty nor too long

pub refusal_is : (t : List ℕ) (at : ℕ) → 0 < length t → length t ≤ 36 → bad_id_place 0 t ≡ Some at → id_refusal t ≡ Some (BadByte at)
refusal_is t at some short bad =
    let not_empty : (length t == 0) ≡ false = grind (arith, nat_tests) in
    let not_long : nat_lt 36 (length t) ≡ false = grind (arith, nat_tests) in
    rw (not_empty, not_long, bad) refl

pub refusal_none : (t : List ℕ) → 0 < length t → length t ≤ 36 → bad_id_place 0 t ≡ None → id_refusal t ≡ None
refusal_none t some short bad =
    let not_empty : (length t == 0) ≡ false = grind (arith, nat_tests) in
    let not_long : nat_lt 36 (length t) ≡ false = grind (arith, nat_tests) in
    rw (not_empty, not_long, bad) refl

-- where the loop has come to the end of a text
pub bad_short : (t : List ℕ) (k : ℕ) → length t ≤ k → k ≤ length t → length t < 36 → bad_id_place 0 t ≡ bad_id_place k (drop k t) → bad_id_place 0 t ≡ Some (length t)
bad_short t k h h₂ short e =
    let same : k ≡ length t = omega arith in
    let other : (k == 36) ≡ false = grind (arith, nat_tests) in
    e ∙ bad_end t k h ∙ rw other (ap Some same)

pub bad_whole : (t : List ℕ) (k : ℕ) → length t ≤ k → k ≤ length t → length t ≤ 36 → 36 ≤ length t → bad_id_place 0 t ≡ bad_id_place k (drop k t) → bad_id_place 0 t ≡ None
bad_whole t k h h₂ short long e =
    let whole : (k == 36) ≡ true = grind (arith, nat_tests) in
    e ∙ bad_end t k h ∙ rw whole refl

-- what a parse that answers this says of the text
pub same_bytes : (t u : List ℕ) → bad_id_place 0 t ≡ None → Some u ≡ parsed t → hyphenated_text lower u ≡ t
same_bytes t u good is_u =
    let same : u ≡ bytes t good = ap (λ (o : Option (List ℕ)). unwrap_or o []) (is_u ∙ sym (parses t good)) in
    rw same (text_back t good)

-- ---- the text of an id is one

-- a text of which each byte stands well
none_bad : (k : ℕ) (t : List ℕ) → k + length t ≡ 36 → ((j : ℕ) → j < length t → is_id_byte (k + j) (get_or t j 0) ≡ true) → bad_id_place k t ≡ None
unfolding bad_id_place
none_bad k [] whole good = let at : (k == 36) ≡ true = grind (arith, nat_tests) in rw at refl
none_bad k (b ∷ rest) whole good =
    let here : is_id_byte k b ≡ true = (let same : k + 0 ≡ k = omega arith in rw same at (good 0 (omega arith))) in
    rw here (none_bad (k + 1) rest (omega arith) (λ j h. let same : k + 1 + j ≡ k + suc j = omega arith in rw same (good (suc j) (omega arith))))

digit-lower : (d : ℕ) → d < 16 → is_lower_digit (hex_digit lower d) ≡ true
digit-lower d small = grind (arith, nat_tests)

place-good : (hyphen : Bool) (d : ℕ) → d < 16 → (if hyphen then (if hyphen then 45 else hex_digit lower d) == 45 else is_lower_digit (if hyphen then 45 else hex_digit lower d)) ≡ true
place-good true d small = refl
place-good false d small = digit-lower d small

text-good : (id : List ℕ) (k : ℕ) → k < 36 → is_id_byte k (get_or (hyphenated_text lower id) k 0) ≡ true
text-good id k h =
    rw (by_index_at 36 (λ j. if is_hyphen_place j then 45 else hex_digit lower (nibble id (digit_place j))) k 0 h)
    (place-good (is_hyphen_place k) (nibble id (digit_place k)) (nibble_small id (digit_place k)))

pub id_refusal-text : (id : List ℕ) → id_refusal (hyphenated_text lower id) ≡ None
id_refusal-text id =
    let long : length (hyphenated_text lower id) ≡ 36 = by_index_length 36 _ in
    refusal_none (hyphenated_text lower id) (omega arith) (omega arith)
    (none_bad 0 (hyphenated_text lower id) (omega arith) (λ j h. let same : 0 + j ≡ j = omega arith in rw same (text-good id j (omega arith))))
