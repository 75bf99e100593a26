-- The place of a blob is the name of a file.
use Rattle.std.proofs.Common.{◌≡◌, ℕ, suc, ◌+◌, ◌/◌, ◌%◌, ◌<◌, ◌≤◌, Bool, true, false, true≢false, ◌&&◌, eqb, ltb, cond, List, [], ◌∷◌, ◌++◌, length, Option, Some, None, is_some, Result, Ok, Err, is_ok, refl, sym, ap, ◌∙◌, subst, arith, length-append, get_or, codes, option_map}
use Rattle.std.specs.Prelude.{ℤ, pos}
use Rattle.std.specs.List.{list_all, prefix_len}
use Rattle.std.proofs.lemmas.Int.{rem_below}
use Rattle.std.proofs.lemmas.Bool.Decides.{nat_tests}
use Rattle.uuid.proofs.TextLemmas.{by_index_length}
use Rattle.nx_base.specs.declared.name_err.NameErr.TheVariants.{Empty, TooLong, BadByte}
use Rattle.nx_base.specs.Names.{is_name_byte, name_of, store_name_of, is_reserved}
use Rattle.nx_base.specs.Ids.{id_text, id_refusal, bad_id_place, is_id_byte}
use Rattle.nx_base.proofs.IdPlaces.{id_refusal-text, no_bad}
use Rattle.nx_base.specs.Paths.{file_name_of, segments_of, bad_place, is_bad_segment}
use Rattle.blob_paths.specs.Hash.{number_by, java_hash_of, tier_of}
use Rattle.blob_paths.specs.Places.{two_digits, folders_of, volume_place}
use Rattle.blob_paths.proofs.Segments.{both, and_true, IsGood, IsGood-append, IsGood-named, IsGood-slash, named_all, segment, last_segment, long_is_fine, no_bad-cons, no_bad-nil, is_name}

number_by-small : (z : ℤ) (n : ℕ) → 0 < n → number_by n z ≤ n
number_by-small z n some = omega (arith, rem_below z (pos n) some)

tens : (n : ℕ) → n < 100 → is_name_byte (48 + n / 10) ≡ true
tens n h = grind (arith, nat_tests)

units : (n : ℕ) → is_name_byte (48 + n % 10) ≡ true
units n = grind (arith, nat_tests)

-- a text of an id is of name bytes
id_byte-name : (k b : ℕ) → is_id_byte k b ≡ true → is_name_byte b ≡ true
id_byte-name k b h = grind (arith, nat_tests)

named_at : (text : List ℕ) → ((j : ℕ) → j < length text → is_name_byte (get_or text j 0) ≡ true) → list_all is_name_byte text ≡ true
named_at [] h = refl
named_at (b ∷ text) h =
    and_true (is_name_byte b) (list_all is_name_byte text) (h 0 (omega arith)) (named_at text (λ j lt. h (suc j) (omega arith)))

pub id_text-length : (id : List ℕ) → length (id_text id) ≡ 36
id_text-length id = by_index_length 36 _

none_of : (o : Option ℕ) → option_map (λ at. BadByte at) o ≡ None → o ≡ None
none_of None h = refl
none_of (Some at) h = absurd (true≢false (ap is_some h))

not_bad : (text : List ℕ) → length text ≡ 36 → id_refusal text ≡ None → bad_id_place 0 text ≡ None
not_bad text long h =
    let some : eqb (length text) 0 ≡ false = grind (arith, nat_tests) in
    let short : ltb 36 (length text) ≡ false = grind (arith, nat_tests) in
    none_of (bad_id_place 0 text) (rw (some, short) at h)

pub id_text-named : (id : List ℕ) → list_all is_name_byte (id_text id) ≡ true
id_text-named id =
    let good = not_bad (id_text id) (id_text-length id) (id_refusal-text id) in
    named_at (id_text id) (λ j lt. id_byte-name (0 + j) (get_or (id_text id) j 0) ((no_bad 0 (id_text id) good).1 j lt))

pub folders_of-length : (text : List ℕ) → length (folders_of text) ≡ 24
unfolding folders_of
folders_of-length text = refl

-- ---- the name of a store

past : {A B : Type 0} (refused : Bool) (e : B) (answer : Result A B) (x : A) → cond refused (Err e) answer ≡ Ok x → (refused ≡ false) × (answer ≡ Ok x)
past true e answer x h = absurd (true≢false (sym (ap is_ok h)))
past false e answer x h = (refl, h)

-- what the name of a store is
pub store_parts : (store : List ℕ) → store_name_of store ≡ Ok store
    → (is_reserved store ≡ false) × (0 < length store) × (length store ≤ 64) × (list_all is_name_byte store ≡ true)
store_parts store h =
    let good = prefix_len is_name_byte store in
    let bytes = cond (ltb good (length store)) (Err (BadByte good)) (Ok store) in
    let free = past (is_reserved store) (BadByte 0) (name_of store) store h in
    let some = past (eqb (length store) 0) Empty (cond (ltb 64 (length store)) (Err (TooLong (length store))) bytes) store free.1 in
    let short = past (ltb 64 (length store)) (TooLong (length store)) bytes store some.1 in
    let named = past (ltb good (length store)) (BadByte good) (Ok store) store short.1 in
    let e : eqb (length store) 0 ≡ false = some.0 in
    let f : ltb 64 (length store) ≡ false = short.0 in
    let g : ltb good (length store) ≡ false = named.0 in
    (free.0, grind (arith, nat_tests), grind (arith, nat_tests), named_all store (grind (arith, nat_tests)))

not_dots : (store : List ℕ) → is_reserved store ≡ false → 0 < length store → is_bad_segment store ≡ false
not_dots [] free some = absurd (omega arith)
not_dots (a ∷ []) free some = by_test (eqb a 46) refl where
  by_test : (t : Bool) → eqb a 46 ≡ t → eqb a 46 ≡ false
  by_test true e =
      let dot : a ≡ 46 = grind (arith, nat_tests) in
      absurd (true≢false (subst (λ (x : ℕ). is_reserved (x ∷ []) ≡ false) dot free))
  by_test false e = e
not_dots (a ∷ b ∷ []) free some = by_test (eqb a 46 && eqb b 46) refl where
  by_test : (t : Bool) → eqb a 46 && eqb b 46 ≡ t → eqb a 46 && eqb b 46 ≡ false
  by_test true e =
      let parts = both (eqb a 46) (eqb b 46) e in
      let p = parts.0 in
      let q = parts.1 in
      let dot : a ≡ 46 = grind (arith, nat_tests) in
      let dot' : b ≡ 46 = grind (arith, nat_tests) in
      let at_a = subst (λ (x : ℕ). is_reserved (x ∷ b ∷ []) ≡ false) dot free in
      absurd (true≢false (subst (λ (x : ℕ). is_reserved (46 ∷ x ∷ []) ≡ false) dot' at_a))
  by_test false e = e
not_dots (a ∷ b ∷ c ∷ rest) free some = refl

-- ---- the place

-- the folders by their segments
folders_of-parts : (text rest : List ℕ) → folders_of text ++ rest
    ≡ 47 ∷ (codes "content" ++ 47 ∷ ((codes "vol-" ++ two_digits (tier_of text).0) ++ 47 ∷ ((codes "chap-" ++ two_digits (tier_of text).1) ++ 47 ∷ rest)))
unfolding folders_of
folders_of-parts text rest = refl

volume-named : (n : ℕ) → n < 100 → list_all is_name_byte (codes "vol-" ++ two_digits n) ≡ true
volume-named n h = rw (tens n h, units n) refl

chapter-named : (n : ℕ) → n < 100 → list_all is_name_byte (codes "chap-" ++ two_digits n) ≡ true
chapter-named n h = rw (tens n h, units n) refl

-- the segments of a place, of which none is bad
module _ (store text : List ℕ) (v c : ℕ) (named : list_all is_name_byte store ≡ true) (fine : is_bad_segment store ≡ false)
    (small_v : v < 100) (small_c : c < 100) (text-named : list_all is_name_byte text ≡ true) (long : 3 ≤ length text) where
  abbrev vol : List ℕ
  vol = codes "vol-" ++ two_digits v

  abbrev chap : List ℕ
  chap = codes "chap-" ++ two_digits c

  abbrev behind_chap : List ℕ
  behind_chap = chap ++ 47 ∷ text

  abbrev behind_vol : List ℕ
  behind_vol = vol ++ 47 ∷ behind_chap

  abbrev behind_content : List ℕ
  behind_content = codes "content" ++ 47 ∷ behind_vol

  pub spelt : segments_of (store ++ 47 ∷ behind_content) ≡ store ∷ codes "content" ∷ vol ∷ chap ∷ text ∷ []
  spelt =
      segment store behind_content named
      ∙ ap (λ (s : List (List ℕ)). store ∷ s) (segment (codes "content") behind_vol refl)
      ∙ ap (λ (s : List (List ℕ)). store ∷ codes "content" ∷ s) (segment vol behind_chap (volume-named v small_v))
      ∙ ap (λ (s : List (List ℕ)). store ∷ codes "content" ∷ vol ∷ s) (segment chap text (chapter-named c small_c))
      ∙ ap (λ (s : List (List ℕ)). store ∷ codes "content" ∷ vol ∷ chap ∷ s) (last_segment text text-named)

  pub none_bad : bad_place 0 (segments_of (store ++ 47 ∷ behind_content)) ≡ None
  none_bad = ap (bad_place 0) spelt ∙ no_bad-cons 0 store (codes "content" ∷ vol ∷ chap ∷ text ∷ []) fine
      (λ n. no_bad-cons n (codes "content") (vol ∷ chap ∷ text ∷ []) refl
      (λ n. no_bad-cons n vol (chap ∷ text ∷ []) refl
      (λ n. no_bad-cons n chap (text ∷ []) refl
      (λ n. no_bad-cons n text [] (long_is_fine text long) no_bad-nil))))

  slashed : (a b : List ℕ) → list_all is_name_byte a ≡ true → IsGood b → IsGood (a ++ 47 ∷ b)
  slashed a b n g = IsGood-append a (47 ∷ b) (IsGood-named a n) (IsGood-append (47 ∷ []) b IsGood-slash g)

  pub all_good : IsGood (store ++ 47 ∷ behind_content)
  all_good =
      slashed store behind_content named
      (slashed (codes "content") behind_vol refl
      (slashed vol behind_chap (volume-named v small_v)
      (slashed chap text (chapter-named c small_c) (IsGood-named text text-named))))

module _ (store id : List ℕ) (is_store : store_name_of store ≡ Ok store) where
  abbrev text : List ℕ
  text = id_text id

  abbrev v : ℕ
  v = (tier_of text).0

  abbrev c : ℕ
  c = (tier_of text).1

  small_v : v < 100
  small_v = let h = number_by-small (java_hash_of text) 43 (omega arith) in omega arith

  small_c : c < 100
  small_c = let h = number_by-small (java_hash_of text) 47 (omega arith) in omega arith

  long : 3 ≤ length text
  long = let h = id_text-length id in omega arith

  abbrev parts : (is_reserved store ≡ false) × (0 < length store) × (length store ≤ 64) × (list_all is_name_byte store ≡ true)
  parts = store_parts store is_store

  same : volume_place store id ≡ store ++ 47 ∷ behind_content store text v c parts.3 (not_dots store parts.0 parts.1) small_v small_c (id_text-named id) long
  unfolding volume_place
  same = ap (λ (t : List ℕ). store ++ t) (folders_of-parts text text)

  pub place-length : length (volume_place store id) ≡ length store + 60
  unfolding volume_place
  place-length =
      let f = folders_of-length text in
      let t = id_text-length id in
      omega (arith, length-append store (folders_of text ++ text), length-append (folders_of text) text)

  pub place-good : IsGood (volume_place store id)
  place-good = subst IsGood (sym same) (all_good store text v c parts.3 (not_dots store parts.0 parts.1) small_v small_c (id_text-named id) long)

  pub place-named : file_name_of (volume_place store id) ≡ Ok (volume_place store id)
  place-named =
      let l = place-length in
      let short = parts.2 in
      is_name (volume_place store id) (omega arith) (omega arith) place-good
      (ap (λ (t : List ℕ). bad_place 0 (segments_of t)) same
      ∙ none_bad store text v c parts.3 (not_dots store parts.0 parts.1) small_v small_c (id_text-named id) long)
