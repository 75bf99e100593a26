-- Texts of bytes that may stand in a name, and the segments that they make.
use Rattle.std.proofs.Common.{zero, slice_index, ◌≡◌, ℕ, suc, ◌+◌, ◌<◌, ◌≤◌, Bool, true, false, true≢false, ◌&&◌, eqb, ltb, cond, List, [], ◌∷◌, ◌++◌, length, Option, Some, None, is_some, Result, Ok, Err, is_ok, refl, sym, ap, ◌∙◌, arith, length-append}
use Rattle.std.specs.Str.{IsUtf8}
use Rattle.std.specs.List.{list_all, prefix_len}
use Rattle.std.proofs.lemmas.Str.{IsUtf8-append, IsUtf8-from_ascii, utf8_valid_len-IsUtf8}
use Rattle.std.proofs.lemmas.List.Folds.{list_all-append}
use Rattle.std.proofs.lemmas.Bool.Decides.{nat_tests}
use Rattle.nx_base.specs.declared.name_err.NameErr.TheVariants.{Empty, TooLong, BadByte}
use Rattle.nx_base.specs.Names.{is_name_byte}
use Rattle.nx_base.specs.Paths.{is_path_byte, good_len, segments_of, onto_first, is_bad_segment, bad_place, unless_bad, slashed_of, file_name_of}

pub both : (a b : Bool) → a && b ≡ true → (a ≡ true) × (b ≡ true)
both true b h = (refl, h)
both false b h = absurd (true≢false (sym h))

pub and_true : (a b : Bool) → a ≡ true → b ≡ true → a && b ≡ true
and_true true true h k = refl
and_true true false h k = k
and_true false b h k = h

-- ---- bytes

pub no_slash : (b : ℕ) → is_name_byte b ≡ true → eqb b 47 ≡ false
no_slash b h = grind (arith, nat_tests)

path_byte : (b : ℕ) → is_name_byte b ≡ true → is_path_byte b ≡ true
path_byte b h = grind (arith, nat_tests)

small : (b : ℕ) → is_name_byte b ≡ true → b < 128
small b h = grind (arith, nat_tests)

-- a text all of whose bytes may stand in a path, and that is UTF-8
pub record IsGood (text : List ℕ) : Type 0 where
  pub utf8 : IsUtf8 text
  pub bytes : list_all is_path_byte text ≡ true

pub IsGood-append : (a b : List ℕ) → IsGood a → IsGood b → IsGood (a ++ b)
IsGood-append a b ga gb = record {
  utf8 = IsUtf8-append a b ga.utf8 gb.utf8;
  bytes = list_all-append is_path_byte a b ∙ and_true (list_all is_path_byte a) (list_all is_path_byte b) ga.bytes gb.bytes;
}

passes_on : (text : List ℕ) → list_all is_name_byte text ≡ true → list_all is_path_byte text ≡ true
passes_on [] h = refl
passes_on (b ∷ text) h =
    let p = both (is_name_byte b) (list_all is_name_byte text) h in
    and_true (is_path_byte b) (list_all is_path_byte text) (path_byte b p.0) (passes_on text p.1)

ascii_at : (text : List ℕ) → list_all is_name_byte text ≡ true → (at : ℕ) → slice_index text at < 128
ascii_at [] h at = omega arith
ascii_at (b ∷ text) h zero = small b (both (is_name_byte b) (list_all is_name_byte text) h).0
ascii_at (b ∷ text) h (suc at) = ascii_at text (both (is_name_byte b) (list_all is_name_byte text) h).1 at

pub IsGood-named : (text : List ℕ) → list_all is_name_byte text ≡ true → IsGood text
IsGood-named text h = record { utf8 = IsUtf8-from_ascii text (ascii_at text h); bytes = passes_on text h }

pub IsGood-slash : IsGood (47 ∷ [])
IsGood-slash = record { utf8 = IsUtf8-from_ascii (47 ∷ []) one; bytes = refl } where
  one : (at : ℕ) → slice_index (47 ∷ []) at < 128
  one zero = omega arith
  one (suc at) = omega arith

prefix_all : (p : ℕ → Bool) (text : List ℕ) → list_all p text ≡ true → prefix_len p text ≡ length text
prefix_all p [] h = refl
prefix_all p (b ∷ text) h =
    let parts = both (p b) (list_all p text) h in
    let rest = prefix_all p text parts.1 in
    rw parts.0 (omega arith)

all_prefix : (p : ℕ → Bool) (text : List ℕ) → length text ≤ prefix_len p text → list_all p text ≡ true
all_prefix p [] h = refl
all_prefix p (b ∷ text) h = by_test (p b) h (all_prefix p text) where
  by_test : (t : Bool) → suc (length text) ≤ cond t (1 + prefix_len p text) 0 → (length text ≤ prefix_len p text → list_all p text ≡ true) → t && list_all p text ≡ true
  by_test true k rest = rest (omega arith)
  by_test false k rest = absurd (omega arith)

pub named_all : (text : List ℕ) → length text ≤ prefix_len is_name_byte text → list_all is_name_byte text ≡ true
named_all = all_prefix is_name_byte

good_len-all : (text : List ℕ) → IsGood text → good_len text ≡ length text
unfolding good_len
good_len-all text g =
    let bytes = prefix_all is_path_byte text g.bytes in
    let utf8 = utf8_valid_len-IsUtf8 text g.utf8 in
    omega arith

-- ---- segments

pub segment : (s rest : List ℕ) → list_all is_name_byte s ≡ true → segments_of (s ++ 47 ∷ rest) ≡ s ∷ segments_of rest
unfolding segments_of
segment [] rest h = refl
segment (b ∷ s) rest h =
    let p = both (is_name_byte b) (list_all is_name_byte s) h in
    rw (no_slash b p.0, segment s rest p.1) refl

pub last_segment : (s : List ℕ) → list_all is_name_byte s ≡ true → segments_of s ≡ s ∷ []
unfolding segments_of
last_segment [] h = refl
last_segment (b ∷ s) h =
    let p = both (is_name_byte b) (list_all is_name_byte s) h in
    rw (no_slash b p.0, last_segment s p.1) refl

pub long_is_fine : (s : List ℕ) → 3 ≤ length s → is_bad_segment s ≡ false
long_is_fine [] h = absurd (omega arith)
long_is_fine (a ∷ []) h = absurd (omega arith)
long_is_fine (a ∷ b ∷ []) h = absurd (omega arith)
long_is_fine (a ∷ b ∷ c ∷ s) h = refl

pub no_bad-cons : (at : ℕ) (s : List ℕ) (more : List (List ℕ)) → is_bad_segment s ≡ false → ((n : ℕ) → bad_place n more ≡ None) → bad_place at (s ∷ more) ≡ None
unfolding bad_place
no_bad-cons at s more fine rest = rw fine (rest (at + length s + 1))

pub no_bad-nil : (at : ℕ) → bad_place at [] ≡ None
unfolding bad_place
no_bad-nil at = refl

bad_parts : (at : ℕ) (s : List ℕ) (more : List (List ℕ)) → bad_place at (s ∷ more) ≡ None → (is_bad_segment s ≡ false) × (bad_place (at + length s + 1) more ≡ None)
unfolding bad_place
bad_parts at s more h = by_test (is_bad_segment s) refl h where
  by_test : (t : Bool) → is_bad_segment s ≡ t → cond t (Some at) (bad_place (at + length s + 1) more) ≡ None → (is_bad_segment s ≡ false) × (bad_place (at + length s + 1) more ≡ None)
  by_test true e k = absurd (true≢false (ap is_some k))
  by_test false e k = (e, k)

-- the last segment with more behind it
with_end : List ℕ → List (List ℕ) → List (List ℕ)
with_end e [] = e ∷ []
with_end e (s ∷ []) = (s ++ e) ∷ []
with_end e (s ∷ t ∷ more) = s ∷ with_end e (t ∷ more)

with_end-onto : (e : List ℕ) (b : ℕ) (segs : List (List ℕ)) → with_end e (onto_first b segs) ≡ onto_first b (with_end e segs)
unfolding with_end
with_end-onto e b [] = refl
with_end-onto e b (s ∷ []) = refl
with_end-onto e b (s ∷ t ∷ more) = refl

with_end-cons : (e s : List ℕ) (segs : List (List ℕ)) → 0 < length segs → with_end e (s ∷ segs) ≡ s ∷ with_end e segs
unfolding with_end
with_end-cons e s [] h = absurd (omega arith)
with_end-cons e s (t ∷ more) h = refl

some_segment : (text : List ℕ) → 0 < length (segments_of text)
unfolding segments_of
some_segment [] = omega arith
some_segment (b ∷ text) = by_test (eqb b 47) (segments_of text) where
  by_test : (t : Bool) (segs : List (List ℕ)) → 0 < length (cond t ([] ∷ segs) (onto_first b segs))
  by_test true segs = omega arith
  by_test false [] = omega arith
  by_test false (s ∷ segs) = omega arith

segments-append : (text e : List ℕ) → list_all is_name_byte e ≡ true → segments_of (text ++ e) ≡ with_end e (segments_of text)
unfolding segments_of with_end
segments-append [] e h = last_segment e h
segments-append (b ∷ text) e h =
    rw (segments-append text e h) (by_test (eqb b 47) (segments_of text) (some_segment text)) where
      by_test : (t : Bool) (segs : List (List ℕ)) → 0 < length segs → cond t ([] ∷ with_end e segs) (onto_first b (with_end e segs)) ≡ with_end e (cond t ([] ∷ segs) (onto_first b segs))
      by_test true segs some = sym (with_end-cons e [] segs some)
      by_test false segs some = sym (with_end-onto e b segs)

no_bad-with_end : (at : ℕ) (e : List ℕ) (segs : List (List ℕ)) → 3 ≤ length e → bad_place at segs ≡ None → bad_place at (with_end e segs) ≡ None
unfolding with_end bad_place
no_bad-with_end at e [] long h = rw (long_is_fine e long) refl
no_bad-with_end at e (s ∷ []) long h =
    let longer : 3 ≤ length (s ++ e) = omega (arith, length-append s e) in
    rw (long_is_fine (s ++ e) longer) refl
no_bad-with_end at e (s ∷ t ∷ more) long h =
    let parts = bad_parts at s (t ∷ more) h in
    rw parts.0 (no_bad-with_end (at + length s + 1) e (t ∷ more) long parts.1)

-- ---- names of files

pub is_name : (text : List ℕ) → 0 < length text → length text ≤ 1000 → IsGood text → bad_place 0 (segments_of text) ≡ None → file_name_of text ≡ Ok text
unfolding slashed_of
is_name text some short good fine =
    let not_empty : eqb (length text) 0 ≡ false = grind (arith, nat_tests) in
    let not_long : ltb 1000 (length text) ≡ false = grind (arith, nat_tests) in
    let all : ltb (length text) (length text) ≡ false = grind (arith, nat_tests) in
    rw (not_empty, not_long, good_len-all text good, all, fine) refl

past : {A B : Type 0} (refused : Bool) (e : B) (answer : Result A B) (x : A) → cond refused (Err e) answer ≡ Ok x → (refused ≡ false) × (answer ≡ Ok x)
past true e answer x h = absurd (true≢false (sym (ap is_ok h)))
past false e answer x h = (refl, h)

unless : (text : List ℕ) (bad : Option ℕ) → unless_bad text bad ≡ Ok text → bad ≡ None
unless text None h = refl
unless text (Some at) h = absurd (true≢false (sym (ap is_ok h)))

-- what a name of a file is
pub name_parts : (text : List ℕ) → file_name_of text ≡ Ok text → (0 < length text) × (list_all is_path_byte text ≡ true) × (bad_place 0 (segments_of text) ≡ None)
unfolding slashed_of good_len
name_parts text h =
    let last = unless_bad text (bad_place 0 (segments_of text)) in
    let bytes = cond (ltb (good_len text) (length text)) (Err (BadByte (good_len text))) last in
    let some = past (eqb (length text) 0) Empty (cond (ltb 1000 (length text)) (Err (TooLong (length text))) bytes) text h in
    let short = past (ltb 1000 (length text)) (TooLong (length text)) bytes text some.1 in
    let good = past (ltb (good_len text) (length text)) (BadByte (good_len text)) last text short.1 in
    let e : eqb (length text) 0 ≡ false = some.0 in
    let f : ltb (good_len text) (length text) ≡ false = good.0 in
    (grind (arith, nat_tests), all_prefix is_path_byte text (grind (arith, nat_tests)), unless text (bad_place 0 (segments_of text)) good.1)

-- a name with an ending behind it
pub name-ending : (text e : List ℕ) → IsUtf8 text → file_name_of text ≡ Ok text → list_all is_name_byte e ≡ true → 3 ≤ length e → length text + length e ≤ 1000
    → IsGood (text ++ e) × (file_name_of (text ++ e) ≡ Ok (text ++ e))
name-ending text e utf8 h named long room =
    let parts = name_parts text h in
    let good = IsGood-append text e (record { utf8 = utf8; bytes = parts.1 }) (IsGood-named e named) in (
      good,
      is_name (text ++ e) (omega (arith, length-append text e)) (omega (arith, length-append text e)) good
          (ap (bad_place 0) (segments-append text e named) ∙ no_bad-with_end 0 e (segments_of text) long parts.2),
    )
