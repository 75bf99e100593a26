-- Numbers in text.
use Rattle.std.proofs.Common.{◌≡◌, ℕ, ◌+◌, ◌^◌, ◌<◌, ◌≤◌, Bool, true, false, true≢false, ◌&&◌, ltb, cond, List, [], ◌∷◌, length, Option, Some, None, SomeIff, decimal, refl, sym, ap, ◌∙◌, arith}
use Rattle.std.specs.Prelude.{nat_le, nat_lt}
use Rattle.std.specs.Char.{is_ascii_digit, digit_value}
use Rattle.std.specs.List.{list_all}
use Rattle.std.specs.Str.Parse.{IsNumeral, AllDigits, digits_value}
use Rattle.std.proofs.lemmas.Bool.Decides.{nat_tests}
use Rattle.blob_properties.specs.Values.{number_of}
use Rattle.blob_properties.proofs.Puts.{both}

pub and_true : (a b : Bool) → a ≡ true → b ≡ true → a && b ≡ true
and_true true b h k = k
and_true false b h k = h

digit_is : (c : ℕ) → is_ascii_digit c ≡ true → digit_value c < 10
digit_is c h = grind (arith, nat_tests)

is_digit : (c : ℕ) → digit_value c < 10 → is_ascii_digit c ≡ true
is_digit c h = grind (arith, nat_tests)

all_digits : (text : List ℕ) → list_all is_ascii_digit text ≡ true → AllDigits 10 text
all_digits [] h = tt
all_digits (c ∷ text) h =
    let parts = both (is_ascii_digit c) (list_all is_ascii_digit text) h in
    (digit_is c parts.0, all_digits text parts.1)

pub digits_all : (text : List ℕ) → AllDigits 10 text → list_all is_ascii_digit text ≡ true
digits_all [] h = refl
digits_all (c ∷ text) h = and_true (is_ascii_digit c) (list_all is_ascii_digit text) (is_digit c h.0) (digits_all text h.1)

-- what a numeral in range means
pub number_of-some : (most end : ℕ) (text : List ℕ) → IsNumeral 10 text → length text ≤ most → digits_value 10 text < end → number_of most end text ≡ Some (digits_value 10 text)
unfolding number_of
number_of-some most end text numeral short small =
    let some = numeral.0 in
    let a : nat_lt 0 (length text) ≡ true = grind (arith, nat_tests) in
    let b : nat_le (length text) most ≡ true = grind (arith, nat_tests) in
    let d : nat_lt (digits_value 10 text) end ≡ true = grind (arith, nat_tests) in
    rw (a, b, digits_all text numeral.1, d) refl

-- what else means none
pub number_of-none : (most end : ℕ) (text : List ℕ) → (IsNumeral 10 text × (length text ≤ most) × (digits_value 10 text < end) → ⊥) → number_of most end text ≡ None
unfolding number_of
number_of-none most end text never =
    by_tests (nat_lt 0 (length text)) (nat_le (length text) most) (list_all is_ascii_digit text) (nat_lt (digits_value 10 text) end) refl refl refl refl where
      holds : nat_lt 0 (length text) ≡ true → nat_le (length text) most ≡ true → list_all is_ascii_digit text ≡ true → nat_lt (digits_value 10 text) end ≡ true → ⊥
      holds a b c d =
          let some : 0 < length text = grind (arith, nat_tests) in
          let short : length text ≤ most = grind (arith, nat_tests) in
          let small : digits_value 10 text < end = grind (arith, nat_tests) in
          never ((some, all_digits text c), short, small)

      by_tests : (a b c d : Bool) → nat_lt 0 (length text) ≡ a → nat_le (length text) most ≡ b → list_all is_ascii_digit text ≡ c → nat_lt (digits_value 10 text) end ≡ d
          → cond (a && b && c && d) (Some (digits_value 10 text)) None ≡ None
      by_tests true true true true a b c d = absurd (holds a b c d)
      by_tests true true true false a b c d = refl
      by_tests true true false d' a b c d = refl
      by_tests true false c' d' a b c d = refl
      by_tests false b' c' d' a b c d = refl

pub number_is : (r : Option ℕ) (most end : ℕ) (text : List ℕ) → SomeIff r (IsNumeral 10 text × (length text ≤ most) × (digits_value 10 text < end)) (digits_value 10 text) → r ≡ number_of most end text
number_is None most end text h = sym (number_of-none most end text h)
number_is (Some n) most end text h = ap Some h.1 ∙ sym (number_of-some most end text h.0.0 h.0.1 h.0.2)
