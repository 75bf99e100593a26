use Rattle.std.proofs.Common.{List, ◌≡◌, ◌<◌, ◌≤◌, ◌^◌, ℕ, length, take, get_or, arith, lit<}
use Rattle.std.proofs.Math.Nat.{pow-le-pow_right}
use Rattle.std.specs.Char.{is_ascii_digit}
use Rattle.std.proofs.Common.{true, ◌∙◌, ◌&&◌, Bool, sym, refl}
use Rattle.std.proofs.lemmas.List.{length-take-le}
use Rattle.std.proofs.lemmas.List.Folds.{list_all_more}
use Rattle.std.proofs.lemmas.Str.{digit_value_digit}
use Rattle.std.proofs.lemmas.Int.Digits.{digits_value-lt, digits_value_more, digits_more}
use Rattle.http_heads.proofs.words.decimal.Goals as goal

below : (text : List ℕ) (i n : ℕ) → i < length text → length text ≤ 19 → n < 10 ^ length (take i text) → n < 10 ^ 18
below text i n lt le small =
    let len : length (take i text) ≡ i = length-take-le i text (omega arith) in
    let most : 10 ^ length (take i text) ≤ 10 ^ 18 = pow-le-pow_right {n = 10} (lit< tt) {i = length (take i text)} {j = 18} (omega arith) in
    omega arith

both : (a b : Bool) → a ≡ true → b ≡ true → (a && b) ≡ true
both a b p q = rw (p, q) refl

pub overflow_mul-number : goal.overflow_mul-number
overflow_mul-number c =
    let small = below c.args.text.now c.loop-byte.byte-index c.loop-byte.number c.loop-byte-test.true c.if-text-gt19.false
    (rw c.loop-byte.invariant.value (digits_value-lt 10 (take c.loop-byte.byte-index c.args.text.now) c.loop-byte.invariant.digits)) in
    omega (arith, small)

pub overflow_add-number : goal.overflow_add-number
overflow_add-number c =
    let small = below c.args.text.now c.loop-byte.byte-index c.loop-byte.number c.loop-byte-test.true c.if-text-gt19.false
    (rw c.loop-byte.invariant.value (digits_value-lt 10 (take c.loop-byte.byte-index c.args.text.now) c.loop-byte.invariant.digits)) in
    omega (arith, small, c.from.ensures, c.type_inv.text c.loop-byte.byte-index)

pub loop-byte-preserved : goal.loop-byte-preserved
loop-byte-preserved c =
    let text = c.args.text.now in
    let i = c.loop-byte.byte-index in
    let digit = digit_value_digit (get_or text i 0) c.if-not-is_ascii_digit.ensures.cases in
    record {
      value = omega (arith, digits_value_more 10 text i c.loop-byte-test.true, digit, c.from.ensures, c.loop-byte.invariant.value);
      digits = digits_more 10 text i c.loop-byte-test.true c.loop-byte.invariant.digits c.if-not-is_ascii_digit.ensures.bound;
      all = list_all_more is_ascii_digit text i 0 c.loop-byte-test.true ∙ both _ _ c.loop-byte.invariant.all (sym c.if-not-is_ascii_digit.ensures.value);
    }
