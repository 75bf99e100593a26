-- White space and the separator of a logical line, as characters and as pieces.
use Rattle.std.proofs.Common.{◌≡◌, ◌<◌, ◌≤◌, ◌+◌, ℕ, Bool, true, false, cond, not, eqb, ◌||◌, List, [], ◌∷◌, length, get_or, Some, refl, sym, ap, ◌∙◌, ⊎_elim, arith}
use Rattle.std.specs.Prelude.{◌≢◌}
use Rattle.std.proofs.lemmas.Bool.{cases_lt}
use Rattle.std.proofs.lemmas.Bool.Decides.{nat_tests}
use Rattle.java_props.specs.Lines.{Cell, is_white_byte, is_white, is_backslash, trim}
use Rattle.java_props.specs.From.{rest, middle, line, later, ends_at, Stands, AtEnd}
use Rattle.java_props.specs.Reading.{Piece, pieces, piece_at, length_after, escape_unit, escape_length, is_blank, is_plain, is_separator, after_blanks, after_separator, after_gap}
use Rattle.java_props.proofs.Steps.{one_step, two_step, line_ends, plain_unit}

is_slash : (b : ℕ) → eqb b 92 ≡ true → b ≡ 92
is_slash b h = grind (arith, nat_tests)

-- the first character of what is left of the line
pub prefix : (bytes : List ℕ) (at : ℕ) → at < length bytes → Stands bytes at → ends_at bytes at ≡ false
    → (tail : List Cell) × (line bytes at ≡ record { at = at; byte = get_or bytes at 0 } ∷ tail)
prefix bytes at h stands e = by_slash (eqb (get_or bytes at 0) 92) refl where
  by_slash : (s : Bool) → eqb (get_or bytes at 0) 92 ≡ s → (tail : List Cell) × (line bytes at ≡ record { at = at; byte = get_or bytes at 0 } ∷ tail)
  by_slash true k = let b = is_slash (get_or bytes at 0) k in let s = stands h b in (_, (two_step bytes at (at + 1 + 1) s.0 b s.1 refl).0)
  by_slash false k = (_, (one_step bytes at (at + 1) h e k refl).0)

white_no_end : (b : ℕ) → is_white_byte b ≡ true → ((eqb b 13) || (eqb b 10)) ≡ false
white_no_end b h = grind (arith, nat_tests)

white_no_slash : (b : ℕ) → is_white_byte b ≡ true → eqb b 92 ≡ false
white_no_slash b h = grind (arith, nat_tests)

slash_no_white : (b : ℕ) → eqb b 92 ≡ true → is_white_byte b ≡ false
slash_no_white b h = grind (arith, nat_tests)

slash_no_separator : (b : ℕ) → eqb b 92 ≡ true → is_separator b ≡ false
slash_no_separator b h = grind (arith, nat_tests)

separator_no_end : (b : ℕ) → is_separator b ≡ true → ((eqb b 13) || (eqb b 10)) ≡ false
separator_no_end b h = grind (arith, nat_tests)

separator_no_slash : (b : ℕ) → is_separator b ≡ true → b ≢ 92
separator_no_slash b h = grind (arith, nat_tests)

pub trim_cons : (c : Cell) (cs : List Cell) (b : Bool) → is_white c ≡ b → trim (c ∷ cs) ≡ cond b (trim cs) (c ∷ cs)
unfolding trim
trim_cons c cs b w = ap (λ b. cond b (trim cs) (c ∷ cs)) w

pub trim_nil : trim [] ≡ []
unfolding trim
trim_nil = refl

-- white space of the line
pub blank_step : (bytes : List ℕ) (at next : ℕ) → at < length bytes → is_white_byte (get_or bytes at 0) ≡ true → middle (rest bytes (at + 1)) ≡ middle (rest bytes next)
    → (trim (line bytes at) ≡ trim (line bytes next)) × (later bytes at ≡ later bytes next)
blank_step bytes at next h w same =
    let s = one_step bytes at next h (white_no_end (get_or bytes at 0) w) (white_no_slash (get_or bytes at 0) w) same in
    (ap trim s.0 ∙ trim_cons (record { at = at; byte = get_or bytes at 0 }) (line bytes next) true w, s.1)

pub blank_end : (bytes : List ℕ) (at : ℕ) → AtEnd bytes at → trim (line bytes at) ≡ line bytes at
blank_end bytes at e = let n = line_ends bytes at e in ap trim n ∙ trim_nil ∙ sym n

pub blank_past : (bytes : List ℕ) (at : ℕ) → length bytes ≤ at → trim (line bytes at) ≡ line bytes at
blank_past bytes at h = blank_end bytes at (λ lt. absurd (omega arith))

pub blank_stop : (bytes : List ℕ) (at : ℕ) → at < length bytes → Stands bytes at → is_white_byte (get_or bytes at 0) ≡ false → trim (line bytes at) ≡ line bytes at
blank_stop bytes at h stands w = by_end (ends_at bytes at) refl where
  by_end : (e : Bool) → ends_at bytes at ≡ e → trim (line bytes at) ≡ line bytes at
  by_end true e = blank_end bytes at (λ _. e)
  by_end false e = let f = prefix bytes at h stands e in ap trim f.1 ∙ trim_cons (record { at = at; byte = get_or bytes at 0 }) f.0 false w ∙ sym f.1

-- a piece is white space, or a separator, where its first character is
first_blank : (c : Cell) (cells : List Cell) → is_blank (piece_at c cells) ≡ is_white c
first_blank c cells = by_slash (is_backslash c) refl where
  by_slash : (s : Bool) → is_backslash c ≡ s → is_blank (record { at = c.at; plain = not s; unit = cond s (escape_unit cells) (Some c.byte) }) ≡ is_white c
  by_slash true k = sym (slash_no_white c.byte k)
  by_slash false k = refl

first_separator : (c : Cell) (cells : List Cell) → is_plain is_separator (piece_at c cells) ≡ is_separator c.byte
first_separator c cells = by_slash (is_backslash c) refl where
  by_slash : (s : Bool) → is_backslash c ≡ s → is_plain is_separator (record { at = c.at; plain = not s; unit = cond s (escape_unit cells) (Some c.byte) }) ≡ is_separator c.byte
  by_slash true k = sym (slash_no_separator c.byte k)
  by_slash false k = refl

blank_pieces_one : (c : Cell) (cs : List Cell) (w : Bool) → is_white c ≡ w → after_blanks (pieces 0 cs) ≡ pieces 0 (trim cs) → after_blanks (pieces 0 (c ∷ cs)) ≡ pieces 0 (trim (c ∷ cs))
unfolding pieces after_blanks
blank_pieces_one c cs true w more =
    ap (λ b. cond b (after_blanks (pieces (length_after c cs) cs)) (piece_at c cs ∷ pieces (length_after c cs) cs)) (first_blank c cs ∙ w)
    ∙ ap (λ b. after_blanks (pieces (cond b (escape_length cs) 0) cs)) (white_no_slash c.byte w)
    ∙ more ∙ ap (pieces 0) (sym (trim_cons c cs true w))
blank_pieces_one c cs false w more =
    ap (λ b. cond b (after_blanks (pieces (length_after c cs) cs)) (piece_at c cs ∷ pieces (length_after c cs) cs)) (first_blank c cs ∙ w)
    ∙ ap (pieces 0) (sym (trim_cons c cs false w))

-- leading white space as pieces
pub blank_pieces : (l : List Cell) → after_blanks (pieces 0 l) ≡ pieces 0 (trim l)
unfolding pieces after_blanks trim
blank_pieces [] = refl
blank_pieces (c ∷ cs) = blank_pieces_one c cs (is_white c) refl (blank_pieces cs)

trim_trim : (l : List Cell) → trim (trim l) ≡ trim l
unfolding trim
trim_trim [] = refl
trim_trim (c ∷ cs) = one (is_white c) refl (trim_trim cs) where
  one : (w : Bool) → is_white c ≡ w → trim (trim cs) ≡ trim cs → trim (trim (c ∷ cs)) ≡ trim (c ∷ cs)
  one true w more = ap trim (trim_cons c cs true w) ∙ more ∙ sym (trim_cons c cs true w)
  one false w more = ap trim (trim_cons c cs false w)

-- the separator
separator_step : (bytes : List ℕ) (at next : ℕ) → at < length bytes → is_separator (get_or bytes at 0) ≡ true → middle (rest bytes (at + 1)) ≡ middle (rest bytes next)
    → (after_separator (pieces 0 (line bytes at)) ≡ pieces 0 (line bytes next)) × (later bytes at ≡ later bytes next)
separator_step bytes at next h s same =
    let b = get_or bytes at 0 in
    let u = plain_unit bytes at next h (separator_no_end b s) (separator_no_slash b s) same in
    let p : Piece = record { at = at; plain = not (eqb b 92); unit = Some b } in
    (ap after_separator u.0 ∙ ap (λ x. cond x (pieces 0 (line bytes next)) (p ∷ pieces 0 (line bytes next))) (separates at b s), u.1) where
      separates : (at b : ℕ) → is_separator b ≡ true → is_plain is_separator (record { at = at; plain = not (eqb b 92); unit = Some b }) ≡ true
      separates at b s = grind (arith, nat_tests)

no_separator_end : (bytes : List ℕ) (at : ℕ) → AtEnd bytes at → after_separator (pieces 0 (line bytes at)) ≡ pieces 0 (line bytes at)
unfolding pieces
no_separator_end bytes at e = let n = line_ends bytes at e in ap (λ l. after_separator (pieces 0 l)) n ∙ sym (ap (pieces 0) n)

no_separator_here : (bytes : List ℕ) (at : ℕ) → at < length bytes → Stands bytes at → is_separator (get_or bytes at 0) ≡ false → after_separator (pieces 0 (line bytes at)) ≡ pieces 0 (line bytes at)
unfolding pieces
no_separator_here bytes at h stands s = by_end (ends_at bytes at) refl where
  by_end : (e : Bool) → ends_at bytes at ≡ e → after_separator (pieces 0 (line bytes at)) ≡ pieces 0 (line bytes at)
  by_end true e = no_separator_end bytes at (λ _. e)
  by_end false e = let f = prefix bytes at h stands e in let c : Cell = record { at = at; byte = get_or bytes at 0 } in
      ap (λ l. after_separator (pieces 0 l)) f.1
      ∙ ap (λ b. cond b (pieces (length_after c f.0) f.0) (piece_at c f.0 ∷ pieces (length_after c f.0) f.0)) (first_separator c f.0 ∙ s)
      ∙ sym (ap (pieces 0) f.1)

-- white space, a separator and white space
pub gap_with : (bytes : List ℕ) (at from next to : ℕ) → trim (line bytes at) ≡ line bytes from → later bytes at ≡ later bytes from → from < length bytes → is_separator (get_or bytes from 0) ≡ true
    → middle (rest bytes (from + 1)) ≡ middle (rest bytes next) → trim (line bytes next) ≡ line bytes to → later bytes next ≡ later bytes to
    → (after_gap (pieces 0 (line bytes at)) ≡ pieces 0 (line bytes to)) × (later bytes at ≡ later bytes to)
gap_with bytes at from next to t o h s same u q = let step = separator_step bytes from next h s same in (
  ap (λ ps. after_blanks (after_separator ps)) (blank_pieces (line bytes at) ∙ ap (pieces 0) t)
      ∙ ap after_blanks step.0 ∙ blank_pieces (line bytes next) ∙ ap (pieces 0) u,
  o ∙ step.1 ∙ q,
)

-- white space alone
gap_none : (bytes : List ℕ) (at from : ℕ) → trim (line bytes at) ≡ line bytes from → after_separator (pieces 0 (line bytes from)) ≡ pieces 0 (line bytes from) → after_gap (pieces 0 (line bytes at)) ≡ pieces 0 (line bytes from)
gap_none bytes at from t n =
    ap (λ ps. after_blanks (after_separator ps)) (blank_pieces (line bytes at) ∙ ap (pieces 0) t)
    ∙ ap after_blanks n ∙ blank_pieces (line bytes from)
    ∙ ap (pieces 0) (ap trim (sym t) ∙ trim_trim (line bytes at) ∙ t)

pub gap_other : (bytes : List ℕ) (at from : ℕ) → trim (line bytes at) ≡ line bytes from → Stands bytes from → (from < length bytes → is_separator (get_or bytes from 0) ≡ false)
    → after_gap (pieces 0 (line bytes at)) ≡ pieces 0 (line bytes from)
gap_other bytes at from t stands s = gap_none bytes at from t
    (⊎_elim (λ lt. no_separator_here bytes from lt stands (s lt)) (λ le. no_separator_end bytes from (λ lt. absurd (omega arith))) (cases_lt from (length bytes)))
