-- Each refusal points into the text.
use Rattle.std.proofs.Common.{◌≡◌, ◌<◌, ◌≤◌, ◌+◌, ◌&&◌, ℕ, zero, suc, Bool, true, false, cond, not, eqb, ltb, List, [], ◌∷◌, ◌++◌, length, get_or, Option, Some, None, Result, Ok, Err, refl, sym, ◌∙◌, subst, ⊎_elim, arith}
use Rattle.std.specs.Prelude.{⊤, encode_utf8}
use Rattle.std.specs.List.{AllByRecursion}
use Rattle.std.specs.Char.Utf16.{is_high_surrogate, is_low_surrogate, surrogate_pair_char}
use Rattle.std.proofs.lemmas.Bool.{cases_lt}
use Rattle.std.proofs.lemmas.Bool.Decides.{nat_tests}
use Rattle.java_props.specs.declared.PropsErr.{PropsErr}
use Rattle.java_props.specs.declared.PropsErr.TheVariants.{TooLong, BadSurrogate, TooMany}
use Rattle.java_props.specs.Lines.{Cell, is_backslash, is_feed, is_return, is_line_end, is_white, with_prefix, natural_lines, trim, without_last, part, joined, is_dropped, leads_on, logical_lines, lines_of}
use Rattle.java_props.specs.From.{rest}
use Rattle.java_props.specs.Kept.{Entries, put, has_room}
use Rattle.java_props.specs.Reading.{Piece, pieces, piece_at, length_after, escape_unit, ends_key, is_blank, is_plain, is_separator, key_part, after_key, after_blanks, after_separator, value_part, next_is_low, unit_is, unit_or_zero, char_of, text_of, key_of, line_value, with_pair, with_trimmed, with_line, with_lines, reading, ◌>>=◌}
use Rattle.java_props.specs.Laws.{PointsInto}
use Rattle.java_props.proofs.Middle.{rest-cons, rest-nil}

-- a fact holds of both branches
on_both : {A : Type 0} (Q : A → Type 0) (b : Bool) (x y : A) → Q x → Q y → Q (cond b x y)
on_both Q true x y p q = p
on_both Q false x y p q = q

-- each cell of lines
AllCells : (Cell → Type 0) → List (List Cell) → Type 0
AllCells P ls = AllByRecursion (λ l. AllByRecursion P l) ls

all_append : (P : Cell → Type 0) (xs ys : List Cell) → AllByRecursion P xs → AllByRecursion P ys → AllByRecursion P (xs ++ ys)
all_append P [] ys p q = q
all_append P (x ∷ xs) ys p q = (p.0, all_append P xs ys p.1 q)

all_prefix : (P : Cell → Type 0) (x : List Cell) (ls : List (List Cell)) → AllByRecursion P x → AllCells P ls → AllCells P (with_prefix x ls)
unfolding AllCells
all_prefix P x [] p q = (p, tt)
all_prefix P x (l ∷ ls) p q = (all_append P x l p q.0, q.1)

all_natural : (P : Cell → Type 0) (b : Bool) (cs : List Cell) → AllByRecursion P cs → AllCells P (natural_lines b cs)
unfolding natural_lines AllCells
all_natural P b [] p = (tt, tt)
all_natural P b (c ∷ cs) p = let ls = natural_lines (is_return c) cs in let more = all_natural P (is_return c) cs p.1 in
    on_both (AllCells P) (b && is_feed c) _ _ more (on_both (AllCells P) (is_line_end c) _ _ (tt, more) (all_prefix P (c ∷ []) ls (p.0, tt) more))

all_trim : (P : Cell → Type 0) (cs : List Cell) → AllByRecursion P cs → AllByRecursion P (trim cs)
unfolding trim
all_trim P [] p = tt
all_trim P (c ∷ cs) p = on_both (AllByRecursion P) (is_white c) _ _ (all_trim P cs p.1) p

all_without_last : (P : Cell → Type 0) (cs : List Cell) → AllByRecursion P cs → AllByRecursion P (without_last cs)
unfolding without_last
all_without_last P [] p = tt
all_without_last P (c ∷ []) p = tt
all_without_last P (c ∷ d ∷ cs) p = (p.0, all_without_last P (d ∷ cs) p.1)

all_joined : (P : Cell → Type 0) (joins : Bool) (l : List Cell) (more : List (List Cell)) → AllByRecursion P l → AllCells P more
    → AllCells P (cond (is_dropped joins l) more (joined (leads_on joins l) (part joins l) more))
unfolding AllCells
all_joined P joins l more p q =
    let r : AllByRecursion P (part joins l) = on_both (AllByRecursion P) joins _ _ (all_trim P l p) p in
    on_both (AllCells P) (is_dropped joins l) _ _ q
    (on_both (AllCells P) (leads_on joins l) _ _ (all_prefix P (without_last (part joins l)) more (all_without_last P (part joins l) r) q) (r, q))

all_logical : (P : Cell → Type 0) (joins : Bool) (ls : List (List Cell)) → AllCells P ls → AllCells P (logical_lines joins ls)
unfolding logical_lines AllCells
all_logical P true [] p = (tt, tt)
all_logical P false [] p = tt
all_logical P true (l ∷ ls) p = all_joined P true l (logical_lines (leads_on true l) ls) p.0 (all_logical P (leads_on true l) ls p.1)
all_logical P false (l ∷ ls) p = all_joined P false l (logical_lines (leads_on false l) ls) p.0 (all_logical P (leads_on false l) ls p.1)

-- a byte of the text, with its place
record IsCell (bytes : List ℕ) (c : Cell) : Type 0 where
  within : c.at < length bytes
  is : get_or bytes c.at 0 ≡ c.byte
  small : c.byte < 256

all_rest : (bytes : List ℕ) → ((i : ℕ) → get_or bytes i 0 < 256) → (k at : ℕ) → length bytes ≤ at + k → AllByRecursion (IsCell bytes) (rest bytes at)
all_rest bytes fits zero at h = subst (AllByRecursion (IsCell bytes)) (sym (rest-nil bytes at (omega arith))) tt
all_rest bytes fits (suc k) at h = ⊎_elim
    (λ lt. subst (AllByRecursion (IsCell bytes)) (sym (rest-cons bytes at lt)) (record { within = lt; is = refl; small = fits at }, all_rest bytes fits k (at + 1) (omega arith)))
    (λ le. subst (AllByRecursion (IsCell bytes)) (sym (rest-nil bytes at le)) tt)
    (cases_lt at (length bytes))

-- a piece of the text: one without a unit, or with a great one, begins with a backslash
record IsPiece (bytes : List ℕ) (p : Piece) : Type 0 where
  within : p.at < length bytes
  no_unit : p.unit ≡ None → get_or bytes p.at 0 ≡ 92
  great_unit : (u : ℕ) → p.unit ≡ Some u → 256 ≤ u → get_or bytes p.at 0 ≡ 92

slash : (b : ℕ) → eqb b 92 ≡ true → b ≡ 92
slash b h = grind (arith, nat_tests)

piece_points : (bytes : List ℕ) (c : Cell) (cells : List Cell) → IsCell bytes c → IsPiece bytes (piece_at c cells)
piece_points bytes c cells is = by_slash (is_backslash c) refl where
  by_slash : (s : Bool) → is_backslash c ≡ s → IsPiece bytes (record { at = c.at; plain = not s; unit = cond s (escape_unit cells) (Some c.byte) })
  by_slash true k = let b = is.is ∙ slash c.byte k in record { within = is.within; no_unit = λ _. b; great_unit = λ _ _ _. b }
  by_slash false k = record { within = is.within; no_unit = λ e. cc; great_unit = λ u e g. let same : c.byte ≡ u = cc in let s = is.small in absurd (omega arith) }

all_pieces : (bytes : List ℕ) (n : ℕ) (cs : List Cell) → AllByRecursion (IsCell bytes) cs → AllByRecursion (IsPiece bytes) (pieces n cs)
unfolding pieces
all_pieces bytes zero [] p = tt
all_pieces bytes (suc n) [] p = tt
all_pieces bytes (suc n) (c ∷ cs) p = all_pieces bytes n cs p.1
all_pieces bytes zero (c ∷ cs) p = (piece_points bytes c cs p.0, all_pieces bytes (length_after c cs) cs p.1)

all_key_part : (Q : Piece → Type 0) (ps : List Piece) → AllByRecursion Q ps → AllByRecursion Q (key_part ps)
unfolding key_part
all_key_part Q [] p = tt
all_key_part Q (x ∷ ps) p = on_both (AllByRecursion Q) (ends_key x) _ _ tt (p.0, all_key_part Q ps p.1)

all_after_key : (Q : Piece → Type 0) (ps : List Piece) → AllByRecursion Q ps → AllByRecursion Q (after_key ps)
unfolding after_key
all_after_key Q [] p = tt
all_after_key Q (x ∷ ps) p = on_both (AllByRecursion Q) (ends_key x) _ _ p (all_after_key Q ps p.1)

all_after_blanks : (Q : Piece → Type 0) (ps : List Piece) → AllByRecursion Q ps → AllByRecursion Q (after_blanks ps)
unfolding after_blanks
all_after_blanks Q [] p = tt
all_after_blanks Q (x ∷ ps) p = on_both (AllByRecursion Q) (is_blank x) _ _ (all_after_blanks Q ps p.1) p

all_after_separator : (Q : Piece → Type 0) (ps : List Piece) → AllByRecursion Q ps → AllByRecursion Q (after_separator ps)
all_after_separator Q [] p = tt
all_after_separator Q (x ∷ ps) p = on_both (AllByRecursion Q) (is_plain is_separator x) _ _ p.1 p

all_value_part : (Q : Piece → Type 0) (ps : List Piece) → AllByRecursion Q ps → AllByRecursion Q (value_part ps)
all_value_part Q ps p = all_after_blanks Q _ (all_after_separator Q _ (all_after_blanks Q _ (all_after_key Q ps p)))

-- the answer points into the text where it is a refusal
Points : {A : Type 0} → List ℕ → Result A PropsErr → Type 0
Points bytes (Ok x) = ⊤
Points bytes (Err e) = PointsInto bytes e

then_points : {A B : Type 0} (bytes : List ℕ) (r : Result A PropsErr) (f : A → Result B PropsErr) → Points bytes r → ((x : A) → Points bytes (f x)) → Points bytes (r >>= f)
unfolding Points
then_points bytes (Ok x) f p q = q x
then_points bytes (Err e) f p q = p

high_is_great : (u : ℕ) → is_high_surrogate u ≡ true → 256 ≤ u
high_is_great u h = grind (arith, nat_tests)

low_is_great : (u : ℕ) → is_low_surrogate u ≡ true → 256 ≤ u
low_is_great u h = grind (arith, nat_tests)

char_points : (bytes : List ℕ) (at : ℕ) (plain : Bool) (unit : Option ℕ) (ps : List Piece) → IsPiece bytes (record { at = at; plain = plain; unit = unit }) → Points bytes (char_of at unit ps)
unfolding Points
char_points bytes at plain None ps p = (p.within, p.no_unit refl)
char_points bytes at plain (Some u) ps p = by_high (is_high_surrogate u) (is_low_surrogate u) refl refl where
  by_high : (h l : Bool) → is_high_surrogate u ≡ h → is_low_surrogate u ≡ l
      → Points bytes (cond h (cond (next_is_low ps) (Ok (surrogate_pair_char u (unit_or_zero ps))) (Err (BadSurrogate at))) (cond l (Err (BadSurrogate at)) (Ok u)))
  by_high true l e k = on_both (Points bytes) (next_is_low ps) _ _ tt (p.within, p.great_unit u refl (high_is_great u e))
  by_high false true e k = (p.within, p.great_unit u refl (low_is_great u k))
  by_high false false e k = tt

text_points : (bytes : List ℕ) (second : Bool) (ps : List Piece) → AllByRecursion (IsPiece bytes) ps → Points bytes (text_of second ps)
unfolding text_of Points
text_points bytes true [] p = tt
text_points bytes false [] p = tt
text_points bytes true (x ∷ ps) p = text_points bytes false ps p.1
text_points bytes false (x ∷ ps) p =
    let second = unit_is is_high_surrogate x.unit in
    then_points bytes (char_of x.at x.unit ps) (λ c. text_of second ps >>= λ text. Ok (encode_utf8 c ++ text)) (char_points bytes x.at x.plain x.unit ps p.0)
    (λ c. then_points bytes (text_of second ps) (λ text. Ok (encode_utf8 c ++ text)) (text_points bytes second ps p.1) (λ _. tt))

pair_points : (bytes : List ℕ) (pairs : Entries) (at : ℕ) (ps : List Piece) → at < length bytes → AllByRecursion (IsPiece bytes) ps → Points bytes (with_pair pairs at ps)
unfolding Points
pair_points bytes pairs at ps h p =
    then_points bytes (key_of ps) (λ key. cond (has_room key pairs) (line_value ps >>= λ value. Ok (put key value pairs)) (Err (TooMany at))) (text_points bytes false (key_part ps) (all_key_part (IsPiece bytes) ps p))
    (λ key. on_both (Points bytes) (has_room key pairs) _ _
    (then_points bytes (line_value ps) (λ value. Ok (put key value pairs)) (text_points bytes false (value_part ps) (all_value_part (IsPiece bytes) ps p)) (λ _. tt))
    h)

line_points : (bytes : List ℕ) (pairs : Entries) (cells : List Cell) → AllByRecursion (IsCell bytes) cells → Points bytes (with_trimmed pairs cells)
unfolding Points
line_points bytes pairs [] p = tt
line_points bytes pairs (c ∷ cells) p = let here : IsCell bytes c = p.0 in pair_points bytes pairs c.at (pieces 0 (c ∷ cells)) here.within (all_pieces bytes 0 (c ∷ cells) p)

lines_point : (bytes : List ℕ) (pairs : Entries) (ls : List (List Cell)) → AllCells (IsCell bytes) ls → Points bytes (with_lines pairs ls)
unfolding with_lines Points AllCells
lines_point bytes pairs [] p = tt
lines_point bytes pairs (l ∷ ls) p =
    then_points bytes (with_line pairs l) (λ more. with_lines more ls) (line_points bytes pairs (trim l) (all_trim (IsCell bytes) l p.0)) (λ more. lines_point bytes more ls p.1)

reading_points : (bytes : List ℕ) → ((i : ℕ) → get_or bytes i 0 < 256) → Points bytes (reading bytes)
unfolding reading Points
reading_points bytes fits = by_length (ltb 65536 (length bytes)) refl where
  long : ltb 65536 (length bytes) ≡ true → 65536 < length bytes
  long h = grind (arith, nat_tests)

  by_length : (b : Bool) → ltb 65536 (length bytes) ≡ b → Points bytes (cond b (Err (TooLong (length bytes))) (with_lines [] (lines_of bytes)))
  by_length true h = (refl, long h)
  by_length false h = lines_point bytes [] (lines_of bytes)
      (all_logical (IsCell bytes) false (natural_lines false (rest bytes 0)) (all_natural (IsCell bytes) false (rest bytes 0) (all_rest bytes fits (length bytes) 0 (omega arith))))

pub refusals_point : (bytes : List ℕ) (e : PropsErr) → ((i : ℕ) → get_or bytes i 0 < 256) → reading bytes ≡ Err e → PointsInto bytes e
unfolding Points
refusals_point bytes e fits r = subst (Points bytes) r (reading_points bytes fits)
