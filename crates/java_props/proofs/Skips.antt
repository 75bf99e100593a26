-- Lines that are skipped, and where logical lines begin.
use Rattle.std.proofs.Common.{◌≡◌, ◌<◌, ◌≤◌, ◌+◌, ℕ, Bool, true, false, cond, not, eqb, ◌&&◌, List, [], ◌∷◌, length, get_or, refl, sym, ap, ◌∙◌, ⊎_elim}
use Rattle.std.proofs.lemmas.Bool.{false≢true, cases_lt}
use Rattle.java_props.specs.Lines.{Cell, is_mark_byte, with_prefix, natural_lines, trim, begins_skipped, is_skipped, goes_on, joined, logical_lines}
use Rattle.java_props.specs.From.{rest, go_on, middle, trim_first, head_of, others_of, later, lines_from, ends_at, AtEnd}
use Rattle.java_props.proofs.Middle.{rest-cons, rest-nil, natural-one, natural-end}
use Rattle.java_props.proofs.Steps.{end_line, end_text}

-- the first of logical lines, where none before goes on, by whether the natural line is skipped
after_skip : (b : Bool) (l : List Cell) (ls : List (List Cell)) → List (List Cell)
after_skip b l ls = cond b (logical_lines (not b && goes_on l) ls) (joined (not b && goes_on l) l (logical_lines (not b && goes_on l) ls))

-- a natural line that is skipped
pub skips : (ns : List (List Cell)) (x : List Cell) (xs : List (List Cell)) → trim_first ns ≡ x ∷ xs → begins_skipped x ≡ true → logical_lines false ns ≡ logical_lines false xs
unfolding logical_lines after_skip
skips [] x xs h k = ap (λ ls. logical_lines false (others_of ls)) h
skips (l ∷ ls) x xs h k =
    let s : is_skipped l ≡ true = ap (λ t. begins_skipped (head_of t)) h ∙ k in
    ap (λ b. after_skip b l ls) s ∙ ap (λ t. logical_lines false (others_of t)) h

-- a natural line that isn't
pub keeps : (ns : List (List Cell)) (x : List Cell) (xs : List (List Cell)) → trim_first ns ≡ x ∷ xs → begins_skipped x ≡ false → logical_lines false ns ≡ go_on ns
unfolding logical_lines after_skip
keeps [] x xs h k = absurd (false≢true (sym (ap (λ t. begins_skipped (head_of t)) h ∙ k)))
keeps (l ∷ ls) x xs h k =
    let s : is_skipped l ≡ false = ap (λ t. begins_skipped (head_of t)) h ∙ k in
    ap (λ b. after_skip b l ls) s

with_prefix-cons : (c : Cell) (ls : List (List Cell)) → with_prefix (c ∷ []) ls ≡ (c ∷ head_of ls) ∷ others_of ls
with_prefix-cons c [] = refl
with_prefix-cons c (l ∷ ls) = refl

-- the natural lines from a byte that ends none
natural_first : (bytes : List ℕ) (at : ℕ) → at < length bytes → ends_at bytes at ≡ false
    → natural_lines false (rest bytes at) ≡ (record { at = at; byte = get_or bytes at 0 } ∷ head_of (natural_lines false (rest bytes (at + 1)))) ∷ others_of (natural_lines false (rest bytes (at + 1)))
natural_first bytes at h e = let here : Cell = record { at = at; byte = get_or bytes at 0 } in
    ap (λ cs. natural_lines false cs) (rest-cons bytes at h) ∙ natural-one false here (rest bytes (at + 1)) e ∙ with_prefix-cons here (natural_lines false (rest bytes (at + 1)))

pub none_from : (bytes : List ℕ) (at : ℕ) → length bytes ≤ at → lines_from bytes at ≡ []
unfolding logical_lines natural_lines trim
none_from bytes at h = ap (λ cs. logical_lines false (natural_lines false cs)) (rest-nil bytes at h)

-- white space up to the text's end
pub skips_last : (bytes : List ℕ) (at from : ℕ) → trim_first (natural_lines false (rest bytes at)) ≡ natural_lines false (rest bytes from) → length bytes ≤ from → lines_from bytes at ≡ []
unfolding logical_lines natural_lines
skips_last bytes at from t h = skips (natural_lines false (rest bytes at)) [] [] (t ∙ ap (λ cs. natural_lines false cs) (rest-nil bytes from h)) refl

-- white space up to a line's end
pub skips_blank : (bytes : List ℕ) (at from next : ℕ) → trim_first (natural_lines false (rest bytes at)) ≡ natural_lines false (rest bytes from) → from < length bytes → ends_at bytes from ≡ true
    → natural_lines (eqb (get_or bytes from 0) 13) (rest bytes (from + 1)) ≡ natural_lines false (rest bytes next) → lines_from bytes at ≡ lines_from bytes next
skips_blank bytes at from next t h e n = let here : Cell = record { at = from; byte = get_or bytes from 0 } in
    skips (natural_lines false (rest bytes at)) [] (natural_lines (eqb (get_or bytes from 0) 13) (rest bytes (from + 1)))
    (t ∙ ap (λ cs. natural_lines false cs) (rest-cons bytes from h) ∙ natural-end here (rest bytes (from + 1)) e) refl
    ∙ ap (λ ls. logical_lines false ls) n

-- a comment
pub skips_comment : (bytes : List ℕ) (at from next : ℕ) → trim_first (natural_lines false (rest bytes at)) ≡ natural_lines false (rest bytes from) → from < length bytes → ends_at bytes from ≡ false
    → is_mark_byte (get_or bytes from 0) ≡ true → logical_lines false (others_of (natural_lines false (rest bytes (from + 1)))) ≡ lines_from bytes next → lines_from bytes at ≡ lines_from bytes next
skips_comment bytes at from next t h e m n = skips (natural_lines false (rest bytes at)) _ _ (t ∙ natural_first bytes from h e) m ∙ n

-- a line that is kept
pub begins_here : (bytes : List ℕ) (at from : ℕ) → trim_first (natural_lines false (rest bytes at)) ≡ natural_lines false (rest bytes from) → from < length bytes → ends_at bytes from ≡ false
    → is_mark_byte (get_or bytes from 0) ≡ false → lines_from bytes at ≡ middle (rest bytes at)
begins_here bytes at from t h e m = keeps (natural_lines false (rest bytes at)) _ _ (t ∙ natural_first bytes from h e) m

-- one byte of a natural line
pub others_step : (bytes : List ℕ) (at : ℕ) → at < length bytes → ends_at bytes at ≡ false → others_of (natural_lines false (rest bytes at)) ≡ others_of (natural_lines false (rest bytes (at + 1)))
others_step bytes at h e = ap others_of (natural_first bytes at h e)

no_lines : logical_lines false [] ≡ []
unfolding logical_lines
no_lines = refl

-- what follows a natural line follows its end
pub others_end : (bytes : List ℕ) (at : ℕ) → AtEnd bytes at → logical_lines false (others_of (natural_lines false (rest bytes at))) ≡ later bytes at
unfolding natural_lines
others_end bytes at end = ⊎_elim
    (λ lt. let here : Cell = record { at = at; byte = get_or bytes at 0 } in
    ap (λ ls. logical_lines false (others_of ls)) (ap (λ cs. natural_lines false cs) (rest-cons bytes at lt) ∙ natural-end here (rest bytes (at + 1)) (end lt))
    ∙ sym (ap others_of (end_line bytes at lt (end lt))))
    (λ le. ap (λ cs. logical_lines false (others_of (natural_lines false cs))) (rest-nil bytes at le) ∙ no_lines ∙ sym (ap others_of (end_text bytes at le)))
    (cases_lt at (length bytes))

-- a line's end
pub later_end : (bytes : List ℕ) (at next : ℕ) → at < length bytes → ends_at bytes at ≡ true → natural_lines (eqb (get_or bytes at 0) 13) (rest bytes (at + 1)) ≡ natural_lines false (rest bytes next) → later bytes at ≡ lines_from bytes next
later_end bytes at next h e n = ap others_of (end_line bytes at h e) ∙ ap (λ ls. logical_lines false ls) n

-- the text's end
pub later_none : (bytes : List ℕ) (at : ℕ) → length bytes ≤ at → later bytes at ≡ lines_from bytes at
later_none bytes at h = ap others_of (end_text bytes at h) ∙ sym (none_from bytes at h)
