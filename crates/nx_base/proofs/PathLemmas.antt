-- The segments of a path, one after the other.
use Rattle.std.proofs.Common.{◌≡◌, ◌≢◌, ℕ, suc, ◌+◌, ◌-◌, ◌<◌, ◌≤◌, false, cond, eqb, List, [], ◌∷◌, ◌++◌, length, get_or, take, drop, Some, None, refl, sym, ap, ◌∙◌, arith}
use Rattle.std.proofs.lemmas.List.{take-append-drop, length-drop, length-take-le, drop-drop, drop_more, get_or-drop, get_or-take, take_all}
use Rattle.std.proofs.Common.{inl, inr}
use Rattle.std.proofs.lemmas.Bool.Decides.{eqb_tells}
use Rattle.std.specs.Str.{IsUtf8}
use Rattle.std.specs.List.{prefix_len}
use Rattle.std.proofs.lemmas.Str.{utf8_valid_len-IsUtf8}
use Rattle.std.proofs.lemmas.List.Sums.{prefix_len-le-length}
use Rattle.nx_base.specs.Paths.{segments_of, is_bad_segment, bad_place, good_len, is_path_byte}

-- two numbers that differ do so by the test
pub ne-eqb : (a b : ℕ) → a ≢ b → eqb a b ≡ false
ne-eqb a b ne = elim (eqb_tells a b) [ inl eq ↦ absurd (ne eq.1) | inr other ↦ other.0 ]

-- no byte is a slash
abbrev pub HasNoSlash : List ℕ → Type 0
HasNoSlash segment = (k : ℕ) → k < length segment → get_or segment k 0 ≢ 47

segments-plain : (segment : List ℕ) → HasNoSlash segment → segments_of segment ≡ segment ∷ []
unfolding segments_of
segments-plain [] no_slash = refl
segments-plain (b ∷ segment) no_slash =
    rw (ne-eqb b 47 (no_slash 0 (omega arith)), segments-plain segment (λ k lt. no_slash (suc k) (omega arith))) refl

segments-slash : (segment rest : List ℕ) → HasNoSlash segment → segments_of (segment ++ 47 ∷ rest) ≡ segment ∷ segments_of rest
unfolding segments_of
segments-slash [] rest no_slash = refl
segments-slash (b ∷ segment) rest no_slash =
    rw (ne-eqb b 47 (no_slash 0 (omega arith)), segments-slash segment rest (λ k lt. no_slash (suc k) (omega arith))) refl

bad_place-cons : (at : ℕ) (segment : List ℕ) (segments : List (List ℕ)) → bad_place at (segment ∷ segments) ≡ cond (is_bad_segment segment) (Some at) (bad_place (at + length segment + 1) segments)
unfolding bad_place
bad_place-cons at segment segments = refl

bad_place-nil : (at : ℕ) → bad_place at [] ≡ None
unfolding bad_place
bad_place-nil at = refl

-- what stands from start up to end
abbrev pub part : List ℕ → ℕ → ℕ → List ℕ
part text start end = take (end - start) (drop start text)

part-no-slash : (text : List ℕ) (start end : ℕ) → start ≤ end → end ≤ length text → ((k : ℕ) → start ≤ k → k < end → get_or text k 0 ≢ 47) → HasNoSlash (part text start end)
part-no-slash text start end le within inside k lt e =
    let len : length (part text start end) ≡ end - start = length-take-le (end - start) (drop start text) (omega (arith, length-drop start text)) in
    inside (start + k) (omega arith) (omega arith) (sym (get_or-take (end - start) (drop start text) k 0 (omega arith) ∙ get_or-drop start text k 0) ∙ e)

pub place_more : (text : List ℕ) (start end : ℕ) → start ≤ end → end < length text → ((k : ℕ) → start ≤ k → k < end → get_or text k 0 ≢ 47) → get_or text end 0 ≡ 47
    → bad_place start (segments_of (drop start text)) ≡ cond (is_bad_segment (part text start end)) (Some start) (bad_place (end + 1) (segments_of (drop (end + 1) text)))
place_more text start end le lt inside slash =
    let len : length (part text start end) ≡ end - start = length-take-le (end - start) (drop start text) (omega (arith, length-drop start text)) in
    let at : start + (end - start) ≡ end = omega arith in
    let rest : drop (end - start) (drop start text) ≡ 47 ∷ drop (end + 1) text = drop-drop (end - start) start text ∙ ap (λ (n : ℕ). drop n text) at ∙ drop_more text end 0 lt ∙ ap (λ (b : ℕ). b ∷ drop (end + 1) text) slash in
    let whole : drop start text ≡ part text start end ++ 47 ∷ drop (end + 1) text = sym (take-append-drop (end - start) (drop start text)) ∙ ap (λ (t : List ℕ). part text start end ++ t) rest in
    let next : start + length (part text start end) + 1 ≡ end + 1 = omega arith in
    ap (λ (t : List ℕ). bad_place start (segments_of t)) whole
    ∙ ap (bad_place start) (segments-slash (part text start end) (drop (end + 1) text) (part-no-slash text start end le (omega arith) inside))
    ∙ bad_place-cons start (part text start end) (segments_of (drop (end + 1) text))
    ∙ ap (λ (n : ℕ). cond (is_bad_segment (part text start end)) (Some start) (bad_place n (segments_of (drop (end + 1) text)))) next

pub place_last : (text : List ℕ) (start end : ℕ) → start ≤ end → end ≡ length text → ((k : ℕ) → start ≤ k → k < end → get_or text k 0 ≢ 47)
    → bad_place start (segments_of (drop start text)) ≡ cond (is_bad_segment (part text start end)) (Some start) None
place_last text start end le at_end inside =
    let whole : part text start end ≡ drop start text = take_all (end - start) (drop start text) (omega (arith, length-drop start text)) in
    ap (λ (t : List ℕ). bad_place start (segments_of t)) (sym whole)
    ∙ ap (bad_place start) (segments-plain (part text start end) (part-no-slash text start end le (omega arith) inside))
    ∙ bad_place-cons start (part text start end) []
    ∙ ap (cond (is_bad_segment (part text start end)) (Some start)) (bad_place-nil (start + length (part text start end) + 1))

pub good_len-utf8 : (text : List ℕ) → IsUtf8 text → prefix_len is_path_byte text ≡ good_len text
unfolding good_len
good_len-utf8 text utf8 = omega (arith, utf8_valid_len-IsUtf8 text utf8, prefix_len-le-length is_path_byte text)
