-- Texts without the spaces and tabs at their ends.
use Rattle.std.proofs.Common.{◌≡◌, ℕ, ◌+◌, ◌-◌, ◌<◌, ◌≤◌, true, false, List, [], ◌∷◌, ◌++◌, length, get_or, take, drop, reverse, sym, ap, subst, ◌∙◌, arith}
use Rattle.std.proofs.lemmas.List.{drop_more, take_more, reverse-append, reverse-reverse}
use Rattle.httparse.specs.Grammar.{is_ows, skip_ows, trim_ows}
use Rattle.httparse.proofs.TrimLemmas.{skip_ows_yes, skip_ows_no}

pub skip_step : (text : List ℕ) (i : ℕ) → i < length text → true ≡ is_ows (get_or text i 0) → skip_ows (drop (i + 1) text) ≡ skip_ows (drop i text)
skip_step text i lt blank = sym (skip_ows_yes (drop_more text i 0 lt) blank)

pub skip_stop : (text : List ℕ) (i : ℕ) → i < length text → false ≡ is_ows (get_or text i 0) → skip_ows (drop i text) ≡ drop i text
skip_stop text i lt other = skip_ows_no (drop_more text i 0 lt) other

last_of : (text : List ℕ) (end : ℕ) → 0 < end → end ≤ length text → reverse (take end text) ≡ get_or text (end - 1) 0 ∷ reverse (take (end - 1) text)
last_of text end some le =
    let i : end - 1 + 1 ≡ end = omega arith in
    let parts : take end text ≡ take (end - 1) text ++ get_or text (end - 1) 0 ∷ [] =
    subst (λ (n : ℕ). take n text ≡ take (end - 1) text ++ get_or text (end - 1) 0 ∷ []) i (take_more text (end - 1) 0 (omega arith)) in
    ap reverse parts ∙ reverse-append (take (end - 1) text) (get_or text (end - 1) 0 ∷ [])

pub trim_step : (text : List ℕ) (end : ℕ) → 0 < end → end ≤ length text → true ≡ is_ows (get_or text (end - 1) 0)
    → skip_ows (reverse (take (end - 1) text)) ≡ skip_ows (reverse (take end text))
trim_step text end some le blank = sym (skip_ows_yes (last_of text end some le) blank)

pub trim_stop : (text prefix : List ℕ) (end : ℕ) → prefix ≡ skip_ows text → 0 < end → end ≤ length prefix → false ≡ is_ows (get_or prefix (end - 1) 0)
    → skip_ows (reverse (take end prefix)) ≡ skip_ows (reverse prefix) → take end prefix ≡ trim_ows text
unfolding trim_ows
trim_stop text prefix end is some le other same =
    sym (reverse-reverse (take end prefix)) ∙ ap reverse (sym (skip_ows_no (last_of prefix end some le) other) ∙ same)
    ∙ ap (λ (t : List ℕ). reverse (skip_ows (reverse t))) is

pub trim_none : (text prefix : List ℕ) → prefix ≡ skip_ows text → skip_ows (reverse (take 0 prefix)) ≡ skip_ows (reverse prefix) → [] ≡ trim_ows text
unfolding trim_ows
trim_none text prefix is same = ap reverse same ∙ ap (λ (t : List ℕ). reverse (skip_ows (reverse t))) is
