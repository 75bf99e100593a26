-- The bytes in front that hold no head, and those that are borrowed.
use Rattle.std.proofs.Common.{◌≡◌, ℕ, ◌≤◌, List, [], ◌∷◌, ◌++◌, length, take, drop, sym, ap, subst, ◌∙◌, arith, inl, inr, length-append}
use Rattle.std.proofs.lemmas.List.{length-take, take-append-drop, take-append-le, take_all, take-take}
use Rattle.std.proofs.lemmas.Bool.{cases_lt}
use Rattle.http_heads.specs.Cut.{EndsHead, HasNoHead}

-- no head stands in no bytes
pub no_bytes : HasNoHead []
no_bytes m (prefix, inl e) = absurd (omega (arith, ap length e, length-append prefix (10 ∷ 10 ∷ []), length-take {A = ℕ} m []))
no_bytes m (prefix, inr e) = absurd (omega (arith, ap length e, length-append prefix (10 ∷ 13 ∷ 10 ∷ []), length-take {A = ℕ} m []))

-- where nothing is borrowed, all bytes are held
pub all_held : (n : ℕ) (bytes : List ℕ) → take n bytes ≡ [] → drop n bytes ≡ bytes
all_held n bytes e = sym (ap (λ (t : List ℕ). t ++ drop n bytes) e) ∙ take-append-drop n bytes

-- more bytes behind change no prefix
pub prefix_stays : (n : ℕ) (bytes more new : List ℕ) → n ≤ length bytes → new ≡ bytes ++ more → HasNoHead (take n bytes) → HasNoHead (take n new)
prefix_stays n bytes more new le e h = subst HasNoHead (sym (ap (take n) e ∙ take-append-le n bytes more le)) h

-- a prefix of bytes that hold no head holds none
pub none_in_prefix : (n : ℕ) (bytes : List ℕ) → HasNoHead bytes → HasNoHead (take n bytes)
none_in_prefix n bytes h m e = elim (cases_lt n m) [
  | inl lt ↦ h n (subst EndsHead (take_all m (take n bytes) (omega (arith, length-take n bytes, lt))) e)
  | inr ge ↦ h m (subst EndsHead (take-take m n bytes ge) e)
]
