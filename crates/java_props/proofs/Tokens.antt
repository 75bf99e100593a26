-- How each written character is read.
use Rattle.std.proofs.Common.{◌≡◌, ◌<◌, ◌≤◌, ◌+◌, ◌-◌, ◌*◌, ◌/◌, ◌%◌, ◌&&◌, ◌||◌, ℕ, Bool, true, false, cond, not, eqb, ltb, List, [], ◌∷◌, ◌++◌, Option, Some, refl, sym, ap, ◌∙◌, subst, ⊎_elim, arith}
use Rattle.std.proofs.Math.Utf8.{scalar, scalar_cases}
use Rattle.std.proofs.lemmas.Bool.Decides.{nat_tests}
use Rattle.std.specs.List.{flat_map}
use Rattle.std.specs.Char.Escape.{encode_utf16}
use Rattle.std.specs.Char.Utf16.{is_high_surrogate, is_low_surrogate, surrogate_pair_char}
use Rattle.java_props.specs.Lines.{placed, is_white_byte, is_mark_byte}
use Rattle.java_props.specs.Reading.{Piece, pieces, hex_value, with_digit, four_digits, escaped, ends_key, escape_unit, escape_length}
use Rattle.java_props.specs.Texts.{StartsKey, TakesChar}
use Rattle.java_props.specs.Writing.{hex_digit, unit_text, is_special, char_text, guarded_text}
use Rattle.java_props.proofs.Spelled.{takes-one, takes-two}

-- ends a line
abbrev pub ends : ℕ → Bool
ends b = (eqb b 13) || (eqb b 10)

-- no byte ends a line, and the last is no backslash that escapes; `held`: a backslash stands before
abbrev pub is_safe : Bool → List ℕ → Bool
is_safe held [] = not held
is_safe true (b ∷ bs) = not (ends b) && is_safe false bs
is_safe false (b ∷ bs) = not (ends b) && is_safe (eqb b 92) bs

-- the text begins with no white space and no mark
abbrev pub IsKept : List ℕ → Type 0
IsKept [] = ⊥
IsKept (b ∷ bs) = (is_white_byte b ≡ false) × (is_mark_byte b ≡ false)

-- the text is read as one character
pub record IsOne (c : ℕ) (text : List ℕ) : Type 0 where
  pub safe : (r : List ℕ) → is_safe false r ≡ true → is_safe false (text ++ r) ≡ true
  pub takes : (n : ℕ) (r : List ℕ) → (m : ℕ) × TakesChar (pieces 0 (placed n (text ++ r))) c (pieces 0 (placed m r))

-- the text begins a key
pub record IsGuarded (text : List ℕ) : Type 0 where
  pub starts : (n : ℕ) (r : List ℕ) → StartsKey (pieces 0 (placed n (text ++ r)))
  pub kept : (r : List ℕ) → IsKept (text ++ r)

is_no_surrogate : (c : ℕ) → scalar c ≡ true → (is_high_surrogate c ≡ false) × (is_low_surrogate c ≡ false)
is_no_surrogate c s = ⊎_elim (λ h. below c h) (λ h. above c h.0) (scalar_cases c s) where
  below : (c : ℕ) → c < 55296 → (is_high_surrogate c ≡ false) × (is_low_surrogate c ≡ false)
  below c h = (grind (arith, nat_tests), grind (arith, nat_tests))

  above : (c : ℕ) → 57344 ≤ c → (is_high_surrogate c ≡ false) × (is_low_surrogate c ≡ false)
  above c h = (grind (arith, nat_tests), grind (arith, nat_tests))

safe_plain : (b : ℕ) (r : List ℕ) → ends b ≡ false → eqb b 92 ≡ false → is_safe false r ≡ true → is_safe false (b ∷ r) ≡ true
safe_plain b r e k s = ap (λ x. not x && is_safe (eqb b 92) r) e ∙ ap (λ x. is_safe x r) k ∙ s

-- a backslash and a letter
one_escape : (d c : ℕ) → eqb d 117 ≡ false → escaped d ≡ c → ends d ≡ false → is_high_surrogate c ≡ false → is_low_surrogate c ≡ false → IsOne c (92 ∷ d ∷ [])
unfolding pieces placed
one_escape d c u is e h l = record {
  safe = λ r s. ap (λ x. not x && is_safe false r) e ∙ s;
  takes = λ n r. (
    n + 1 + 1,
    subst (λ ps. TakesChar ps c (pieces 0 (placed (n + 1 + 1) r)))
        (sym (ap (λ x. record { at = n; plain = false; unit = cond x (four_digits (placed (n + 1 + 1) r)) (Some (escaped d)) } ∷ pieces (cond x 5 1) (record { at = n + 1; byte = d } ∷ placed (n + 1 + 1) r)) u
        ∙ ap (λ (x : ℕ). record { at = n; plain = false; unit = Some x } ∷ pieces 0 (placed (n + 1 + 1) r)) is))
        (takes-one n false c (pieces 0 (placed (n + 1 + 1) r)) h l),
  );
}

plain_pieces : (n c : ℕ) (r : List ℕ) → eqb c 92 ≡ false → pieces 0 (placed n (c ∷ r)) ≡ record { at = n; plain = not (eqb c 92); unit = Some c } ∷ pieces 0 (placed (n + 1) r)
unfolding pieces placed
plain_pieces n c r k = ap (λ x. record { at = n; plain = not (eqb c 92); unit = cond x (escape_unit (placed (n + 1) r)) (Some c) } ∷ pieces (cond x (escape_length (placed (n + 1) r)) 0) (placed (n + 1) r)) k

-- a byte that means itself
one_plain : (c : ℕ) → eqb c 92 ≡ false → ends c ≡ false → is_high_surrogate c ≡ false → is_low_surrogate c ≡ false → IsOne c (c ∷ [])
unfolding pieces placed
one_plain c k e h l = record {
  safe = λ r s. safe_plain c r e k s;
  takes = λ n r. (
    n + 1,
    subst (λ ps. TakesChar ps c (pieces 0 (placed (n + 1) r))) (sym (plain_pieces n c r k)) (takes-one n (not (eqb c 92)) c (pieces 0 (placed (n + 1) r)) h l),
  );
}

hex_back : (d : ℕ) → d < 16 → hex_value (hex_digit d) ≡ Some d
hex_back d h = grind (arith, nat_tests)

hex_no_end : (d : ℕ) → d < 16 → ends (hex_digit d) ≡ false
hex_no_end d h = grind (arith, nat_tests)

hex_no_slash : (d : ℕ) → d < 16 → eqb (hex_digit d) 92 ≡ false
hex_no_slash d h = grind (arith, nat_tests)

four_back : (u : ℕ) → u < 65536 → 16 * (16 * (16 * (u / 4096 % 16) + u / 256 % 16) + u / 16 % 16) + u % 16 ≡ u
four_back u h = omega arith

-- the digits of a unit
unit_back : (u : ℕ) → u < 65536
    → with_digit (with_digit (with_digit (hex_value (hex_digit (u / 4096 % 16))) (hex_value (hex_digit (u / 256 % 16)))) (hex_value (hex_digit (u / 16 % 16)))) (hex_value (hex_digit (u % 16))) ≡ Some u
unit_back u h =
    ap (λ o. with_digit (with_digit (with_digit o (hex_value (hex_digit (u / 256 % 16)))) (hex_value (hex_digit (u / 16 % 16)))) (hex_value (hex_digit (u % 16)))) (hex_back (u / 4096 % 16) (omega arith))
    ∙ ap (λ o. with_digit (with_digit (with_digit (Some (u / 4096 % 16)) o) (hex_value (hex_digit (u / 16 % 16)))) (hex_value (hex_digit (u % 16)))) (hex_back (u / 256 % 16) (omega arith))
    ∙ ap (λ o. with_digit (with_digit (Some (16 * (u / 4096 % 16) + u / 256 % 16)) o) (hex_value (hex_digit (u % 16)))) (hex_back (u / 16 % 16) (omega arith))
    ∙ ap (λ o. with_digit (Some (16 * (16 * (u / 4096 % 16) + u / 256 % 16) + u / 16 % 16)) o) (hex_back (u % 16) (omega arith))
    ∙ ap (λ x. Some x) (four_back u h)

unit_pieces : (n u : ℕ) (r : List ℕ) → u < 65536 → pieces 0 (placed n (unit_text u ++ r)) ≡ record { at = n; plain = false; unit = Some u } ∷ pieces 0 (placed (n + 1 + 1 + 1 + 1 + 1 + 1) r)
unfolding pieces placed
unit_pieces n u r h = ap (λ (o : Option ℕ). record { at = n; plain = false; unit = o } ∷ pieces 0 (placed (n + 1 + 1 + 1 + 1 + 1 + 1) r)) (unit_back u h)

hex_safe : (d : ℕ) (r : List ℕ) → d < 16 → is_safe false r ≡ true → is_safe false (hex_digit d ∷ r) ≡ true
hex_safe d r h s = safe_plain (hex_digit d) r (hex_no_end d h) (hex_no_slash d h) s

unit_safe : (u : ℕ) (r : List ℕ) → is_safe false r ≡ true → is_safe false (unit_text u ++ r) ≡ true
unit_safe u r s =
    let d = hex_digit (u % 16) ∷ r in
    let c = hex_digit (u / 16 % 16) ∷ d in
    let b = hex_digit (u / 256 % 16) ∷ c in
    hex_safe (u / 4096 % 16) b (omega arith) (hex_safe (u / 256 % 16) c (omega arith) (hex_safe (u / 16 % 16) d (omega arith) (hex_safe (u % 16) r (omega arith) s)))

-- an escape of one unit
one_unit : (u : ℕ) → u < 65536 → is_high_surrogate u ≡ false → is_low_surrogate u ≡ false → IsOne u (unit_text u)
one_unit u lt h l = record {
  safe = λ r s. unit_safe u r s;
  takes = λ n r. (n + 1 + 1 + 1 + 1 + 1 + 1, subst (λ ps. TakesChar ps u (pieces 0 (placed (n + 1 + 1 + 1 + 1 + 1 + 1) r))) (sym (unit_pieces n u r lt)) (takes-one n false u (pieces 0 (placed (n + 1 + 1 + 1 + 1 + 1 + 1) r)) h l));
}

-- escapes of a surrogate pair
one_pair : (u v c : ℕ) → u < 65536 → v < 65536 → is_high_surrogate u ≡ true → is_low_surrogate v ≡ true → surrogate_pair_char u v ≡ c → IsOne c (unit_text u ++ unit_text v)
one_pair u v c lu lv h l is = record {
  safe = λ r s. unit_safe u (unit_text v ++ r) (unit_safe v r s);
  takes = λ n r. let m = n + 1 + 1 + 1 + 1 + 1 + 1 in let k = m + 1 + 1 + 1 + 1 + 1 + 1 in (
    k,
    subst (λ x. TakesChar (pieces 0 (placed n (unit_text u ++ unit_text v ++ r))) x (pieces 0 (placed k r))) is
        (subst (λ ps. TakesChar ps (surrogate_pair_char u v) (pieces 0 (placed k r)))
        (sym (unit_pieces n u (unit_text v ++ r) lu ∙ ap (λ (ps : List Piece). record { at = n; plain = false; unit = Some u } ∷ ps) (unit_pieces m v r lv)))
        (takes-two n m false false u v (pieces 0 (placed k r)) h l)),
  );
}

is_it : (c k : ℕ) → eqb c k ≡ true → c ≡ k
is_it c k h = grind (arith, nat_tests)

by_test : (P : List ℕ → Type 0) (b : Bool) (x y : List ℕ) → (b ≡ true → P x) → (b ≡ false → P y) → P (cond b x y)
by_test P true x y f g = f refl
by_test P false x y f g = g refl

special_one : (c : ℕ) → is_special c ≡ true → IsOne c (92 ∷ c ∷ [])
special_one c s = one_escape c c (no_u c s) (same c s) (no_end c s) (no_high c s) (no_low c s) where
  no_u : (c : ℕ) → is_special c ≡ true → eqb c 117 ≡ false
  no_u c s = grind (arith, nat_tests)

  same : (c : ℕ) → is_special c ≡ true → escaped c ≡ c
  same c s = grind (arith, nat_tests)

  no_end : (c : ℕ) → is_special c ≡ true → ends c ≡ false
  no_end c s = grind (arith, nat_tests)

  no_high : (c : ℕ) → is_special c ≡ true → is_high_surrogate c ≡ false
  no_high c s = grind (arith, nat_tests)

  no_low : (c : ℕ) → is_special c ≡ true → is_low_surrogate c ≡ false
  no_low c s = grind (arith, nat_tests)

units_one : (c : ℕ) → scalar c ≡ true → IsOne c (flat_map unit_text (encode_utf16 c))
units_one c s = by_size (ltb c 65536) refl where
  small : (c : ℕ) → ltb c 65536 ≡ true → c < 65536
  small c h = grind (arith, nat_tests)

  large : (c : ℕ) → ltb c 65536 ≡ false → 65536 ≤ c
  large c h = grind (arith, nat_tests)

  high : (c : ℕ) → 65536 ≤ c → c < 1114112 → is_high_surrogate (55296 + (c - 65536) / 1024) ≡ true
  high c h k = grind (arith, nat_tests)

  low : (c : ℕ) → is_low_surrogate (56320 + (c - 65536) % 1024) ≡ true
  low c = grind (arith, nat_tests)

  pair : (c : ℕ) → 65536 ≤ c → surrogate_pair_char (55296 + (c - 65536) / 1024) (56320 + (c - 65536) % 1024) ≡ c
  pair c h = omega arith

  scalar_bound : 65536 ≤ c → c < 1114112
  scalar_bound h = ⊎_elim (λ l. absurd (omega arith)) (λ l. l.1) (scalar_cases c s)

  by_size : (b : Bool) → ltb c 65536 ≡ b → IsOne c (flat_map unit_text (cond b (c ∷ []) ((55296 + (c - 65536) / 1024) ∷ (56320 + (c - 65536) % 1024) ∷ [])))
  by_size true e = let n = is_no_surrogate c s in one_unit c (small c e) n.0 n.1
  by_size false e = let l = large c e in let m = scalar_bound l in
      one_pair (55296 + (c - 65536) / 1024) (56320 + (c - 65536) % 1024) c (omega arith) (omega arith) (high c l m) (low c) (pair c l)

-- a written character is read as itself
pub char_one : (c : ℕ) → scalar c ≡ true → IsOne c (char_text c)
unfolding char_text
char_one c s =
    by_test (IsOne c) (is_special c) _ _ (special_one c)
    (λ k. by_test (IsOne c) (eqb c 9) _ _ (λ e. subst (λ x. IsOne x (92 ∷ 116 ∷ [])) (sym (is_it c 9 e)) (one_escape 116 9 refl refl refl refl refl))
    (λ _. by_test (IsOne c) (eqb c 10) _ _ (λ e. subst (λ x. IsOne x (92 ∷ 110 ∷ [])) (sym (is_it c 10 e)) (one_escape 110 10 refl refl refl refl refl))
    (λ a. by_test (IsOne c) (eqb c 13) _ _ (λ e. subst (λ x. IsOne x (92 ∷ 114 ∷ [])) (sym (is_it c 13 e)) (one_escape 114 13 refl refl refl refl refl))
    (λ b. by_test (IsOne c) (eqb c 12) _ _ (λ e. subst (λ x. IsOne x (92 ∷ 102 ∷ [])) (sym (is_it c 12 e)) (one_escape 102 12 refl refl refl refl refl))
    (λ _. by_test (IsOne c) (ltb c 32 || ltb 126 c) _ _ (λ _. units_one c s)
    (λ _. let n = is_no_surrogate c s in one_plain c (no_slash c k) (no_end c a b) n.0 n.1)))))) where
      no_slash : (c : ℕ) → is_special c ≡ false → eqb c 92 ≡ false
      no_slash c k = grind (arith, nat_tests)

      no_end : (c : ℕ) → eqb c 10 ≡ false → eqb c 13 ≡ false → ends c ≡ false
      no_end c a b = grind (arith, nat_tests)

pub guarded_one : (c : ℕ) → scalar c ≡ true → IsOne c (guarded_text c)
guarded_one c s = by_test (IsOne c) (eqb c 32) _ _ (λ e. subst (λ x. IsOne x (92 ∷ 32 ∷ [])) (sym (is_it c 32 e)) (one_escape 32 32 refl refl refl refl refl)) (λ _. char_one c s)

-- a text that begins with a backslash
escape_guarded : (d : ℕ) (t : List ℕ) → IsGuarded (92 ∷ d ∷ t)
unfolding pieces placed
escape_guarded d t = record { starts = λ n r. refl; kept = λ r. (refl, refl) }

units_guarded : (c : ℕ) → IsGuarded (flat_map unit_text (encode_utf16 c))
units_guarded c = by_size (ltb c 65536) where
  by_size : (b : Bool) → IsGuarded (flat_map unit_text (cond b (c ∷ []) ((55296 + (c - 65536) / 1024) ∷ (56320 + (c - 65536) % 1024) ∷ [])))
  by_size true = escape_guarded 117 _
  by_size false = escape_guarded 117 _

plain_guarded : (c : ℕ) → eqb c 32 ≡ false → is_special c ≡ false → (ltb c 32 || ltb 126 c) ≡ false → IsGuarded (c ∷ [])
plain_guarded c w k p = record {
  starts = λ n r. subst StartsKey (sym (plain_pieces n c r (no_slash c k))) (other n c w k p);
  kept = λ r. (no_white c w p, no_mark c k);
} where
  no_slash : (c : ℕ) → is_special c ≡ false → eqb c 92 ≡ false
  no_slash c k = grind (arith, nat_tests)

  no_white : (c : ℕ) → eqb c 32 ≡ false → (ltb c 32 || ltb 126 c) ≡ false → is_white_byte c ≡ false
  no_white c w p = grind (arith, nat_tests)

  no_mark : (c : ℕ) → is_special c ≡ false → is_mark_byte c ≡ false
  no_mark c k = grind (arith, nat_tests)

  other : (n c : ℕ) → eqb c 32 ≡ false → is_special c ≡ false → (ltb c 32 || ltb 126 c) ≡ false → ends_key (record { at = n; plain = not (eqb c 92); unit = Some c }) ≡ false
  other n c w k p = grind (arith, nat_tests)

-- a written character of a key, or the first of a value, ends no key and is no white space
pub guarded_first : (c : ℕ) → IsGuarded (guarded_text c)
unfolding char_text
guarded_first c =
    by_test IsGuarded (eqb c 32) _ _ (λ _. escape_guarded 32 [])
    (λ w. by_test IsGuarded (is_special c) _ _ (λ _. escape_guarded c [])
    (λ k. by_test IsGuarded (eqb c 9) _ _ (λ _. escape_guarded 116 [])
    (λ _. by_test IsGuarded (eqb c 10) _ _ (λ _. escape_guarded 110 [])
    (λ _. by_test IsGuarded (eqb c 13) _ _ (λ _. escape_guarded 114 [])
    (λ _. by_test IsGuarded (eqb c 12) _ _ (λ _. escape_guarded 102 [])
    (λ _. by_test IsGuarded (ltb c 32 || ltb 126 c) _ _ (λ _. units_guarded c)
    (λ p. plain_guarded c w k p)))))))
