-- The end of a head by its last bytes.
use Rattle.std.proofs.Common.{◌≡◌, ◌≢◌, ℕ, ◌+◌, ◌-◌, ◌<◌, ◌≤◌, ◌⊎◌, true, false, cond, eqb, List, [], ◌∷◌, ◌++◌, length, get_or, take, drop, refl, sym, ap, subst, ◌∙◌, append_assoc, arith, inl, inr, length-append}
use Rattle.std.proofs.Common.{◌&&◌}
use Rattle.std.proofs.lemmas.Bool.{cases_lt}
use Rattle.std.proofs.lemmas.Bool.Decides.{eqb_tells}
use Rattle.std.proofs.lemmas.List.{drop_more, nil_from_length, length-drop, length-take-le, get_or-take, get_or-append-add, take_more}
use Rattle.http_heads.specs.Cut.{EndsHead, drop_blank}

-- what the last bytes show
abbrev pub EndsByBytes : List ℕ → ℕ → Type 0
EndsByBytes bytes last =
    (get_or bytes last 0 ≡ 10)
    × (((1 ≤ last) × (get_or bytes (last - 1) 0 ≡ 10))
    ⊎ ((2 ≤ last) × (get_or bytes (last - 1) 0 ≡ 13) × (get_or bytes (last - 2) 0 ≡ 10)))

read_at : (text bytes prefix tail : List ℕ) (n k : ℕ) → text ≡ take n bytes → n ≤ length bytes → text ≡ prefix ++ tail → k < length tail
    → get_or bytes (length prefix + k) 0 ≡ get_or tail k 0
read_at text bytes prefix tail n k is le e lt =
    let len : length prefix + length tail ≡ n = sym (length-append prefix tail) ∙ ap length (sym e ∙ is) ∙ length-take-le n bytes le in
    let inside : length prefix + k < n = omega arith in
    sym (get_or-take n bytes (length prefix + k) 0 inside) ∙ ap (λ (t : List ℕ). get_or t (length prefix + k) 0) (sym is ∙ e) ∙ get_or-append-add prefix tail k 0

len_of : (bytes prefix tail : List ℕ) (n : ℕ) → n ≤ length bytes → take n bytes ≡ prefix ++ tail → length prefix + length tail ≡ n
len_of bytes prefix tail n le e = sym (length-append prefix tail) ∙ ap length (sym e) ∙ length-take-le n bytes le

pub EndsByBytes-from : (bytes : List ℕ) (last : ℕ) → last < length bytes → EndsHead (take (last + 1) bytes) → EndsByBytes bytes last
EndsByBytes-from bytes last lt (prefix, inl e) =
    let n = len_of bytes prefix (10 ∷ 10 ∷ []) (last + 1) (omega arith) e in
    let a = read_at _ bytes prefix (10 ∷ 10 ∷ []) (last + 1) 0 refl (omega arith) e (omega arith) in
    let b = read_at _ bytes prefix (10 ∷ 10 ∷ []) (last + 1) 1 refl (omega arith) e (omega arith) in
    let la : length prefix + 0 ≡ last - 1 = omega arith in
    let lb : length prefix + 1 ≡ last = omega arith in
    (subst (λ (i : ℕ). get_or bytes i 0 ≡ 10) lb b, inl (omega arith, subst (λ (i : ℕ). get_or bytes i 0 ≡ 10) la a))
EndsByBytes-from bytes last lt (prefix, inr e) =
    let n = len_of bytes prefix (10 ∷ 13 ∷ 10 ∷ []) (last + 1) (omega arith) e in
    let a = read_at _ bytes prefix (10 ∷ 13 ∷ 10 ∷ []) (last + 1) 0 refl (omega arith) e (omega arith) in
    let b = read_at _ bytes prefix (10 ∷ 13 ∷ 10 ∷ []) (last + 1) 1 refl (omega arith) e (omega arith) in
    let d = read_at _ bytes prefix (10 ∷ 13 ∷ 10 ∷ []) (last + 1) 2 refl (omega arith) e (omega arith) in
    let la : length prefix + 0 ≡ last - 2 = omega arith in
    let lb : length prefix + 1 ≡ last - 1 = omega arith in
    let ld : length prefix + 2 ≡ last = omega arith in (
      subst (λ (i : ℕ). get_or bytes i 0 ≡ 10) ld d,
      inr (omega arith, subst (λ (i : ℕ). get_or bytes i 0 ≡ 13) lb b, subst (λ (i : ℕ). get_or bytes i 0 ≡ 10) la a),
    )

more : (bytes : List ℕ) (i v : ℕ) → i < length bytes → get_or bytes i 0 ≡ v → take (i + 1) bytes ≡ take i bytes ++ v ∷ []
more bytes i v lt e = take_more bytes i 0 lt ∙ ap (λ (x : ℕ). take i bytes ++ x ∷ []) e

two : (bytes : List ℕ) (i v w : ℕ) → i + 1 < length bytes → get_or bytes i 0 ≡ v → get_or bytes (i + 1) 0 ≡ w → take (i + 1 + 1) bytes ≡ take i bytes ++ v ∷ w ∷ []
two bytes i v w lt e f =
    more bytes (i + 1) w lt f ∙ ap (λ (t : List ℕ). t ++ w ∷ []) (more bytes i v (omega arith) e) ∙ append_assoc (take i bytes) (v ∷ []) (w ∷ [])

three : (bytes : List ℕ) (i v w x : ℕ) → i + 2 < length bytes → get_or bytes i 0 ≡ v → get_or bytes (i + 1) 0 ≡ w → get_or bytes (i + 1 + 1) 0 ≡ x
    → take (i + 1 + 1 + 1) bytes ≡ take i bytes ++ v ∷ w ∷ x ∷ []
three bytes i v w x lt e f g =
    more bytes (i + 1 + 1) x (omega arith) g ∙ ap (λ (t : List ℕ). t ++ x ∷ []) (two bytes i v w (omega arith) e f) ∙ append_assoc (take i bytes) (v ∷ w ∷ []) (x ∷ [])

pub EndsHead-from : (bytes : List ℕ) (last : ℕ) → last < length bytes → EndsByBytes bytes last → EndsHead (take (last + 1) bytes)
EndsHead-from bytes last lt (e, inl (le, f)) =
    let i : last - 1 + 1 ≡ last = omega arith in
    let g : get_or bytes (last - 1 + 1) 0 ≡ 10 = rw i e in
    let t = two bytes (last - 1) 10 10 (omega arith) f g in
    (take (last - 1) bytes, inl (subst (λ (n : ℕ). take (n + 1) bytes ≡ take (last - 1) bytes ++ 10 ∷ 10 ∷ []) i t))
EndsHead-from bytes last lt (e, inr (le, f, h)) =
    let i : last - 2 + 1 ≡ last - 1 = omega arith in
    let j : last - 2 + 1 + 1 ≡ last = omega arith in
    let g : get_or bytes (last - 2 + 1) 0 ≡ 13 = rw i f in
    let k : get_or bytes (last - 2 + 1 + 1) 0 ≡ 10 = rw j e in
    let t = three bytes (last - 2) 10 13 10 (omega arith) h g k in
    (take (last - 2) bytes, inr (subst (λ (n : ℕ). take (n + 1) bytes ≡ take (last - 2) bytes ++ 10 ∷ 13 ∷ 10 ∷ []) j t))

-- ---- the line ends in front

pub ne-eqb : (a b : ℕ) → a ≢ b → eqb a b ≡ false
ne-eqb a b ne = elim (eqb_tells a b) [ inl eq ↦ absurd (ne eq.1) | inr other ↦ other.0 ]

past-lf : (bytes : List ℕ) → drop_blank (10 ∷ bytes) ≡ drop_blank bytes
past-lf [] = refl
past-lf (b ∷ bytes) = refl

stays-alone : (b : ℕ) → b ≢ 10 → drop_blank (b ∷ []) ≡ b ∷ []
stays-alone b ne = rw (ne-eqb b 10 ne) refl

stays-pair : (b d : ℕ) (bytes : List ℕ) → b ≢ 10 → (b ≢ 13) ⊎ (d ≢ 10) → drop_blank (b ∷ d ∷ bytes) ≡ b ∷ d ∷ bytes
stays-pair b d bytes ne (inl other) = rw (ne-eqb b 10 ne, ne-eqb b 13 other) refl
stays-pair b d bytes ne (inr other) = elim (eqb b 13) as (λ v. cond (eqb b 10) (drop_blank (d ∷ bytes)) (cond (v && eqb d 10) (drop_blank bytes) (b ∷ d ∷ bytes)) ≡ b ∷ d ∷ bytes) [
  | true ↦ rw (ne-eqb b 10 ne, ne-eqb d 10 other) refl
  | false ↦ rw (ne-eqb b 10 ne) refl
]

pub blank_lf : (bytes : List ℕ) (at : ℕ) → at < length bytes → get_or bytes at 0 ≡ 10 → drop_blank (drop (at + 1) bytes) ≡ drop_blank (drop at bytes)
blank_lf bytes at lt e =
    let d : drop at bytes ≡ 10 ∷ drop (at + 1) bytes = drop_more bytes at 0 lt ∙ ap (λ (x : ℕ). x ∷ drop (at + 1) bytes) e in
    sym (past-lf (drop (at + 1) bytes)) ∙ ap drop_blank (sym d)

pub blank_stays : (bytes : List ℕ) (at : ℕ) → at < length bytes → get_or bytes at 0 ≢ 10
    → (get_or bytes at 0 ≢ 13) ⊎ (length bytes ≤ at + 1) ⊎ (get_or bytes (at + 1) 0 ≢ 10)
    → drop_blank (drop at bytes) ≡ drop at bytes
blank_stays bytes at lt ne why =
    rw (drop_more bytes at 0 lt) (elim (cases_lt (at + 1) (length bytes)) [
      | inl more ↦ rw (drop_more bytes (at + 1) 0 more) (stays-pair (get_or bytes at 0) (get_or bytes (at + 1) 0) (drop (at + 1 + 1) bytes) ne (elim why [
        | inl a ↦ inl a
        | inr (inl b) ↦ absurd (omega arith)
        | inr (inr d) ↦ inr d
      ]))
      | inr le ↦ rw (nil_from_length (drop (at + 1) bytes) (omega (arith, length-drop (at + 1) bytes))) (stays-alone (get_or bytes at 0) ne)
    ])
