-- What more bytes behind a stream leave as it was.
use Rattle.std.proofs.Common.{◌≡◌, ℕ, ◌≤◌, Bool, true, false, cond, eqb, ◌&&◌, List, [], ◌∷◌, ◌++◌, length, take, refl, sym, ap, subst, arith, inl, inr, length-append}
use Rattle.std.proofs.lemmas.Bool.{eqb-true}
use Rattle.std.proofs.lemmas.List.{take-append-le, take_all, length-take-le}
use Rattle.http_heads.specs.Cut.{drop_blank, EndsHead, IsHeadLen, HasNoHead}

-- ---- the line ends in front

step : (p q : Bool) (u v w u' v' b : List ℕ) → (2 ≤ length u → u' ≡ u ++ b) → (2 ≤ length v → v' ≡ v ++ b)
    → 2 ≤ length (cond p u (cond q v w)) → cond p u' (cond q v' (w ++ b)) ≡ cond p u (cond q v w) ++ b
step true q u v w u' v' b f g le = f le
step false true u v w u' v' b f g le = g le
step false false u v w u' v' b f g le = refl

one : (p : Bool) (x : ℕ) → 2 ≤ length (cond p [] (x ∷ [])) → ⊥
one true x le = absurd (omega arith)
one false x le = absurd (omega arith)

-- where two bytes stand behind the line ends, more bytes change nothing there
pub drop_blank-append : (a b : List ℕ) → 2 ≤ length (drop_blank a) → drop_blank (a ++ b) ≡ drop_blank a ++ b
drop_blank-append [] b le = absurd (omega arith)
drop_blank-append (x ∷ []) b le = absurd (one (eqb x 10) x le)
drop_blank-append (x ∷ y ∷ a) b le =
    step (eqb x 10) (eqb x 13 && eqb y 10) (drop_blank (y ∷ a)) (drop_blank a) (x ∷ y ∷ a) (drop_blank (y ∷ a ++ b)) (drop_blank (a ++ b)) b
    (drop_blank-append (y ∷ a) b) (drop_blank-append a b) le

past_lf : (bytes : List ℕ) → drop_blank (10 ∷ bytes) ≡ drop_blank bytes
past_lf [] = refl
past_lf (b ∷ bytes) = refl

last_one : (p : Bool) (x : ℕ) (b : List ℕ) → p ≡ eqb x 10 → drop_blank (x ∷ b) ≡ drop_blank (cond p [] (x ∷ []) ++ b)
last_one true x b e = subst (λ (y : ℕ). drop_blank (y ∷ b) ≡ drop_blank b) (sym (eqb-true x 10 (sym e))) (past_lf b)
last_one false x b e = refl

first_two : (p q : Bool) (x y : ℕ) (u v a b u' v' : List ℕ) → drop_blank (x ∷ y ∷ (a ++ b)) ≡ cond p u' (cond q v' (x ∷ y ∷ (a ++ b))) → u' ≡ drop_blank (u ++ b) → v' ≡ drop_blank (v ++ b)
    → cond p u' (cond q v' (x ∷ y ∷ (a ++ b))) ≡ drop_blank (cond p u (cond q v (x ∷ y ∷ a)) ++ b)
first_two true q x y u v a b u' v' e f g = f
first_two false true x y u v a b u' v' e f g = g
first_two false false x y u v a b u' v' e f g = sym e

-- the line ends may be taken off before more bytes come
pub drop_blank-joined : (a b : List ℕ) → drop_blank (a ++ b) ≡ drop_blank (drop_blank a ++ b)
drop_blank-joined [] b = refl
drop_blank-joined (x ∷ []) b = last_one (eqb x 10) x b refl
drop_blank-joined (x ∷ y ∷ a) b =
    first_two (eqb x 10) (eqb x 13 && eqb y 10) x y (drop_blank (y ∷ a)) (drop_blank a) a b (drop_blank (y ∷ a ++ b)) (drop_blank (a ++ b)) refl
    (drop_blank-joined (y ∷ a) b) (drop_blank-joined a b)

-- ---- the head in front

pub IsHeadLen-append : (d more : List ℕ) (n : ℕ) → IsHeadLen d n → IsHeadLen (d ++ more) n
IsHeadLen-append d more n h = record {
  within = omega (arith, h.within, length-append d more);
  ends = subst EndsHead (sym (take-append-le n d more h.within)) h.ends;
  shortest = λ m lt e. h.shortest m lt (subst EndsHead (take-append-le m d more (omega (arith, h.within))) e);
}

ends_long : (text : List ℕ) → EndsHead text → 2 ≤ length text
ends_long text (prefix, inl e) = omega (arith, ap length e, length-append prefix (10 ∷ 10 ∷ []))
ends_long text (prefix, inr e) = omega (arith, ap length e, length-append prefix (10 ∷ 13 ∷ 10 ∷ []))

-- a head has at least two bytes
pub two_bytes : (d : List ℕ) (n : ℕ) → IsHeadLen d n → 2 ≤ n
two_bytes d n h = omega (arith, ends_long (take n d) h.ends, length-take-le n d h.within)

no_end : ¬ (EndsHead [])
no_end (prefix, inl e) = omega (arith, ap length e, length-append prefix (10 ∷ 10 ∷ []))
no_end (prefix, inr e) = omega (arith, ap length e, length-append prefix (10 ∷ 13 ∷ 10 ∷ []))

-- nothing was scanned yet
pub nothing_scanned : (bytes : List ℕ) → HasNoHead (take 0 bytes)
nothing_scanned bytes m e = no_end (subst EndsHead (take_all m [] (omega arith)) e)
