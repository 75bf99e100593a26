-- The text of a key and of a value, and the line of a pair, as they are read.
use Rattle.std.proofs.Common.{◌≡◌, ◌+◌, ◌&&◌, ℕ, Bool, true, false, not, eqb, List, [], ◌∷◌, ◌++◌, Result, Ok, Err, refl, sym, ap, ◌∙◌, subst, append_assoc}
use Rattle.std.specs.Prelude.{encode_utf8, encode_utf8_all}
use Rattle.std.proofs.Math.Utf8.{scalar, scalars}
use Rattle.std.proofs.lemmas.Bool.{false≢true}
use Rattle.std.specs.List.{flat_map}
use Rattle.java_props.specs.declared.PropsErr.{PropsErr}
use Rattle.java_props.specs.Lines.{Cell, placed, with_prefix, natural_lines, trim, logical_lines}
use Rattle.java_props.specs.From.{middle, head_of, others_of}
use Rattle.java_props.specs.Kept.{put, has_room}
use Rattle.java_props.specs.Reading.{pieces, text_of, key_part, after_key, after_blanks, after_gap, with_pair, ◌>>=◌}
use Rattle.java_props.specs.Texts.{before}
use Rattle.java_props.specs.Writing.{char_text, guarded_text, value_chars}
use Rattle.java_props.proofs.Middle.{middle-one, middle-two, middle-end, natural-one, trim-other}
use Rattle.java_props.proofs.Skips.{keeps}
use Rattle.java_props.proofs.Blanks.{trim_cons, trim_nil, blank_pieces}
use Rattle.java_props.proofs.Spelled.{before-before}
use Rattle.java_props.proofs.LinePairs.{with_key}
use Rattle.java_props.proofs.Tokens.{ends, is_safe, IsKept, IsOne, IsGuarded, char_one, guarded_one, guarded_first}

and_parts : (a b : Bool) → a && b ≡ true → (a ≡ true) × (b ≡ true)
and_parts true b h = (refl, h)
and_parts false b h = absurd (false≢true h)

absurd_and : (a : Bool) → a && false ≡ false
absurd_and true = refl
absurd_and false = refl

pub append_nil : (xs : List ℕ) → xs ++ [] ≡ xs
append_nil [] = refl
append_nil (x ∷ xs) = ap (λ t. x ∷ t) (append_nil xs)

not_true : (a : Bool) → not a ≡ true → a ≡ false
not_true true h = absurd (false≢true h)
not_true false h = refl

before-nil : (r : Result (List ℕ) PropsErr) → r ≡ before [] r
before-nil (Ok t) = refl
before-nil (Err e) = refl

-- what written characters spell before what follows them
record Spells (cs : List ℕ) (text : List ℕ) (n : ℕ) (r : List ℕ) : Type 0 where
  m : ℕ
  value : text_of false (pieces 0 (placed n (text ++ r))) ≡ before (encode_utf8_all cs) (text_of false (pieces 0 (placed m r)))

record SpellsKey (cs : List ℕ) (text : List ℕ) (n : ℕ) (r : List ℕ) : Type 0 where
  m : ℕ
  key : text_of false (key_part (pieces 0 (placed n (text ++ r)))) ≡ before (encode_utf8_all cs) (text_of false (key_part (pieces 0 (placed m r))))
  after : after_key (pieces 0 (placed n (text ++ r))) ≡ after_key (pieces 0 (placed m r))

value_more : (c : ℕ) (cs new text : List ℕ) (n : ℕ) (r : List ℕ) → IsOne c new → ((m : ℕ) → Spells cs text m r) → Spells (c ∷ cs) (new ++ text) n r
value_more c cs new text n r one more =
    let t = one.takes n (text ++ r) in
    let s = more t.0 in
    record {
      m = s.m;
      value = ap (λ x. text_of false (pieces 0 (placed n x))) (append_assoc new text r) ∙ t.1.0 ∙ ap (before (encode_utf8 c)) s.value ∙ before-before (encode_utf8 c) (encode_utf8_all cs) (text_of false (pieces 0 (placed s.m r)));
    }

key_more : (c : ℕ) (cs new text : List ℕ) (n : ℕ) (r : List ℕ) → IsOne c new → IsGuarded new → ((m : ℕ) → SpellsKey cs text m r) → SpellsKey (c ∷ cs) (new ++ text) n r
key_more c cs new text n r one guarded more =
    let t = one.takes n (text ++ r) in
    let k = t.1.1 (guarded.starts n (text ++ r)) in
    let s = more t.0 in
    record {
      m = s.m;
      key = ap (λ x. text_of false (key_part (pieces 0 (placed n x)))) (append_assoc new text r) ∙ k.0 ∙ ap (before (encode_utf8 c)) s.key ∙ before-before (encode_utf8 c) (encode_utf8_all cs) (text_of false (key_part (pieces 0 (placed s.m r))));
      after = ap (λ x. after_key (pieces 0 (placed n x))) (append_assoc new text r) ∙ k.1 ∙ s.after;
    }

chars_spell : (cs : List ℕ) (n : ℕ) (r : List ℕ) → scalars cs ≡ true → Spells cs (flat_map char_text cs) n r
chars_spell [] n r s = record { m = n; value = before-nil _ }
chars_spell (c ∷ cs) n r s = let h = and_parts (scalar c) (scalars cs) s in value_more c cs (char_text c) (flat_map char_text cs) n r (char_one c h.0) (λ m. chars_spell cs m r h.1)

key_spells : (cs : List ℕ) (n : ℕ) (r : List ℕ) → scalars cs ≡ true → SpellsKey cs (flat_map guarded_text cs) n r
key_spells [] n r s = record { m = n; key = before-nil _; after = refl }
key_spells (c ∷ cs) n r s = let h = and_parts (scalar c) (scalars cs) s in key_more c cs (guarded_text c) (flat_map guarded_text cs) n r (guarded_one c h.0) (guarded_first c) (λ m. key_spells cs m r h.1)

value_spells : (cs : List ℕ) (n : ℕ) (r : List ℕ) → scalars cs ≡ true → Spells cs (value_chars cs) n r
value_spells [] n r s = record { m = n; value = before-nil _ }
value_spells (c ∷ cs) n r s = let h = and_parts (scalar c) (scalars cs) s in value_more c cs (guarded_text c) (flat_map char_text cs) n r (guarded_one c h.0) (λ m. chars_spell cs m r h.1)

-- no byte of written characters ends a line
safe_more : (c : ℕ) (new text r : List ℕ) → IsOne c new → is_safe false (text ++ r) ≡ true → is_safe false ((new ++ text) ++ r) ≡ true
safe_more c new text r one s = ap (is_safe false) (append_assoc new text r) ∙ one.safe (text ++ r) s

chars_safe : (cs r : List ℕ) → scalars cs ≡ true → is_safe false r ≡ true → is_safe false (flat_map char_text cs ++ r) ≡ true
chars_safe [] r s t = t
chars_safe (c ∷ cs) r s t = let h = and_parts (scalar c) (scalars cs) s in safe_more c (char_text c) (flat_map char_text cs) r (char_one c h.0) (chars_safe cs r h.1 t)

key_safe : (cs r : List ℕ) → scalars cs ≡ true → is_safe false r ≡ true → is_safe false (flat_map guarded_text cs ++ r) ≡ true
key_safe [] r s t = t
key_safe (c ∷ cs) r s t = let h = and_parts (scalar c) (scalars cs) s in safe_more c (guarded_text c) (flat_map guarded_text cs) r (guarded_one c h.0) (key_safe cs r h.1 t)

value_safe : (cs : List ℕ) → scalars cs ≡ true → is_safe false (value_chars cs) ≡ true
value_safe [] s = refl
value_safe (c ∷ cs) s = let h = and_parts (scalar c) (scalars cs) s in (guarded_one c h.0).safe (flat_map char_text cs) (subst (λ x. is_safe false x ≡ true) (append_nil (flat_map char_text cs)) (chars_safe cs [] h.1 refl))

-- a written line begins with no white space and no mark
pub key_kept : (cs r : List ℕ) → IsKept (flat_map guarded_text cs ++ 61 ∷ r)
key_kept [] r = (refl, refl)
key_kept (c ∷ cs) r = subst IsKept (sym (append_assoc (guarded_text c) (flat_map guarded_text cs) (61 ∷ r))) ((guarded_first c).kept (flat_map guarded_text cs ++ 61 ∷ r))

pub trim_kept : (n : ℕ) (t : List ℕ) → IsKept t → trim (placed n t) ≡ placed n t
unfolding placed
trim_kept n [] k = absurd k
trim_kept n (b ∷ t) k = trim_cons (record { at = n; byte = b }) (placed (n + 1) t) false k.0

value_trim : (cs : List ℕ) (n : ℕ) → trim (placed n (value_chars cs)) ≡ placed n (value_chars cs)
unfolding placed
value_trim [] n = trim_nil
value_trim (c ∷ cs) n = trim_kept n (guarded_text c ++ flat_map char_text cs) ((guarded_first c).kept (flat_map char_text cs))

-- the pair of a written line
pub pair_back : (pairs : List (List ℕ × List ℕ)) (ks vs : List ℕ) (n : ℕ) → scalars ks ≡ true → scalars vs ≡ true → has_room (encode_utf8_all ks) pairs ≡ true
    → with_pair pairs n (pieces 0 (placed n (flat_map guarded_text ks ++ 61 ∷ value_chars vs))) ≡ Ok (put (encode_utf8_all ks) (encode_utf8_all vs) pairs)
unfolding pieces placed key_part after_key after_blanks text_of
pair_back pairs ks vs n sk sv room =
    let k = key_spells ks n (61 ∷ value_chars vs) sk in
    let ps = pieces 0 (placed n (flat_map guarded_text ks ++ 61 ∷ value_chars vs)) in
    let v = value_spells vs (k.m + 1) [] sv in
    with_key pairs n ps (encode_utf8_all ks) true (k.key ∙ ap (λ x. Ok x) (append_nil (encode_utf8_all ks))) room
    ∙ ap (λ qs. text_of false (after_gap qs) >>= λ value. Ok (put (encode_utf8_all ks) value pairs)) k.after
    ∙ ap (λ qs. text_of false qs >>= λ value. Ok (put (encode_utf8_all ks) value pairs))
    (blank_pieces (placed (k.m + 1) (value_chars vs)) ∙ ap (pieces 0) (value_trim vs (k.m + 1)))
    ∙ ap (λ r. r >>= λ value. Ok (put (encode_utf8_all ks) value pairs))
    (ap (λ x. text_of false (pieces 0 (placed (k.m + 1) x))) (sym (append_nil (value_chars vs))) ∙ v.value ∙ ap (λ x. Ok x) (append_nil (encode_utf8_all vs)))

-- the natural lines of text with a line feed behind it, from the middle of a logical line
line_back : (t : List ℕ) (n : ℕ) (r : List ℕ) → is_safe false t ≡ true → (m : ℕ) × (middle (placed n (t ++ 10 ∷ r)) ≡ placed n t ∷ logical_lines false (natural_lines false (placed m r)))
unfolding placed
line_back [] n r s = (n + 1, middle-end (record { at = n; byte = 10 }) (placed (n + 1) r) refl)
line_back (b ∷ []) n r s = last (eqb b 92) refl where
  last : (k : Bool) → eqb b 92 ≡ k → (m : ℕ) × (middle (placed n (b ∷ 10 ∷ r)) ≡ placed n (b ∷ []) ∷ logical_lines false (natural_lines false (placed m r)))
  last true k = absurd (false≢true (sym (absurd_and (not (ends b))) ∙ sym (ap (λ x. not (ends b) && is_safe x []) k) ∙ s))
  last false k = let e = not_true (ends b) (and_parts (not (ends b)) (is_safe (eqb b 92) []) s).0 in (
    n + 1 + 1,
    middle-one (record { at = n; byte = b }) (placed (n + 1) (10 ∷ r)) e k
        ∙ ap (λ ls. with_prefix (record { at = n; byte = b } ∷ []) ls) (middle-end (record { at = n + 1; byte = 10 }) (placed (n + 1 + 1) r) refl),
  )
line_back (b ∷ d ∷ t) n r s = more (eqb b 92) refl (λ h. line_back (d ∷ t) (n + 1) r h) (λ h. line_back t (n + 1 + 1) r h) where
  here : Cell
  here = record { at = n; byte = b }

  next : Cell
  next = record { at = n + 1; byte = d }

  more : (k : Bool) → eqb b 92 ≡ k
      → (is_safe false (d ∷ t) ≡ true → (m : ℕ) × (middle (placed (n + 1) ((d ∷ t) ++ 10 ∷ r)) ≡ placed (n + 1) (d ∷ t) ∷ logical_lines false (natural_lines false (placed m r))))
      → (is_safe false t ≡ true → (m : ℕ) × (middle (placed (n + 1 + 1) (t ++ 10 ∷ r)) ≡ placed (n + 1 + 1) t ∷ logical_lines false (natural_lines false (placed m r))))
      → (m : ℕ) × (middle (placed n ((b ∷ d ∷ t) ++ 10 ∷ r)) ≡ placed n (b ∷ d ∷ t) ∷ logical_lines false (natural_lines false (placed m r)))
  more true k one two =
      let h = and_parts (not (ends b)) (is_safe true (d ∷ t)) (ap (λ x. not (ends b) && is_safe x (d ∷ t)) (sym k) ∙ s) in
      let g = and_parts (not (ends d)) (is_safe false t) h.1 in
      let i = two g.1 in
      (i.0, middle-two here next (placed (n + 1 + 1) (t ++ 10 ∷ r)) (not_true (ends b) h.0) k (not_true (ends d) g.0) ∙ ap (λ ls. with_prefix (here ∷ next ∷ []) ls) i.1)
  more false k one two =
      let h = and_parts (not (ends b)) (is_safe false (d ∷ t)) (ap (λ x. not (ends b) && is_safe x (d ∷ t)) (sym k) ∙ s) in
      let i = one h.1 in
      (i.0, middle-one here (placed (n + 1) ((d ∷ t) ++ 10 ∷ r)) (not_true (ends b) h.0) k ∙ ap (λ ls. with_prefix (here ∷ []) ls) i.1)

with_prefix-cons : (c : Cell) (ls : List (List Cell)) → with_prefix (c ∷ []) ls ≡ (c ∷ head_of ls) ∷ others_of ls
with_prefix-cons c [] = refl
with_prefix-cons c (l ∷ ls) = refl

-- the same where no line before goes on
pub line_kept : (t : List ℕ) (n : ℕ) (r : List ℕ) → is_safe false t ≡ true → IsKept t → (m : ℕ) × (logical_lines false (natural_lines false (placed n (t ++ 10 ∷ r))) ≡ placed n t ∷ logical_lines false (natural_lines false (placed m r)))
unfolding placed
line_kept [] n r s k = absurd k
line_kept (b ∷ t) n r s k =
    let h = and_parts (not (ends b)) (is_safe (eqb b 92) t) s in
    let i = line_back (b ∷ t) n r s in
    let c : Cell = record { at = n; byte = b } in
    let cs = placed (n + 1) (t ++ 10 ∷ r) in
    (i.0, keeps (natural_lines false (c ∷ cs)) (c ∷ head_of (natural_lines false cs)) (others_of (natural_lines false cs)) (trim-other c cs k.0 ∙ natural-one false c cs (not_true (ends b) h.0) ∙ with_prefix-cons c (natural_lines false cs)) k.1 ∙ i.1)

-- no byte of a written line ends it
pub line_safe : (ks vs : List ℕ) → scalars ks ≡ true → scalars vs ≡ true → is_safe false (flat_map guarded_text ks ++ 61 ∷ value_chars vs) ≡ true
line_safe ks vs sk sv = key_safe ks (61 ∷ value_chars vs) sk (value_safe vs sv)
