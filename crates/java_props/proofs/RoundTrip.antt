-- What is written is read as the pairs that were written.
use Rattle.std.proofs.Common.{◌≡◌, ◌<◌, ◌≤◌, ◌||◌, ℕ, Bool, true, false, ltb, List, [], ◌∷◌, ◌++◌, length, length-append, map, is_some, Ok, refl, sym, ap, ◌∙◌, subst, append_assoc, arith}
use Rattle.std.specs.Prelude.{encode_utf8_all}
use Rattle.std.proofs.Math.Utf8.{scalars}
use Rattle.std.proofs.lemmas.Str.{chars-encodes, IsUtf8-string_bytes}
use Rattle.std.proofs.lemmas.Bool.Decides.{nat_tests}
use Rattle.std.proofs.lemmas.Cmp.{nat_list_cmp_total}
use Rattle.std.specs.List.{flat_map, AllByRecursion}
use Rattle.std.specs.List.Sorted.{IsStrictlySortedBy}
use Rattle.std.specs.Str.{IsUtf8, chars}
use Rattle.std.specs.Ordering.{ordering_reverse}
use Rattle.std.specs.declared.cmp.Ordering.TheVariants.{Less}
use Rattle.java_props.specs.declared.pairs.Pair.{Pair}
use Rattle.java_props.specs.Seen.{all_seen}
use Rattle.java_props.specs.Lines.{placed, natural_lines, trim, logical_lines}
use Rattle.java_props.specs.Kept.{text_cmp, put, put_at, value_of, has_room, IsOrdered, ArePairs, AreTexts}
use Rattle.java_props.specs.Reading.{pieces, with_pair, with_trimmed, with_lines, ◌>>=◌, Reads}
use Rattle.java_props.specs.Writing.{guarded_text, key_text, value_text, value_chars, line_text, written}
use Rattle.java_props.proofs.LinePairs.{reading-lines}
use Rattle.java_props.proofs.LineWritten.{pair_back, line_kept, line_safe, key_kept, trim_kept}
use Rattle.java_props.proofs.Tokens.{IsKept}

-- a key above all others
below_it : (k : List ℕ) (q : List ℕ × List ℕ) (ps more : List (List ℕ × List ℕ)) → AllByRecursion (λ y. text_cmp k y ≡ Less) (map (λ p. p.0) (ps ++ q ∷ more)) → text_cmp k q.0 ≡ Less
below_it k q [] more h = h.0
below_it k q (p ∷ ps) more h = below_it k q ps more h.1

put_last : (q : List ℕ × List ℕ) (ps more : List (List ℕ × List ℕ)) → IsOrdered (ps ++ q ∷ more) → put q.0 q.1 ps ≡ ps ++ q ∷ []
unfolding IsStrictlySortedBy put
put_last q [] more h = refl
put_last q (p ∷ ps) more h =
    ap (λ o. put_at o q p ps (put q.0 q.1 ps)) (nat_list_cmp_total.antisymm q.0 p.0 ∙ ap ordering_reverse (below_it p.0 q ps more h.0))
    ∙ ap (λ x. p ∷ x) (put_last q ps more h.1)

room_left : (key : List ℕ) (ps : List (List ℕ × List ℕ)) → length ps < 256 → has_room key ps ≡ true
room_left key ps h = let t : ltb (length ps) 256 ≡ true = grind (arith, nat_tests) in ap (λ b. is_some (value_of key ps) || b) t ∙ or_true (is_some (value_of key ps)) where
  or_true : (a : Bool) → a || true ≡ true
  or_true true = refl
  or_true false = refl

-- a pair and the rest, as a line and the rest
line_first : (q : List ℕ × List ℕ) (more : List (List ℕ × List ℕ)) → written (q ∷ more) ≡ (key_text q.0 ++ 61 ∷ value_text q.1) ++ 10 ∷ written more
unfolding written
line_first q more = append_assoc (key_text q.0 ++ 61 ∷ value_text q.1) (10 ∷ []) (flat_map line_text more)

-- the texts of characters
text_chars : (t cs : List ℕ) → scalars cs ≡ true → encode_utf8_all cs ≡ t → chars t ≡ cs
text_chars t cs s e = ap chars (sym e) ∙ chars-encodes cs s

line_chars : (q : List ℕ × List ℕ) (ks vs : List ℕ) → chars q.0 ≡ ks → chars q.1 ≡ vs → key_text q.0 ++ 61 ∷ value_text q.1 ≡ flat_map guarded_text ks ++ 61 ∷ value_chars vs
unfolding key_text value_text
line_chars q ks vs k v = ap (λ cs. flat_map guarded_text cs ++ 61 ∷ value_chars (chars q.1)) k ∙ ap (λ cs. flat_map guarded_text ks ++ 61 ∷ value_chars cs) v

-- a line of kept text gives the pair of its pieces
with_kept : (pairs : List (List ℕ × List ℕ)) (n : ℕ) (t : List ℕ) → IsKept t → with_trimmed pairs (trim (placed n t)) ≡ with_pair pairs n (pieces 0 (placed n t))
unfolding placed
with_kept pairs n [] k = absurd k
with_kept pairs n (b ∷ t) k = ap (with_trimmed pairs) (trim_kept n (b ∷ t) k)

-- the first written line, and those after it
line_read : (pairs : List (List ℕ × List ℕ)) (n : ℕ) (q : List ℕ × List ℕ) (more : List (List ℕ × List ℕ)) → IsUtf8 q.0 → IsUtf8 q.1 → has_room q.0 pairs ≡ true
    → (m : ℕ) × (with_lines pairs (logical_lines false (natural_lines false (placed n (written (q ∷ more))))) ≡ with_lines (put q.0 q.1 pairs) (logical_lines false (natural_lines false (placed m (written more)))))
unfolding with_lines
line_read pairs n q more uk uv room =
    let ks = uk.0 in
    let vs = uv.0 in
    let t = flat_map guarded_text ks ++ 61 ∷ value_chars vs in
    let e : written (q ∷ more) ≡ t ++ 10 ∷ written more = line_first q more ∙ ap (λ x. x ++ 10 ∷ written more) (line_chars q ks vs (text_chars q.0 ks uk.1.0 uk.1.1) (text_chars q.1 vs uv.1.0 uv.1.1)) in
    let l = line_kept t n (written more) (line_safe ks vs uk.1.0 uv.1.0) (key_kept ks (value_chars vs)) in
    let p : with_pair pairs n (pieces 0 (placed n t)) ≡ Ok (put q.0 q.1 pairs) =
    pair_back pairs ks vs n uk.1.0 uv.1.0 (ap (λ k. has_room k pairs) uk.1.1 ∙ room) ∙ ap (λ k. Ok (put k (encode_utf8_all vs) pairs)) uk.1.1 ∙ ap (λ v. Ok (put q.0 v pairs)) uv.1.1 in (
      l.0,
      ap (λ x. with_lines pairs (logical_lines false (natural_lines false (placed n x)))) e
          ∙ ap (with_lines pairs) l.1
          ∙ ap (λ r. r >>= λ new. with_lines new (logical_lines false (natural_lines false (placed l.0 (written more))))) (with_kept pairs n t (key_kept ks (value_chars vs)) ∙ p),
    )

append_none : (ps : List (List ℕ × List ℕ)) → ps ++ [] ≡ ps
append_none [] = refl
append_none (p ∷ ps) = ap (λ x. p ∷ x) (append_none ps)

-- the lines of pairs, beside pairs with lesser keys
lines_read : (more pairs : List (List ℕ × List ℕ)) (n : ℕ) → IsOrdered (pairs ++ more) → length (pairs ++ more) ≤ 256 → AreTexts more
    → with_lines pairs (logical_lines false (natural_lines false (placed n (written more)))) ≡ Ok (pairs ++ more)
unfolding placed natural_lines trim logical_lines with_lines written
lines_read [] pairs n o f u = ap (λ x. Ok x) (sym (append_none pairs))
lines_read (q ∷ more) pairs n o f u =
    let e : (pairs ++ q ∷ []) ++ more ≡ pairs ++ q ∷ more = append_assoc pairs (q ∷ []) more in
    let few : length pairs < 256 = omega (arith, length-append pairs (q ∷ more)) in
    let l = line_read pairs n q more u.0.0 u.0.1 (room_left q.0 pairs few) in
    l.1 ∙ ap (λ x. with_lines x (logical_lines false (natural_lines false (placed l.0 (written more))))) (put_last q pairs more o)
    ∙ lines_read more (pairs ++ q ∷ []) l.0 (subst IsOrdered (sym e) o) (subst (λ x. length x ≤ 256) (sym e) f) u.1
    ∙ ap (λ x. Ok x) e

pub read_back : (pairs : List (List ℕ × List ℕ)) → ArePairs pairs → AreTexts pairs → length (written pairs) ≤ 65536 → Reads (written pairs) pairs
read_back pairs are texts short = reading-lines (written pairs) short ∙ lines_read pairs [] 0 are.ordered are.few texts

-- what the program's pairs spell is UTF-8
pub are_texts : (ps : List Pair) → AreTexts (all_seen ps)
are_texts [] = tt
are_texts (p ∷ ps) = ((IsUtf8-string_bytes p.key, IsUtf8-string_bytes p.value), are_texts ps)
