-- The pair of a line, and the pairs of lines one after another.
use Rattle.std.proofs.Common.{◌≡◌, ◌<◌, ◌≤◌, ltb, MatchResult, IfErr, subst, arith, ℕ, Bool, true, false, cond, List, [], ◌∷◌, length, Result, Ok, Err, refl, sym, ap, ◌∙◌}
use Rattle.std.proofs.lemmas.Bool.Decides.{nat_tests}
use Rattle.java_props.specs.declared.PropsErr.{PropsErr}
use Rattle.java_props.specs.declared.PropsErr.TheVariants.{TooLong, TooMany}
use Rattle.java_props.specs.Lines.{Cell, with_prefix, natural_lines, trim, goes_on, joined, logical_lines, lines_of}
use Rattle.java_props.specs.From.{rest, go_on, middle, head_of, others_of, line, later, lines_from, ends_at, Stands, AtEnd}
use Rattle.java_props.specs.Kept.{put, has_room}
use Rattle.java_props.specs.Reading.{Piece, pieces, text_of, key_part, value_part, ◌>>=◌, with_pair, with_trimmed, with_lines, reading}
use Rattle.java_props.proofs.Blanks.{prefix}
use Rattle.java_props.proofs.Steps.{line_ends}

-- what is said of a result that is known to be a refusal
pub on_refusal : {T : Type 0} (P : T → Type 0) (Q : PropsErr → Type 0) (r : Result T PropsErr) (e : PropsErr) → r ≡ Err e → Q e → MatchResult r P Q
on_refusal P Q r e same q = subst (λ x. MatchResult x P Q) (sym same) q

pub if_refusal : {T : Type 0} (Q : PropsErr → Type 0) (r : Result T PropsErr) (e : PropsErr) → r ≡ Err e → Q e → IfErr r Q
if_refusal Q r e same q = subst (λ x. IfErr x Q) (sym same) q

-- the text is too long
pub reading-long : (bytes : List ℕ) → 65536 < length bytes → reading bytes ≡ Err (TooLong (length bytes))
unfolding reading
reading-long bytes h = let long : ltb 65536 (length bytes) ≡ true = grind (arith, nat_tests) in ap (λ b. cond b (Err (TooLong (length bytes))) (with_lines [] (lines_of bytes))) long

-- it isn't
pub reading-lines : (bytes : List ℕ) → length bytes ≤ 65536 → reading bytes ≡ with_lines [] (lines_of bytes)
unfolding reading
reading-lines bytes h = let short : ltb 65536 (length bytes) ≡ false = grind (arith, nat_tests) in ap (λ b. cond b (Err (TooLong (length bytes))) (with_lines [] (lines_of bytes))) short

-- the pair of pieces, by how its key and its value go
no_key : (pairs : List (List ℕ × List ℕ)) (at : ℕ) (ps : List Piece) (e : PropsErr) → text_of false (key_part ps) ≡ Err e → with_pair pairs at ps ≡ Err e
no_key pairs at ps e h = ap (λ r. r >>= λ key. cond (has_room key pairs) (text_of false (value_part ps) >>= λ value. Ok (put key value pairs)) (Err (TooMany at))) h

pub with_key : (pairs : List (List ℕ × List ℕ)) (at : ℕ) (ps : List Piece) (key : List ℕ) (b : Bool) → text_of false (key_part ps) ≡ Ok key → has_room key pairs ≡ b
    → with_pair pairs at ps ≡ cond b (text_of false (value_part ps) >>= λ value. Ok (put key value pairs)) (Err (TooMany at))
with_key pairs at ps key b h r =
    ap (λ r. r >>= λ key. cond (has_room key pairs) (text_of false (value_part ps) >>= λ value. Ok (put key value pairs)) (Err (TooMany at))) h
    ∙ ap (λ b. cond b (text_of false (value_part ps) >>= λ value. Ok (put key value pairs)) (Err (TooMany at))) r

-- a line whose first character other than white space stands at `first`
trimmed : (pairs : List (List ℕ × List ℕ)) (bytes : List ℕ) (first : ℕ) (l : List Cell) → l ≡ line bytes first → first < length bytes → Stands bytes first → ends_at bytes first ≡ false
    → with_trimmed pairs l ≡ with_pair pairs first (pieces 0 (line bytes first))
trimmed pairs bytes first l t h stands e = let f = prefix bytes first h stands e in
    ap (with_trimmed pairs) (t ∙ f.1) ∙ ap (λ l. with_pair pairs first (pieces 0 l)) (sym f.1)

pub pair_none : (pairs : List (List ℕ × List ℕ)) (bytes : List ℕ) (first : ℕ) (l : List Cell) → l ≡ line bytes first → AtEnd bytes first → with_trimmed pairs l ≡ Ok pairs
pair_none pairs bytes first l t e = ap (with_trimmed pairs) (t ∙ line_ends bytes first e)

pub pair_bad_key : (pairs : List (List ℕ × List ℕ)) (bytes : List ℕ) (first : ℕ) (l : List Cell) (e : PropsErr) → l ≡ line bytes first → first < length bytes → Stands bytes first → ends_at bytes first ≡ false
    → text_of false (key_part (pieces 0 (line bytes first))) ≡ Err e → with_trimmed pairs l ≡ Err e
pair_bad_key pairs bytes first l e t h stands n k = trimmed pairs bytes first l t h stands n ∙ no_key pairs first (pieces 0 (line bytes first)) e k

pub pair_no_room : (pairs : List (List ℕ × List ℕ)) (bytes : List ℕ) (first : ℕ) (l : List Cell) (key : List ℕ) → l ≡ line bytes first → first < length bytes → Stands bytes first → ends_at bytes first ≡ false
    → text_of false (key_part (pieces 0 (line bytes first))) ≡ Ok key → has_room key pairs ≡ false → with_trimmed pairs l ≡ Err (TooMany first)
pair_no_room pairs bytes first l key t h stands n k r = trimmed pairs bytes first l t h stands n ∙ with_key pairs first (pieces 0 (line bytes first)) key false k r

pub pair_value : (pairs : List (List ℕ × List ℕ)) (bytes : List ℕ) (first : ℕ) (l : List Cell) (key : List ℕ) (value : Result (List ℕ) PropsErr) → l ≡ line bytes first → first < length bytes → Stands bytes first → ends_at bytes first ≡ false
    → text_of false (key_part (pieces 0 (line bytes first))) ≡ Ok key → has_room key pairs ≡ true → text_of false (value_part (pieces 0 (line bytes first))) ≡ value
    → with_trimmed pairs l ≡ (value >>= λ v. Ok (put key v pairs))
pair_value pairs bytes first l key value t h stands n k r v = trimmed pairs bytes first l t h stands n ∙ with_key pairs first (pieces 0 (line bytes first)) key true k r ∙ ap (λ r. r >>= λ v. Ok (put key v pairs)) v

with_prefix-cons : (x : List Cell) (ls : List (List Cell)) → with_prefix x ls ≡ head_of (with_prefix x ls) ∷ others_of (with_prefix x ls)
with_prefix-cons x [] = refl
with_prefix-cons x (l ∷ ls) = refl

go_on-cons : (ls : List (List Cell)) → go_on ls ≡ head_of (go_on ls) ∷ others_of (go_on ls)
go_on-cons [] = refl
go_on-cons (l ∷ ls) = by_end (goes_on l) where
  by_end : (g : Bool) → joined g l (logical_lines g ls) ≡ head_of (joined g l (logical_lines g ls)) ∷ others_of (joined g l (logical_lines g ls))
  by_end true = with_prefix-cons _ (logical_lines true ls)
  by_end false = refl

-- the pairs of a line and of those after it
one_line : (bytes : List ℕ) (at i : ℕ) (pairs : List (List ℕ × List ℕ)) → lines_from bytes at ≡ middle (rest bytes i)
    → with_lines pairs (lines_from bytes at) ≡ (with_trimmed pairs (trim (line bytes i)) >>= λ more. with_lines more (later bytes i))
unfolding with_lines
one_line bytes at i pairs h = ap (with_lines pairs) (h ∙ go_on-cons (natural_lines false (rest bytes i)))

pub line_read : (bytes : List ℕ) (at i end next : ℕ) (pairs more : List (List ℕ × List ℕ)) → lines_from bytes at ≡ middle (rest bytes i) → with_trimmed pairs (trim (line bytes i)) ≡ Ok more
    → later bytes i ≡ later bytes end → later bytes end ≡ lines_from bytes next → with_lines pairs (lines_from bytes at) ≡ with_lines more (lines_from bytes next)
line_read bytes at i end next pairs more h r o n = one_line bytes at i pairs h ∙ ap (λ r. r >>= λ more. with_lines more (later bytes i)) r ∙ ap (with_lines more) (o ∙ n)

pub line_refused : (bytes : List ℕ) (at i : ℕ) (pairs : List (List ℕ × List ℕ)) (e : PropsErr) → lines_from bytes at ≡ middle (rest bytes i) → with_trimmed pairs (trim (line bytes i)) ≡ Err e
    → with_lines pairs (lines_from bytes at) ≡ Err e
line_refused bytes at i pairs e h r = one_line bytes at i pairs h ∙ ap (λ r. r >>= λ more. with_lines more (later bytes i)) r

pub lines_end : (bytes : List ℕ) (at : ℕ) (pairs : List (List ℕ × List ℕ)) → lines_from bytes at ≡ [] → with_lines pairs (lines_from bytes at) ≡ Ok pairs
unfolding with_lines
lines_end bytes at pairs h = ap (with_lines pairs) h
