-- What can follow whole chunks, and that bytes have one such tail.
use Rattle.std.proofs.Common.{◌≡◌, ◌≢◌, ℕ, zero, suc, ◌+◌, ◌-◌, ◌<◌, ◌≤◌, ◌⊎◌, List, [], ◌∷◌, ◌++◌, length, get_or, take, drop, refl, sym, ap, subst, ◌∙◌, arith, inl, inr, length-append}
use Rattle.std.proofs.lemmas.Bool.{cases_lt}
use Rattle.std.proofs.lemmas.List.{take_at, drop_at, get_or_append_left, get_or-append-add}
use Rattle.httparse.specs.Grammar.{ChunkLine, print_chunk_line, chunk_size}
use Rattle.http_chunks.specs.Lines.{HasLine, IsBadLine, IsOpenLine}
use Rattle.http_chunks.specs.Trailers.{trailer_limit, IsFirstFeed, IsTrailer, IsBadTrailer, IsOpenTrailer}
use Rattle.http_chunks.specs.Body.{content_limit}
use Rattle.http_chunks.specs.Places.{IsOpenEnd, IsNoEnd}
use Rattle.http_chunks.specs.Reading.{Reading, whole, bad, large, cut}
use Rattle.http_chunks.proofs.LineLemmas.{line_not_bad, line_not_open, bad_not_open, line_unique}

-- two prefixes of one length
pub split : (t r u s : List ℕ) → length t ≡ length u → t ++ r ≡ u ++ s → (t ≡ u) × (r ≡ s)
split t r u s len e = (
  sym (take_at t r (length t) refl) ∙ ap (take (length t)) e ∙ take_at u s (length t) (sym len),
  sym (drop_at t r (length t) refl) ∙ ap (drop (length t)) e ∙ drop_at u s (length t) (sym len),
)

-- ---- line feeds

feed_unique : (bytes : List ℕ) (k j : ℕ) → IsFirstFeed bytes k → IsFirstFeed bytes j → k ≡ j
feed_unique bytes k j a b = elim (cases_lt k j) [
  | inl lt ↦ absurd (b.first k lt a.is)
  | inr ge ↦ elim (cases_lt j k) [ inl lt ↦ absurd (a.first j lt b.is) | inr le ↦ omega arith ]
]

-- a line in front: where its line feed stands, and that it isn't bare
feed_of_line : (line rest : List ℕ) → IsTrailer line → IsFirstFeed (line ++ (13 ∷ 10 ∷ rest)) (length line + 1)
feed_of_line line rest t = record {
  within = omega (arith, length-append line (13 ∷ 10 ∷ rest));
  is = get_or-append-add line (13 ∷ 10 ∷ rest) 1 0;
  first = λ j lt. elim (cases_lt j (length line)) [
    | inl inside ↦ λ e. t.one_line j inside (sym (get_or_append_left line (13 ∷ 10 ∷ rest) 0 j inside) ∙ e)
    | inr ge ↦ λ e. ret j (omega arith) e
  ];
}
  where
    ret : (j : ℕ) → j ≡ length line → get_or (line ++ (13 ∷ 10 ∷ rest)) j 0 ≢ 10
    ret j is e =
        let here : get_or (line ++ (13 ∷ 10 ∷ rest)) (length line + 0) 0 ≡ 13 = get_or-append-add line (13 ∷ 10 ∷ rest) 0 0 in
        let there : get_or (line ++ (13 ∷ 10 ∷ rest)) j 0 ≡ 13 = subst (λ (n : ℕ). get_or (line ++ (13 ∷ 10 ∷ rest)) n 0 ≡ 13) (omega arith) here in
        let clash : 13 ≡ 10 = sym there ∙ e in
        absurd (omega (arith, clash))

return_of_line : (line rest : List ℕ) → get_or (line ++ (13 ∷ 10 ∷ rest)) (length line + 1 - 1) 0 ≡ 13
return_of_line line rest =
    let here : get_or (line ++ (13 ∷ 10 ∷ rest)) (length line + 0) 0 ≡ 13 = get_or-append-add line (13 ∷ 10 ∷ rest) 0 0 in
    subst (λ (n : ℕ). get_or (line ++ (13 ∷ 10 ∷ rest)) n 0 ≡ 13) (omega arith) here

feed_of_end : (rest : List ℕ) → IsFirstFeed (13 ∷ 10 ∷ rest) 1
feed_of_end rest = record { within = omega arith; is = refl; first = only }
  where
    thirteen : ◌≢◌ {A = ℕ} 13 10
    thirteen e = omega (arith, e)

    only : (j : ℕ) → j < 1 → get_or (13 ∷ 10 ∷ rest) j 0 ≢ 10
    only zero lt e = thirteen e
    only (suc j) lt e = absurd (omega arith)

-- ---- what follows the last size line

-- what follows so many bytes of lines, where the first of them stands at a place
unfoldable pub Ends : ℕ → List ℕ → ℕ → List ℕ → Reading → Type 0
Ends taken content at bytes (whole wanted rest) = (wanted ≡ content) × (bytes ≡ 13 ∷ 10 ∷ rest) × (taken + 2 ≤ trailer_limit)
Ends taken content at bytes (bad wanted place) = (wanted ≡ content) × (place ≡ at) × IsBadTrailer taken bytes
Ends taken content at bytes (large wanted) = ⊥
Ends taken content at bytes (cut wanted) = (wanted ≡ content) × IsOpenTrailer taken bytes

-- no line that may stand there stands where one is bad, or open
feed_not_bad : (taken : ℕ) (bytes : List ℕ) (k : ℕ) → IsFirstFeed bytes k → 0 < k → get_or bytes (k - 1) 0 ≡ 13 → taken + (k + 1) ≤ trailer_limit
    → IsBadTrailer taken bytes → ⊥
feed_not_bad taken bytes k feed some ret room (inl bare) =
    let same = feed_unique bytes k bare.0 feed bare.1 in
    elim bare.2 [
      | inl none ↦ absurd (omega (arith, none, same))
      | inr other ↦ other (subst (λ (n : ℕ). get_or bytes (n - 1) 0 ≡ 13) same ret)
    ]
feed_not_bad taken bytes k feed some ret room (inr long) = long.1 k (omega arith) feed.is

feed_not_open : (taken : ℕ) (bytes : List ℕ) (k : ℕ) → IsFirstFeed bytes k → IsOpenTrailer taken bytes → ⊥
feed_not_open taken bytes k feed open_line = open_line.0 k feed.within feed.is

bad_not_open_trailer : (taken : ℕ) (bytes : List ℕ) → IsBadTrailer taken bytes → IsOpenTrailer taken bytes → ⊥
bad_not_open_trailer taken bytes (inl bare) open_line = feed_not_open taken bytes bare.0 bare.1 open_line
bad_not_open_trailer taken bytes (inr long) open_line = absurd (omega (arith, long.0, open_line.1))

end_not_bad : (taken : ℕ) (rest : List ℕ) → taken + 2 ≤ trailer_limit → IsBadTrailer taken (13 ∷ 10 ∷ rest) → ⊥
end_not_bad taken rest room is_bad = feed_not_bad taken (13 ∷ 10 ∷ rest) 1 (feed_of_end rest) (omega arith) refl (omega arith) is_bad

ends_unique : (taken : ℕ) (content : List ℕ) (at : ℕ) (bytes : List ℕ) (f g : Reading) → Ends taken content at bytes f → Ends taken content at bytes g → f ≡ g
unfolding Ends
ends_unique taken content at bytes (whole c r) (whole d s) a b =
    let rest : r ≡ s = ap (drop 2) (sym a.1 ∙ b.1) in
    let same : c ≡ d = a.0 ∙ sym b.0 in
    cc
ends_unique taken content at bytes (whole c r) (bad d p) a b = absurd (end_not_bad taken r a.2 (subst (IsBadTrailer taken) a.1 b.2))
ends_unique taken content at bytes (whole c r) (cut d) a b = absurd (feed_not_open taken _ 1 (feed_of_end r) (subst (IsOpenTrailer taken) a.1 b.1))
ends_unique taken content at bytes (bad c p) (whole d s) a b = absurd (end_not_bad taken s b.2 (subst (IsBadTrailer taken) b.1 a.2))
ends_unique taken content at bytes (bad c p) (bad d q) a b = let same : c ≡ d = a.0 ∙ sym b.0 in let there : p ≡ q = a.1 ∙ sym b.1 in cc
ends_unique taken content at bytes (bad c p) (cut d) a b = absurd (bad_not_open_trailer taken bytes a.2 b.1)
ends_unique taken content at bytes (cut c) (whole d s) a b = absurd (feed_not_open taken _ 1 (feed_of_end s) (subst (IsOpenTrailer taken) b.1 a.1))
ends_unique taken content at bytes (cut c) (bad d q) a b = absurd (bad_not_open_trailer taken bytes b.2 a.1)
ends_unique taken content at bytes (cut c) (cut d) a b = let same : c ≡ d = a.0 ∙ sym b.0 in cc
ends_unique taken content at bytes (large c) g a b = absurd a
ends_unique taken content at bytes (whole c r) (large d) a b = absurd b
ends_unique taken content at bytes (bad c p) (large d) a b = absurd b
ends_unique taken content at bytes (cut c) (large d) a b = absurd b

-- a line in front, and an end
line_no_end : (taken : ℕ) (content : List ℕ) (at : ℕ) (line rest : List ℕ) (f : Reading) → IsTrailer line → taken + (length line + 2) ≤ trailer_limit
    → Ends taken content at (line ++ (13 ∷ 10 ∷ rest)) f → ⊥
unfolding Ends
line_no_end taken content at line rest (whole c r) t room e =
    let same = feed_unique _ (length line + 1) 1 (feed_of_line line rest t) (subst (λ (b : List ℕ). IsFirstFeed b 1) (sym e.1) (feed_of_end r)) in
    absurd (omega (arith, same, t.some))
line_no_end taken content at line rest (bad c p) t room e =
    feed_not_bad taken _ (length line + 1) (feed_of_line line rest t) (omega arith) (return_of_line line rest) (omega arith) e.2
line_no_end taken content at line rest (large c) t room e = e
line_no_end taken content at line rest (cut c) t room e = feed_not_open taken _ (length line + 1) (feed_of_line line rest t) e.1

-- lines, and then an end, behind so many bytes of lines
unfoldable pub Section : List (List ℕ) → ℕ → List ℕ → ℕ → List ℕ → Reading → Type 0
Section [] taken content at bytes f = Ends taken content at bytes f
Section (line ∷ lines) taken content at bytes f =
    IsTrailer line × (taken + (length line + 2) ≤ trailer_limit)
    × (rest : List ℕ) × (bytes ≡ line ++ (13 ∷ 10 ∷ rest)) × Section lines (taken + (length line + 2)) content at rest f

section_unique : (ls ms : List (List ℕ)) (taken : ℕ) (content : List ℕ) (at : ℕ) (bytes : List ℕ) (f g : Reading)
    → Section ls taken content at bytes f → Section ms taken content at bytes g → f ≡ g
unfolding Section
section_unique [] [] taken content at bytes f g a b = ends_unique taken content at bytes f g a b
section_unique [] (m ∷ ms) taken content at bytes f g a b = absurd (line_no_end taken content at m b.2 f b.0 b.1 (subst (λ (t : List ℕ). Ends taken content at t f) b.3 a))
section_unique (l ∷ ls) [] taken content at bytes f g a b = absurd (line_no_end taken content at l a.2 g a.0 a.1 (subst (λ (t : List ℕ). Ends taken content at t g) a.3 b))
section_unique (l ∷ ls) (m ∷ ms) taken content at bytes f g a b =
    let feeds = feed_unique _ (length l + 1) (length m + 1) (feed_of_line l a.2 a.0) (subst (λ (t : List ℕ). IsFirstFeed t (length m + 1)) (sym b.3 ∙ a.3) (feed_of_line m b.2 b.0)) in
    let len : length l ≡ length m = omega (arith, feeds) in
    let parts = split l (13 ∷ 10 ∷ a.2) m (13 ∷ 10 ∷ b.2) len (sym a.3 ∙ b.3) in
    let rest : a.2 ≡ b.2 = ap (drop 2) parts.1 in
    section_unique ls ms (taken + (length l + 2)) content at a.2 f g a.4
    (subst (λ (n : ℕ). Section ms (taken + (n + 2)) content at a.2 g) (sym len) (subst (λ (t : List ℕ). Section ms (taken + (length m + 2)) content at t g) (sym rest) b.4))

-- ---- what follows whole chunks

-- what follows a chunk's size line that stands at a place, with so much content before
unfoldable pub InContent : List ℕ → ℕ → ℕ → List ℕ → Reading → Type 0
InContent content at size bytes (whole wanted rest) = ⊥
InContent content at size bytes (bad wanted place) =
    (part : List ℕ) × (rest : List ℕ) × (length part ≡ size) × (bytes ≡ part ++ rest) × IsNoEnd rest × (wanted ≡ content ++ part) × (place ≡ at + size)
InContent content at size bytes (large wanted) = ⊥
InContent content at size bytes (cut wanted) =
    ((length bytes < size) × (wanted ≡ content ++ bytes))
    ⊎ ((part : List ℕ) × (rest : List ℕ) × (length part ≡ size) × (bytes ≡ part ++ rest) × IsOpenEnd rest × (wanted ≡ content ++ part))

-- what follows a size line of so much, behind which the bytes begin at a place
unfoldable pub Behind : List ℕ → ℕ → ℕ → List ℕ → Reading → Type 0
Behind content at size bytes f =
    ((content_limit < length content + size) × (f ≡ large content))
    ⊎ (((lines : List (List ℕ)) × (length content ≤ content_limit) × (size ≡ 0) × Section lines 0 content at bytes f)
    ⊎ ((0 < size) × (length content + size ≤ content_limit) × InContent content at size bytes f))

-- no size line is in front
unfoldable pub Lineless : List ℕ → ℕ → List ℕ → Reading → Type 0
Lineless content at bytes (whole wanted rest) = ⊥
Lineless content at bytes (bad wanted place) = (wanted ≡ content) × (place ≡ at) × IsBadLine bytes
Lineless content at bytes (large wanted) = ⊥
Lineless content at bytes (cut wanted) = (wanted ≡ content) × IsOpenLine bytes

-- what follows whole chunks
unfoldable pub Tail : List ℕ → ℕ → List ℕ → Reading → Type 0
Tail content at bytes f =
    Lineless content at bytes f
    ⊎ ((line : ChunkLine) × (rest : List ℕ) × HasLine bytes line rest × Behind content (at + length (print_chunk_line line)) (chunk_size line) rest f)

open_not_none : (bytes : List ℕ) → IsOpenEnd bytes → IsNoEnd bytes → ⊥
open_not_none bytes (inl none) no_end = elim no_end [ inl some ↦ absurd (omega (arith, ap length none, some.0)) | inr two ↦ absurd (omega (arith, ap length none, two.0)) ]
open_not_none bytes (inr one) no_end = elim no_end [
  | inl some ↦ some.1 (ap (λ (b : List ℕ). get_or b 0 0) one)
  | inr two ↦ absurd (omega (arith, ap length one, two.0))
]

-- two parts of one length and what follows them
pub parts_same : (size : ℕ) (bytes p r q s : List ℕ) → length p ≡ size → length q ≡ size → bytes ≡ p ++ r → bytes ≡ q ++ s → (p ≡ q) × (r ≡ s)
parts_same size bytes p r q s a b e f = split p r q s (a ∙ sym b) (sym e ∙ f)

short_not_part : (size : ℕ) (bytes p r : List ℕ) → length bytes < size → length p ≡ size → bytes ≡ p ++ r → ⊥
short_not_part size bytes p r lt len e = omega (arith, lt, len, ap length e, length-append p r)

in_content_unique : (content : List ℕ) (at size : ℕ) (bytes : List ℕ) (f g : Reading) → InContent content at size bytes f → InContent content at size bytes g → f ≡ g
unfolding InContent
in_content_unique content at size bytes (whole c r) g a b = absurd a
in_content_unique content at size bytes (large c) g a b = absurd a
in_content_unique content at size bytes (bad c p) (whole d s) a b = absurd b
in_content_unique content at size bytes (bad c p) (large d) a b = absurd b
in_content_unique content at size bytes (cut c) (whole d s) a b = absurd b
in_content_unique content at size bytes (cut c) (large d) a b = absurd b
in_content_unique content at size bytes (bad c p) (bad d q) a b =
    let same = parts_same size bytes a.0 a.1 b.0 b.1 a.2 b.2 a.3 b.3 in
    let texts : c ≡ d = a.5 ∙ ap (λ (t : List ℕ). content ++ t) same.0 ∙ sym b.5 in
    let places : p ≡ q = a.6 ∙ sym b.6 in
    cc
in_content_unique content at size bytes (bad c p) (cut d) a (inl short) = absurd (short_not_part size bytes a.0 a.1 short.0 a.2 a.3)
in_content_unique content at size bytes (bad c p) (cut d) a (inr b) =
    let same = parts_same size bytes a.0 a.1 b.0 b.1 a.2 b.2 a.3 b.3 in
    absurd (open_not_none b.1 b.4 (subst IsNoEnd same.1 a.4))
in_content_unique content at size bytes (cut c) (bad d q) (inl short) b = absurd (short_not_part size bytes b.0 b.1 short.0 b.2 b.3)
in_content_unique content at size bytes (cut c) (bad d q) (inr a) b =
    let same = parts_same size bytes a.0 a.1 b.0 b.1 a.2 b.2 a.3 b.3 in
    absurd (open_not_none a.1 a.4 (subst IsNoEnd (sym same.1) b.4))
in_content_unique content at size bytes (cut c) (cut d) (inl a) (inl b) = let texts : c ≡ d = a.1 ∙ sym b.1 in cc
in_content_unique content at size bytes (cut c) (cut d) (inl a) (inr b) = absurd (short_not_part size bytes b.0 b.1 a.0 b.2 b.3)
in_content_unique content at size bytes (cut c) (cut d) (inr a) (inl b) = absurd (short_not_part size bytes a.0 a.1 b.0 a.2 a.3)
in_content_unique content at size bytes (cut c) (cut d) (inr a) (inr b) =
    let same = parts_same size bytes a.0 a.1 b.0 b.1 a.2 b.2 a.3 b.3 in
    let texts : c ≡ d = a.5 ∙ ap (λ (t : List ℕ). content ++ t) same.0 ∙ sym b.5 in
    cc

behind_unique : (content : List ℕ) (at size : ℕ) (bytes : List ℕ) (f g : Reading) → Behind content at size bytes f → Behind content at size bytes g → f ≡ g
unfolding Behind
behind_unique content at size bytes f g (inl a) (inl b) = a.1 ∙ sym b.1
behind_unique content at size bytes f g (inl a) (inr (inl b)) = absurd (omega (arith, a.0, b.1, b.2))
behind_unique content at size bytes f g (inl a) (inr (inr b)) = absurd (omega (arith, a.0, b.1))
behind_unique content at size bytes f g (inr (inl a)) (inl b) = absurd (omega (arith, b.0, a.1, a.2))
behind_unique content at size bytes f g (inr (inl a)) (inr (inl b)) = section_unique a.0 b.0 0 content at bytes f g a.3 b.3
behind_unique content at size bytes f g (inr (inl a)) (inr (inr b)) = absurd (omega (arith, a.2, b.0))
behind_unique content at size bytes f g (inr (inr a)) (inl b) = absurd (omega (arith, b.0, a.1))
behind_unique content at size bytes f g (inr (inr a)) (inr (inl b)) = absurd (omega (arith, a.0, b.2))
behind_unique content at size bytes f g (inr (inr a)) (inr (inr b)) = in_content_unique content at size bytes f g a.2 b.2

pub line_not_lineless : (content : List ℕ) (at : ℕ) (bytes rest : List ℕ) (line : ChunkLine) (f : Reading) → HasLine bytes line rest → Lineless content at bytes f → ⊥
unfolding Lineless
line_not_lineless content at bytes rest line (whole c r) has none = none
line_not_lineless content at bytes rest line (bad c p) has none = line_not_bad bytes rest line has none.2
line_not_lineless content at bytes rest line (large c) has none = none
line_not_lineless content at bytes rest line (cut c) has none = line_not_open bytes rest line has none.1

lineless_unique : (content : List ℕ) (at : ℕ) (bytes : List ℕ) (f g : Reading) → Lineless content at bytes f → Lineless content at bytes g → f ≡ g
unfolding Lineless
lineless_unique content at bytes (whole c r) g a b = absurd a
lineless_unique content at bytes (large c) g a b = absurd a
lineless_unique content at bytes (bad c p) (whole d s) a b = absurd b
lineless_unique content at bytes (bad c p) (large d) a b = absurd b
lineless_unique content at bytes (cut c) (whole d s) a b = absurd b
lineless_unique content at bytes (cut c) (large d) a b = absurd b
lineless_unique content at bytes (bad c p) (bad d q) a b = let texts : c ≡ d = a.0 ∙ sym b.0 in let places : p ≡ q = a.1 ∙ sym b.1 in cc
lineless_unique content at bytes (bad c p) (cut d) a b = absurd (bad_not_open bytes a.2 b.1)
lineless_unique content at bytes (cut c) (bad d q) a b = absurd (bad_not_open bytes b.2 a.1)
lineless_unique content at bytes (cut c) (cut d) a b = let texts : c ≡ d = a.0 ∙ sym b.0 in cc

pub tail_unique : (content : List ℕ) (at : ℕ) (bytes : List ℕ) (f g : Reading) → Tail content at bytes f → Tail content at bytes g → f ≡ g
unfolding Tail
tail_unique content at bytes f g (inl a) (inl b) = lineless_unique content at bytes f g a b
tail_unique content at bytes f g (inl a) (inr b) = absurd (line_not_lineless content at bytes b.1 b.0 f b.2 a)
tail_unique content at bytes f g (inr a) (inl b) = absurd (line_not_lineless content at bytes a.1 a.0 g a.2 b)
tail_unique content at bytes f g (inr a) (inr b) =
    let same = line_unique bytes a.1 b.1 a.0 b.0 a.2 b.2 in
    behind_unique content (at + length (print_chunk_line a.0)) (chunk_size a.0) a.1 f g a.3
    (subst (λ (l : ChunkLine). Behind content (at + length (print_chunk_line l)) (chunk_size l) a.1 g) (sym same.0)
    (subst (λ (t : List ℕ). Behind content (at + length (print_chunk_line b.0)) (chunk_size b.0) t g) (sym same.1) b.3))
