-- What was taken, one step on.
use Rattle.std.proofs.Common.{◌≡◌, ℕ, ◌+◌, ◌-◌, ◌<◌, ◌≤◌, List, [], ◌∷◌, ◌++◌, length, get_or, take, drop, refl, sym, ap, subst, ◌∙◌, arith, append_assoc, length-append}
use Rattle.std.specs.List.{flat_map, AllByRecursion}
use Rattle.std.proofs.lemmas.List.{append-nil, take_at, take_more, length-take-le, get_or-take}
use Rattle.std.proofs.lemmas.List.Concat.{flat_map-append}
use Rattle.httparse.specs.Ascii.{crlf_bytes}
use Rattle.httparse.specs.Grammar.{ChunkLine, print_chunk_line, chunk_size}
use Rattle.http_chunks.specs.Lines.{HasLine}
use Rattle.http_chunks.specs.Trailers.{IsFirstFeed, IsTrailer, lines_of}
use Rattle.http_chunks.specs.Body.{Chunk, IsChunk, print_chunk, text_of, content_of, AreChunks, IsPart, IsLast, IsBody}

pub none_yet : AreChunks [] []
unfolding text_of content_of
none_yet = record { chunks = []; valid = tt; text_is = refl; content_is = refl; room = omega arith }

push_all : {X : Type 0} (P : X → Type 0) (xs : List X) (x : X) → AllByRecursion P xs → P x → AllByRecursion P (xs ++ x ∷ [])
push_all P [] x all p = (p, tt)
push_all P (y ∷ xs) x all p = (all.0, push_all P xs x all.1 p)

text_of-push : (cs : List Chunk) (c : Chunk) → text_of (cs ++ c ∷ []) ≡ text_of cs ++ print_chunk c
unfolding text_of
text_of-push cs c = flat_map-append print_chunk cs (c ∷ []) ∙ ap (λ (t : List ℕ). flat_map print_chunk cs ++ t) (append-nil (print_chunk c))

content_of-push : (cs : List Chunk) (c : Chunk) → content_of (cs ++ c ∷ []) ≡ content_of cs ++ c.content
unfolding content_of
content_of-push cs c = flat_map-append (λ (d : Chunk). d.content) cs (c ∷ []) ∙ ap (λ (t : List ℕ). flat_map (λ (d : Chunk). d.content) cs ++ t) (append-nil c.content)

lines_of-push : (ls : List (List ℕ)) (l : List ℕ) → lines_of (ls ++ l ∷ []) ≡ lines_of ls ++ (l ++ crlf_bytes)
unfolding lines_of
lines_of-push ls l = flat_map-append (λ (m : List ℕ). m ++ crlf_bytes) ls (l ∷ []) ∙ ap (λ (t : List ℕ). flat_map (λ (m : List ℕ). m ++ crlf_bytes) ls ++ t) (append-nil (l ++ crlf_bytes))

-- the line end after content
pub whole_chunk : (text content : List ℕ) → IsPart 0 text content → AreChunks (text ++ crlf_bytes) content
whole_chunk text content p =
    let c : Chunk = record { line = p.line; content = p.part } in
    record {
      chunks = p.chunks.chunks ++ c ∷ [];
      valid = push_all IsChunk p.chunks.chunks c p.chunks.valid (record { line = p.valid; sized = omega (arith, p.sized); some = omega (arith, p.sized, p.some) });
      text_is = ap (λ (t : List ℕ). t ++ crlf_bytes) p.text_is ∙ append_assoc p.before (print_chunk_line p.line ++ p.part) crlf_bytes
          ∙ ap (λ (t : List ℕ). t ++ print_chunk c) p.chunks.text_is ∙ sym (text_of-push p.chunks.chunks c);
      content_is = p.content_is ∙ ap (λ (t : List ℕ). t ++ p.part) p.chunks.content_is ∙ sym (content_of-push p.chunks.chunks c);
      room = omega (arith, ap length p.content_is, length-append p.had p.part, p.sized, p.room);
    }

prefix_is : (bytes : List ℕ) (n : ℕ) (l : ChunkLine) → HasLine bytes l (drop n bytes) → n ≡ length (print_chunk_line l) → take n bytes ≡ print_chunk_line l
prefix_is bytes n l has len = ap (take n) has.parts ∙ take_at (print_chunk_line l) (drop n bytes) n (sym len)

-- a size line with a size
pub into_chunk : (text content bytes : List ℕ) (n : ℕ) (l : ChunkLine) → AreChunks text content → HasLine bytes l (drop n bytes) → n ≡ length (print_chunk_line l) → 0 < chunk_size l
    → length content + chunk_size l ≤ 1073741824 → IsPart (chunk_size l) (text ++ take n bytes) content
into_chunk text content bytes n l t has len some room = record {
  before = text;
  had = content;
  line = l;
  part = [];
  chunks = t;
  valid = has.short;
  text_is = ap (λ (u : List ℕ). text ++ u) (prefix_is bytes n l has len ∙ sym (append-nil (print_chunk_line l)));
  content_is = sym (append-nil content);
  sized = omega arith;
  some = some;
  room = room;
}

-- the last size line
pub into_trailer : (text content bytes : List ℕ) (n : ℕ) (l : ChunkLine) → AreChunks text content → HasLine bytes l (drop n bytes) → n ≡ length (print_chunk_line l) → chunk_size l ≡ 0
    → IsLast 0 (text ++ take n bytes) content
unfolding lines_of
into_trailer text content bytes n l t has len zero = record {
  before = text;
  last = l;
  lines = [];
  chunks = t;
  valid = has.short;
  ends = zero;
  trailers = tt;
  text_is = ap (λ (u : List ℕ). text ++ u) (prefix_is bytes n l has len ∙ sym (append-nil (print_chunk_line l)));
  taken_is = refl;
  room = omega arith;
}

-- a line ends at its first line feed
line_parts : (bytes : List ℕ) (k : ℕ) → IsFirstFeed bytes k → 0 < k → get_or bytes (k - 1) 0 ≡ 13 → take (k + 1) bytes ≡ take (k - 1) bytes ++ crlf_bytes
line_parts bytes k lf some ret =
    let i : k - 1 + 1 ≡ k = omega arith in
    let a : take k bytes ≡ take (k - 1) bytes ++ 13 ∷ [] = subst (λ (n : ℕ). take n bytes ≡ take (k - 1) bytes ++ 13 ∷ []) i (take_more bytes (k - 1) 0 (omega (arith, lf.within)) ∙ ap (λ (b : ℕ). take (k - 1) bytes ++ b ∷ []) ret) in
    take_more bytes k 0 lf.within ∙ ap (λ (b : ℕ). take k bytes ++ b ∷ []) lf.is ∙ ap (λ (t : List ℕ). t ++ 10 ∷ []) a ∙ append_assoc (take (k - 1) bytes) (13 ∷ []) (10 ∷ [])

pub one_trailer : (text content bytes : List ℕ) (taken k : ℕ) → IsLast taken text content → IsFirstFeed bytes k → 1 < k → get_or bytes (k - 1) 0 ≡ 13 → taken + (k + 1) ≤ 16384
    → IsLast (taken + (k + 1)) (text ++ take (k + 1) bytes) content
one_trailer text content bytes taken k t lf some ret room =
    let line : List ℕ = take (k - 1) bytes in
    let len : length line ≡ k - 1 = length-take-le (k - 1) bytes (omega (arith, lf.within)) in
    let parts = line_parts bytes k lf (omega arith) ret in
    record {
      before = t.before;
      last = t.last;
      lines = t.lines ++ line ∷ [];
      chunks = t.chunks;
      valid = t.valid;
      ends = t.ends;
      trailers = push_all IsTrailer t.lines line t.trailers (record { some = omega arith; one_line = λ j lt e. lf.first j (omega arith) (sym (get_or-take (k - 1) bytes j 0 (omega arith)) ∙ e) });
      text_is = ap (λ (u : List ℕ). u ++ take (k + 1) bytes) t.text_is ∙ append_assoc t.before (print_chunk_line t.last ++ lines_of t.lines) (take (k + 1) bytes)
          ∙ ap (λ (u : List ℕ). t.before ++ u) (append_assoc (print_chunk_line t.last) (lines_of t.lines) (take (k + 1) bytes)
          ∙ ap (λ (u : List ℕ). print_chunk_line t.last ++ u) (ap (λ (u : List ℕ). lines_of t.lines ++ u) parts ∙ sym (lines_of-push t.lines line)));
      taken_is = omega (arith, t.taken_is, ap length (lines_of-push t.lines line), length-append (lines_of t.lines) (line ++ crlf_bytes), length-append line crlf_bytes);
      room = room;
    }

pub last_trailer : (text content bytes : List ℕ) (taken : ℕ) → IsLast taken text content → IsFirstFeed bytes 1 → get_or bytes 0 0 ≡ 13 → taken + 2 ≤ 16384
    → IsBody (text ++ take 2 bytes) content
last_trailer text content bytes taken t lf ret room = record {
  prefix = text;
  taken = taken;
  last = t;
  text_is = ap (λ (u : List ℕ). text ++ u) (line_parts bytes 1 lf (omega arith) ret);
  room = room;
}

-- so many more bytes of a chunk's content
pub more_content : (text content bytes : List ℕ) (left n : ℕ) → IsPart left text content → n ≤ left → n ≤ length bytes
    → IsPart (left - n) (text ++ take n bytes) (content ++ take n bytes)
more_content text content bytes left n p le within = record {
  before = p.before;
  had = p.had;
  line = p.line;
  part = p.part ++ take n bytes;
  chunks = p.chunks;
  valid = p.valid;
  text_is = ap (λ (t : List ℕ). t ++ take n bytes) p.text_is ∙ append_assoc p.before (print_chunk_line p.line ++ p.part) (take n bytes)
      ∙ ap (λ (t : List ℕ). p.before ++ t) (append_assoc (print_chunk_line p.line) p.part (take n bytes));
  content_is = ap (λ (t : List ℕ). t ++ take n bytes) p.content_is ∙ append_assoc p.had p.part (take n bytes);
  sized = omega (arith, p.sized, length-append p.part (take n bytes), length-take-le n bytes within);
  some = p.some;
  room = p.room;
}

-- two bytes
pub two_is : (bytes : List ℕ) → 1 < length bytes → get_or bytes 0 0 ≡ 13 → get_or bytes 1 0 ≡ 10 → take 2 bytes ≡ crlf_bytes
two_is [] lt a b = absurd (omega arith)
two_is (x ∷ []) lt a b = absurd (omega arith)
two_is (x ∷ y ∷ bytes) lt a b = cc
