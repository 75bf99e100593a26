-- A stream has one reading. A reading is whole chunks and then a tail, and each chunk in front, and the tail, is the only one
-- that the bytes have.
use Rattle.std.proofs.Common.{◌≡◌, ℕ, ◌+◌, ◌≤◌, List, [], ◌∷◌, ◌++◌, length, drop, refl, sym, ap, subst, ◌∙◌, arith, inl, inr, append_assoc, length-append}
use Rattle.std.specs.List.{AllByRecursion}
use Rattle.std.proofs.lemmas.List.{append-nil, append_cancel_right}
use Rattle.httparse.specs.Ascii.{crlf_bytes}
use Rattle.httparse.specs.Grammar.{ChunkLine, print_chunk_line, chunk_size}
use Rattle.http_chunks.specs.declared.place.Place.{Place}
use Rattle.http_chunks.specs.declared.place.Place.TheVariants.{Line, Inside, After, Trailer, Done}
use Rattle.http_chunks.specs.Trailers.{trailer_limit, IsTrailer, lines_of}
use Rattle.http_chunks.specs.Body.{content_limit, Chunk, IsChunk, print_chunk, text_of, content_of, AreChunks, IsPart, IsLast, IsBody}
use Rattle.http_chunks.specs.Places.{IsNoEnd, IsOpen, IsBad, IsTooLarge}
use Rattle.http_chunks.specs.Reading.{Reading, whole, bad, large, cut, Reaches, Holds}
use Rattle.http_chunks.proofs.LineLemmas.{line_unique}
use Rattle.http_chunks.proofs.TailLemmas.{split, Ends, Section, InContent, Behind, Lineless, Tail, line_not_lineless, parts_same, tail_unique}

-- ---- whole chunks in front

-- the content of a chunk and its line end, which nothing but the chunk has
chunk_not_in_content : (content : List ℕ) (at size : ℕ) (part rest : List ℕ) (f : Reading) → length part ≡ size
    → InContent content at size (part ++ (13 ∷ 10 ∷ rest)) f → ⊥
unfolding InContent
chunk_not_in_content content at size part rest (whole c r) len a = a
chunk_not_in_content content at size part rest (large c) len a = a
chunk_not_in_content content at size part rest (bad c p) len a =
    let same = parts_same size _ part (13 ∷ 10 ∷ rest) a.0 a.1 len a.2 refl a.3 in
    no_end (subst IsNoEnd (sym same.1) a.4)
  where
    no_end : IsNoEnd (13 ∷ 10 ∷ rest) → ⊥
    no_end (inl some) = some.1 refl
    no_end (inr two) = two.1 refl
chunk_not_in_content content at size part rest (cut c) len (inl short) = omega (arith, short.0, len, length-append part (13 ∷ 10 ∷ rest))
chunk_not_in_content content at size part rest (cut c) len (inr a) =
    let same = parts_same size _ part (13 ∷ 10 ∷ rest) a.0 a.1 len a.2 refl a.3 in
    elim a.4 [ inl none ↦ absurd (omega (arith, ap length same.1, ap length none)) | inr one ↦ absurd (omega (arith, ap length same.1, ap length one)) ]

-- chunks, and then a tail
Chunked : List Chunk → List ℕ → ℕ → List ℕ → Reading → Type 0
Chunked [] content at bytes f = Tail content at bytes f
Chunked (chunk ∷ chunks) content at bytes f =
    IsChunk chunk × (length content + length chunk.content ≤ content_limit)
    × (rest : List ℕ) × (bytes ≡ print_chunk_line chunk.line ++ (chunk.content ++ (13 ∷ 10 ∷ rest)))
    × Chunked chunks (content ++ chunk.content) (at + length (print_chunk chunk)) rest f

chunk_not_tail : (chunk : Chunk) (content : List ℕ) (at : ℕ) (rest : List ℕ) (f : Reading) → IsChunk chunk → length content + length chunk.content ≤ content_limit
    → Tail content at (print_chunk_line chunk.line ++ (chunk.content ++ (13 ∷ 10 ∷ rest))) f → ⊥
unfolding Tail Behind
chunk_not_tail chunk content at rest f valid room (inl none) =
    line_not_lineless content at _ (chunk.content ++ (13 ∷ 10 ∷ rest)) chunk.line f (record { short = valid.line; parts = refl }) none
chunk_not_tail chunk content at rest f valid room (inr lined) =
    let same = line_unique _ (chunk.content ++ (13 ∷ 10 ∷ rest)) lined.1 chunk.line lined.0 (record { short = valid.line; parts = refl }) lined.2 in
    let size : chunk_size chunk.line ≡ chunk_size lined.0 = ap chunk_size same.0 in
    elim lined.3 [
      | inl over ↦ absurd (omega (arith, over.0, size, valid.sized, room))
      | inr (inl last) ↦ absurd (omega (arith, last.2, size, valid.sized, valid.some))
      | inr (inr inside) ↦
          chunk_not_in_content content (at + length (print_chunk_line lined.0)) (chunk_size lined.0) chunk.content rest f (omega (arith, size, valid.sized))
          (subst (λ (t : List ℕ). InContent content (at + length (print_chunk_line lined.0)) (chunk_size lined.0) t f) (sym same.1) inside.2)
    ]

chunked_unique : (cs ds : List Chunk) (content : List ℕ) (at : ℕ) (bytes : List ℕ) (f g : Reading) → Chunked cs content at bytes f → Chunked ds content at bytes g → f ≡ g
unfolding Chunked
chunked_unique [] [] content at bytes f g a b = tail_unique content at bytes f g a b
chunked_unique [] (d ∷ ds) content at bytes f g a b = absurd (chunk_not_tail d content at b.2 f b.0 b.1 (subst (λ (t : List ℕ). Tail content at t f) b.3 a))
chunked_unique (c ∷ cs) [] content at bytes f g a b = absurd (chunk_not_tail c content at a.2 g a.0 a.1 (subst (λ (t : List ℕ). Tail content at t g) a.3 b))
chunked_unique (c ∷ cs) (d ∷ ds) content at bytes f g a b =
    let lines = line_unique bytes (c.content ++ (13 ∷ 10 ∷ a.2)) (d.content ++ (13 ∷ 10 ∷ b.2)) c.line d.line
    (record { short = a.0.line; parts = a.3 }) (record { short = b.0.line; parts = b.3 }) in
    let len : length c.content ≡ length d.content = omega (arith, ap chunk_size lines.0, a.0.sized, b.0.sized) in
    let parts = split c.content (13 ∷ 10 ∷ a.2) d.content (13 ∷ 10 ∷ b.2) len lines.1 in
    let rest : a.2 ≡ b.2 = ap (drop 2) parts.1 in
    let same : c ≡ d = chunk_same c d lines.0 parts.0 in
    chunked_unique cs ds (content ++ c.content) (at + length (print_chunk c)) a.2 f g a.4
    (subst (λ (e : Chunk). Chunked ds (content ++ e.content) (at + length (print_chunk e)) a.2 g) (sym same)
    (subst (λ (t : List ℕ). Chunked ds (content ++ d.content) (at + length (print_chunk d)) t g) (sym rest) b.4))
  where
    chunk_same : (c d : Chunk) → c.line ≡ d.line → c.content ≡ d.content → c ≡ d
    chunk_same c d p q =
        let with_line : ChunkLine → Chunk = λ l. record { line = l; content = c.content } in
        let with_content : List ℕ → Chunk = λ t. record { line = d.line; content = t } in
        ap with_line p ∙ ap with_content q

-- ---- a reading, as chunks and then a tail

-- the tail behind whole chunks that were counted from the first byte
chunked_from : (cs : List Chunk) (content : List ℕ) (at : ℕ) (bytes rest : List ℕ) (f : Reading) → AllByRecursion IsChunk cs
    → length content + length (content_of cs) ≤ content_limit → bytes ≡ text_of cs ++ rest
    → Tail (content ++ content_of cs) (at + length (text_of cs)) rest f → Chunked cs content at bytes f
unfolding Chunked text_of content_of
chunked_from [] content at bytes rest f valid room parts tail =
    subst (λ (t : List ℕ). Tail content at t f) (sym parts)
    (subst (λ (n : ℕ). Tail content n rest f) (omega arith) (subst (λ (c : List ℕ). Tail c (at + 0) rest f) (append-nil content) tail))
chunked_from (c ∷ cs) content at bytes rest f valid room parts tail =
    let size = length-append c.content (content_of cs) in (
      valid.0,
      omega (arith, room, size),
      text_of cs ++ rest,
      parts ∙ append_assoc (print_chunk c) (text_of cs) rest ∙ append_assoc (print_chunk_line c.line ++ c.content) crlf_bytes (text_of cs ++ rest)
          ∙ append_assoc (print_chunk_line c.line) c.content (13 ∷ 10 ∷ (text_of cs ++ rest)),
      chunked_from cs (content ++ c.content) (at + length (print_chunk c)) (text_of cs ++ rest) rest f valid.1 (omega (arith, room, size, length-append content c.content)) refl
          (subst (λ (n : ℕ). Tail ((content ++ c.content) ++ content_of cs) n rest f) (omega (arith, length-append (print_chunk c) (text_of cs)))
          (subst (λ (t : List ℕ). Tail t (at + length (print_chunk c ++ text_of cs)) rest f) (sym (append_assoc content c.content (content_of cs))) tail)),
    )

-- lines, and then what ends them
section_from : (lines : List (List ℕ)) (taken : ℕ) (content : List ℕ) (at : ℕ) (bytes : List ℕ) (f : Reading) → AllByRecursion IsTrailer lines
    → taken + length (lines_of lines) ≤ trailer_limit → Ends (taken + length (lines_of lines)) content at bytes f → Section lines taken content at (lines_of lines ++ bytes) f
unfolding Section lines_of
section_from [] taken content at bytes f valid room ends = subst (λ (n : ℕ). Ends n content at bytes f) (omega arith) ends
section_from (l ∷ ls) taken content at bytes f valid room ends =
    let size = length-append (l ++ crlf_bytes) (lines_of ls) in
    let line = length-append l crlf_bytes in (
      valid.0,
      omega (arith, room, size, line),
      lines_of ls ++ bytes,
      append_assoc (l ++ crlf_bytes) (lines_of ls) bytes ∙ append_assoc l crlf_bytes (lines_of ls ++ bytes),
      section_from ls (taken + (length l + 2)) content at bytes f valid.1 (omega (arith, room, size, line))
          (subst (λ (n : ℕ). Ends n content at bytes f) (omega (arith, size, line)) ends),
    )

-- a stream that is chunks and then a tail
Parted : List ℕ → Reading → Type 0
Parted stream f = (chunks : List Chunk) × Chunked chunks [] 0 stream f

parted : (stream before content rest : List ℕ) (f : Reading) → AreChunks before content → stream ≡ before ++ rest → Tail content (length before) rest f → Parted stream f
unfolding Parted
parted stream before content rest f chunks parts tail = (
  chunks.chunks,
  chunked_from chunks.chunks [] 0 stream rest f chunks.valid (omega (arith, chunks.room, ap length chunks.content_is)) (parts ∙ ap (λ (t : List ℕ). t ++ rest) chunks.text_is)
      (subst (λ (n : ℕ). Tail (content_of chunks.chunks) n rest f) (omega (arith, ap length chunks.text_is)) (subst (λ (c : List ℕ). Tail c (length before) rest f) chunks.content_is tail)),
)

-- behind a size line
after_line : (before line part rest : List ℕ) (stream prefix : List ℕ) → stream ≡ prefix ++ rest → prefix ≡ before ++ (line ++ part) → stream ≡ before ++ (line ++ (part ++ rest))
after_line before line part rest stream prefix e f =
    e ∙ ap (λ (t : List ℕ). t ++ rest) f ∙ append_assoc before (line ++ part) rest ∙ ap (λ (t : List ℕ). before ++ t) (append_assoc line part rest)

last_parted : (stream rest content : List ℕ) (taken : ℕ) (prefix : List ℕ) (last : IsLast taken prefix content) (f : Reading) → stream ≡ prefix ++ rest
    → Ends taken content (length last.before + length (print_chunk_line last.last)) rest f → Parted stream f
unfolding Tail Behind
last_parted stream rest content taken prefix last f parts ends =
    let at = length last.before + length (print_chunk_line last.last) in
    parted stream last.before content (print_chunk_line last.last ++ (lines_of last.lines ++ rest)) f last.chunks
    (after_line last.before (print_chunk_line last.last) (lines_of last.lines) rest stream prefix parts last.text_is)
    (inr (
      last.last,
      lines_of last.lines ++ rest,
      record { short = last.valid; parts = refl },
      inr (inl (
        last.lines,
        last.chunks.room,
        last.ends,
        section_from last.lines 0 content at rest f last.trailers (omega (arith, last.taken_is, last.room))
            (subst (λ (n : ℕ). Ends n content at rest f) (omega (arith, last.taken_is)) ends),
      )),
    ))

part_parted : (stream rest content : List ℕ) (left : ℕ) (prefix : List ℕ) (p : IsPart left prefix content) (f : Reading) → stream ≡ prefix ++ rest
    → InContent p.had (length p.before + length (print_chunk_line p.line)) (chunk_size p.line) (p.part ++ rest) f → Parted stream f
unfolding Tail Behind
part_parted stream rest content left prefix p f parts follows =
    parted stream p.before p.had (print_chunk_line p.line ++ (p.part ++ rest)) f p.chunks
    (after_line p.before (print_chunk_line p.line) p.part rest stream prefix parts p.text_is)
    (inr (p.line, p.part ++ rest, record { short = p.valid; parts = refl }, inr (inr (p.some, p.room, follows))))

bad_parted : (stream content : List ℕ) (at : ℕ) (place : Place) (rest : List ℕ) (back : ℕ) → Reaches stream place content rest → IsBad place rest back
    → at + back + length rest ≡ length stream → Parted stream (bad content at)
unfolding Tail Lineless Ends InContent
bad_parted stream content at Line rest back r b e =
    parted stream r.prefix content rest (bad content at) r.reached r.parts
    (inl (refl, omega (arith, e, b.1, ap length r.parts, length-append r.prefix rest), b.0))
bad_parted stream content at (Inside left) rest back r b e = absurd b
bad_parted stream content at After rest back r b e =
    let p = r.reached in
    let len : length p.part ≡ chunk_size p.line = omega (arith, p.sized) in
    part_parted stream rest content 0 r.prefix p (bad content at) r.parts (
      p.part,
      rest,
      len,
      refl,
      b.0,
      p.content_is,
      omega (
        arith,
        e,
        b.1,
        len,
        ap length r.parts,
        length-append r.prefix rest,
        ap length p.text_is,
        length-append p.before (print_chunk_line p.line ++ p.part),
        length-append (print_chunk_line p.line) p.part,
      ),
    )
bad_parted stream content at (Trailer taken) rest back r b e =
    let last = r.reached in
    last_parted stream rest content taken r.prefix last (bad content at) r.parts (
      refl,
      omega (
        arith,
        e,
        b.1,
        last.taken_is,
        ap length r.parts,
        length-append r.prefix rest,
        ap length last.text_is,
        length-append last.before (print_chunk_line last.last ++ lines_of last.lines),
        length-append (print_chunk_line last.last) (lines_of last.lines),
      ),
      b.0,
    )
bad_parted stream content at Done rest back r b e = absurd b

large_parted : (stream content : List ℕ) (place : Place) (rest : List ℕ) → Reaches stream place content rest → IsTooLarge place rest (length content) → Parted stream (large content)
unfolding Tail Behind
large_parted stream content Line rest r over = parted stream r.prefix content rest (large content) r.reached r.parts (inr (over.0, over.1, over.2, inl (over.3, refl)))
large_parted stream content (Inside left) rest r over = absurd over
large_parted stream content After rest r over = absurd over
large_parted stream content (Trailer taken) rest r over = absurd over
large_parted stream content Done rest r over = absurd over

cut_parted : (stream content : List ℕ) (place : Place) (rest : List ℕ) → Reaches stream place content rest → IsOpen place rest → Parted stream (cut content)
unfolding Tail Lineless Ends InContent
cut_parted stream content Line rest r o = parted stream r.prefix content rest (cut content) r.reached r.parts (inl (refl, o))
cut_parted stream content (Inside left) rest r o =
    let p = r.reached.0 in
    let none : p.part ++ rest ≡ p.part = ap (λ (t : List ℕ). p.part ++ t) o ∙ append-nil p.part in
    part_parted stream rest content left r.prefix p (cut content) r.parts (inl (omega (arith, ap length none, p.sized, r.reached.1), p.content_is ∙ ap (λ (t : List ℕ). p.had ++ t) (sym none)))
cut_parted stream content After rest r o =
    let p = r.reached in
    part_parted stream rest content 0 r.prefix p (cut content) r.parts (inr (p.part, rest, omega (arith, p.sized), refl, o, p.content_is))
cut_parted stream content (Trailer taken) rest r o = last_parted stream rest content taken r.prefix r.reached (cut content) r.parts (refl, o)
cut_parted stream content Done rest r o = absurd o

to_parts : (stream : List ℕ) (f : Reading) → Holds stream f → Parted stream f
unfolding Ends
to_parts stream (whole content rest) h =
    let body = h.reached in
    last_parted stream (crlf_bytes ++ rest) content body.taken body.prefix body.last (whole content rest)
    (h.parts ∙ ap (λ (t : List ℕ). t ++ rest) body.text_is ∙ append_assoc body.prefix crlf_bytes rest) (refl, refl, body.room)
to_parts stream (bad content at) h = bad_parted stream content at h.0 h.1 h.2 h.3 h.4 h.5
to_parts stream (large content) h = large_parted stream content h.0 h.1 h.2 h.3
to_parts stream (cut content) h = cut_parted stream content h.0 h.1 h.2 h.3

pub one_reading : (stream : List ℕ) (f g : Reading) → Holds stream f → Holds stream g → f ≡ g
unfolding Parted
one_reading stream f g a b =
    let p = to_parts stream f a in
    let q = to_parts stream g b in
    chunked_unique p.0 q.0 [] 0 stream f g p.1 q.1

pub one_body : (text other content wanted rest more : List ℕ) → IsBody text content → IsBody other wanted → text ++ rest ≡ other ++ more
    → (text ≡ other) × (content ≡ wanted) × (rest ≡ more)
one_body text other content wanted rest more a b e =
    let same = one_reading (text ++ rest) (whole content rest) (whole wanted more) (record { prefix = text; parts = refl; reached = a }) (record { prefix = other; parts = e; reached = b }) in
    let rests = rest_same content wanted rest more same in
    (append_cancel_right text other rest (e ∙ ap (λ (t : List ℕ). other ++ t) (sym rests)), content_same content wanted rest more same, rests)
  where
    content_same : (c d r s : List ℕ) → whole c r ≡ whole d s → c ≡ d
    content_same c d r s e = cc

    rest_same : (c d r s : List ℕ) → whole c r ≡ whole d s → r ≡ s
    rest_same c d r s e = cc
