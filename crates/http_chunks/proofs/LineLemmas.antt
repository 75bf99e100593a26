-- What the first 1,024 bytes say of a size line.
use Rattle.std.proofs.Common.{◌≡◌, ℕ, ◌+◌, ◌<◌, ◌≤◌, List, [], ◌++◌, length, take, drop, refl, sym, ap, subst, ◌∙◌, arith, inl, inr, append_assoc, length-append}
use Rattle.std.proofs.lemmas.Bool.{cases_lt}
use Rattle.std.proofs.lemmas.List.{take-append-drop, length-take, take_all, append-nil, drop_at, take_at, take-take, take-append-le}
use Rattle.httparse.specs.Grammar.{ChunkLine, ReadsChunkLine, HasNoChunkLine, NeverHasChunkLine, MayBecomeChunkLine, print_chunk_line, chunk_size, print_extension, print_end, crlf}
use Rattle.httparse.specs.Spans.{IsChunkLineAt}
use Rattle.httparse.proofs.ChunkLemmas.{chunk_line_unique}
use Rattle.http_chunks.specs.Lines.{line_limit, HasLine, IsBadLine, IsOpenLine}

-- a size line isn't empty, and lies in the bytes
pub length-line : (bytes rest : List ℕ) (line : ChunkLine) → HasLine bytes line rest
    → (0 < length (print_chunk_line line)) × (length (print_chunk_line line) ≤ 1024) × (length (print_chunk_line line) + length rest ≡ length bytes)
unfolding print_chunk_line line_limit
length-line bytes rest line has = (
  omega (
    arith,
    has.short.valid.digits.0,
    length-append line.digits line.pad,
    length-append (line.digits ++ line.pad) (print_extension line.extension),
    length-append (line.digits ++ line.pad ++ print_extension line.extension) (print_end crlf),
  ),
  has.short.short,
  omega (arith, ap length has.parts, length-append (print_chunk_line line) rest),
)

pub line_from_prefix : (bytes : List ℕ) (n size : ℕ) (line : ChunkLine) → IsChunkLineAt (take line_limit bytes) n size line
    → HasLine bytes line (drop n bytes) × (n ≡ length (print_chunk_line line)) × (size ≡ chunk_size line)
line_from_prefix bytes n size line at =
    let whole : bytes ≡ print_chunk_line line ++ (drop n (take line_limit bytes) ++ drop line_limit bytes) =
    sym (take-append-drop line_limit bytes) ∙ ap (λ (t : List ℕ). t ++ drop line_limit bytes) at.reads.1
    ∙ append_assoc (print_chunk_line line) (drop n (take line_limit bytes)) (drop line_limit bytes) in
    let rest : drop n bytes ≡ drop n (take line_limit bytes) ++ drop line_limit bytes =
    ap (drop n) whole ∙ drop_at (print_chunk_line line) (drop n (take line_limit bytes) ++ drop line_limit bytes) n (sym at.len_is) in (
      record {
        short = record {
          valid = at.reads.0;
          short = omega (arith, ap length at.reads.1, length-append (print_chunk_line line) (drop n (take line_limit bytes)), length-take line_limit bytes);
        };
        parts = whole ∙ ap (λ (t : List ℕ). print_chunk_line line ++ t) (sym rest);
      },
      at.len_is,
      at.size_is,
    )

pub bad_from_never : (bytes : List ℕ) → NeverHasChunkLine (take line_limit bytes) → IsBadLine bytes
bad_from_never bytes never = (
  λ line rest reads. never [] line rest (subst (λ (t : List ℕ). ReadsChunkLine t line rest) (sym (append-nil (take line_limit bytes))) reads),
  elim (cases_lt (length bytes) line_limit) [
    | inl lt ↦ inr (subst NeverHasChunkLine (take_all line_limit bytes (omega arith)) never)
    | inr ge ↦ inl ge
  ],
)

pub open_from_prefix : (bytes : List ℕ) → length bytes < line_limit → HasNoChunkLine (take line_limit bytes) → MayBecomeChunkLine (take line_limit bytes) → IsOpenLine bytes
open_from_prefix bytes lt none may = record {
  short = lt;
  none = subst HasNoChunkLine (take_all line_limit bytes (omega arith)) none;
  open_end = subst MayBecomeChunkLine (take_all line_limit bytes (omega arith)) may;
}

-- where a size line stands, none is bad and none is open
pub line_not_bad : (bytes rest : List ℕ) (line : ChunkLine) → HasLine bytes line rest → IsBadLine bytes → ⊥
line_not_bad bytes rest line has bad =
    let n = length (print_chunk_line line) in
    let cut : List ℕ = take line_limit bytes in
    let prefix : take n cut ≡ print_chunk_line line =
    take-take n line_limit bytes has.short.short ∙ ap (take n) has.parts ∙ take_at (print_chunk_line line) rest n refl in
    bad.0 line (drop n cut) (has.short.valid, sym (take-append-drop n cut) ∙ ap (λ (t : List ℕ). t ++ drop n cut) prefix)

pub line_not_open : (bytes rest : List ℕ) (line : ChunkLine) → HasLine bytes line rest → IsOpenLine bytes → ⊥
line_not_open bytes rest line has open_line = open_line.none line rest (has.short.valid, has.parts)

pub bad_not_open : (bytes : List ℕ) → IsBadLine bytes → IsOpenLine bytes → ⊥
bad_not_open bytes bad open_line = elim bad.1 [
  | inl long ↦ absurd (omega (arith, open_line.short))
  | inr never ↦ never open_line.open_end.0 open_line.open_end.1 [] open_line.open_end.2
]

-- a stream has one size line in front
pub line_unique : (bytes rest more : List ℕ) (line other : ChunkLine) → HasLine bytes line rest → HasLine bytes other more → (line ≡ other) × (rest ≡ more)
line_unique bytes rest more line other a b = chunk_line_unique bytes line other rest more (a.short.valid, a.parts) (b.short.valid, b.parts)

-- more bytes behind
pub line-append : (bytes rest more : List ℕ) (line : ChunkLine) → HasLine bytes line rest → HasLine (bytes ++ more) line (rest ++ more)
line-append bytes rest more line has = record {
  short = has.short;
  parts = ap (λ (t : List ℕ). t ++ more) has.parts ∙ append_assoc (print_chunk_line line) rest more;
}

pub bad_line-append : (bytes more : List ℕ) → IsBadLine bytes → IsBadLine (bytes ++ more)
bad_line-append bytes more bad = elim bad.1 [
  | inl long ↦ (subst HasNoChunkLine (sym (take-append-le line_limit bytes more long)) bad.0, inl (omega (arith, length-append bytes more)))
  | inr never ↦
      let all : NeverHasChunkLine (bytes ++ more) = λ next. subst HasNoChunkLine (sym (append_assoc bytes more next)) (never (more ++ next)) in (
        λ line rest reads. all [] line (rest ++ drop line_limit (bytes ++ more)) (
          reads.0,
          append-nil (bytes ++ more) ∙ sym (take-append-drop line_limit (bytes ++ more)) ∙ ap (λ (t : List ℕ). t ++ drop line_limit (bytes ++ more)) reads.1
              ∙ append_assoc (print_chunk_line line) rest (drop line_limit (bytes ++ more)),
        ),
        inr all,
      )
]
