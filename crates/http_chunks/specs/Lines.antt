-- The size line of a chunk: 1 to 16 hexadecimal digits, spaces and tabs, and an extension that is dropped (RFC 9112, section
-- 7.1), of at most 1,024 bytes (this project's own limit).
use Rattle.std.specs.Prelude.{◌≡◌, ℕ, ◌<◌, ◌≤◌, ◌⊎◌, List, ◌++◌, length, take, drop}
use Rattle.httparse.specs.Grammar.{ChunkLine, IsChunkLine, HasNoChunkLine, NeverHasChunkLine, MayBecomeChunkLine, print_chunk_line, chunk_size}
use Rattle.http_chunks.specs.declared.size_line.LineStep.{LineStep}
use Rattle.http_chunks.specs.declared.size_line.LineStep.TheVariants.{Line, Need, Bad}

-- the most bytes of a size line, with its end
unfoldable pub line_limit : ℕ
line_limit = 1024

-- a size line of at most so many bytes
pub record IsShortLine (line : ChunkLine) : Type 0 where
  pub valid : IsChunkLine line
  pub short : length (print_chunk_line line) ≤ line_limit

-- the bytes are that size line and then the rest
pub record HasLine (bytes : List ℕ) (line : ChunkLine) (rest : List ℕ) : Type 0 where
  pub short : IsShortLine line
  pub parts : bytes ≡ print_chunk_line line ++ rest

-- no size line ends within the limit, and no more bytes can change that
abbrev pub IsBadLine : List ℕ → Type 0
IsBadLine bytes = HasNoChunkLine (take line_limit bytes) × ((line_limit ≤ length bytes) ⊎ NeverHasChunkLine bytes)

-- a proper beginning of a size line, below the limit
pub record IsOpenLine (bytes : List ℕ) : Type 0 where
  pub short : length bytes < line_limit
  pub none : HasNoChunkLine bytes
  pub open_end : MayBecomeChunkLine bytes

-- what was said is what stands in front
abbrev pub GivesLine : List ℕ → LineStep → Type 0
GivesLine bytes (Line n size) =
    (line : ChunkLine) × HasLine bytes line (drop n bytes) × (n ≡ length (print_chunk_line line)) × (size ≡ chunk_size line)
GivesLine bytes Need = IsOpenLine bytes
GivesLine bytes Bad = IsBadLine bytes

-- a size line has at least one byte, as many as its limit at most, and no more than are there
abbrev pub IsLineWithin : ℕ → LineStep → Type 0
IsLineWithin most (Line n size) = (0 < n) × (n ≤ 1024) × (n ≤ most)
IsLineWithin most Need = Unit {0}
IsLineWithin most Bad = Unit {0}
