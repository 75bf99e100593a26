-- A chunked body (RFC 9112, section 7.1), and the prefixes of one.
use Rattle.std.specs.Prelude.{◌≡◌, ℕ, ◌+◌, ◌<◌, ◌≤◌, List, ◌++◌, length}
use Rattle.std.specs.List.{flat_map, AllByRecursion}
use Rattle.httparse.specs.Ascii.{crlf_bytes}
use Rattle.httparse.specs.Grammar.{ChunkLine, print_chunk_line, chunk_size}
use Rattle.http_chunks.specs.Lines.{IsShortLine}
use Rattle.http_chunks.specs.Trailers.{trailer_limit, IsTrailer, lines_of}

-- the most bytes of content (this project's own)
abbrev pub content_limit : ℕ
content_limit = 1073741824

-- a chunk: its size line and its content
pub record Chunk : Type 0 where
  pub line : ChunkLine
  pub content : List ℕ

-- the line says how long the content is, which isn't empty
pub record IsChunk (chunk : Chunk) : Type 0 where
  pub line : IsShortLine chunk.line
  pub sized : chunk_size chunk.line ≡ length chunk.content
  pub some : 0 < length chunk.content

abbrev pub print_chunk : Chunk → List ℕ
print_chunk chunk = print_chunk_line chunk.line ++ chunk.content ++ crlf_bytes

-- the bytes of chunks, and their content
unfoldable pub text_of : List Chunk → List ℕ
text_of chunks = flat_map print_chunk chunks

unfoldable pub content_of : List Chunk → List ℕ
content_of chunks = flat_map (λ chunk. chunk.content) chunks

-- whole chunks with this content
pub record AreChunks (text content : List ℕ) : Type 0 where
  pub chunks : List Chunk
  pub valid : AllByRecursion IsChunk chunks
  pub text_is : text ≡ text_of chunks
  pub content_is : content ≡ content_of chunks
  pub room : length content ≤ content_limit

-- whole chunks, a size line, and its content but for so many bytes
pub record IsPart (left : ℕ) (text content : List ℕ) : Type 0 where
  pub before : List ℕ
  pub had : List ℕ
  pub line : ChunkLine
  pub part : List ℕ
  pub chunks : AreChunks before had
  pub valid : IsShortLine line
  pub text_is : text ≡ before ++ (print_chunk_line line ++ part)
  pub content_is : content ≡ had ++ part
  pub sized : length part + left ≡ chunk_size line
  pub some : 0 < chunk_size line
  pub room : length had + chunk_size line ≤ content_limit

-- whole chunks, the last size line, which says 0, and so many bytes of lines
pub record IsLast (taken : ℕ) (text content : List ℕ) : Type 0 where
  pub before : List ℕ
  pub last : ChunkLine
  pub lines : List (List ℕ)
  pub chunks : AreChunks before content
  pub valid : IsShortLine last
  pub ends : chunk_size last ≡ 0
  pub trailers : AllByRecursion IsTrailer lines
  pub text_is : text ≡ before ++ (print_chunk_line last ++ lines_of lines)
  pub taken_is : taken ≡ length (lines_of lines)
  pub room : taken ≤ trailer_limit

-- a whole body: all of that, and an empty line
pub record IsBody (text content : List ℕ) : Type 0 where
  pub prefix : List ℕ
  pub taken : ℕ
  pub last : IsLast taken prefix content
  pub text_is : text ≡ prefix ++ crlf_bytes
  pub room : taken + 2 ≤ trailer_limit
