-- Where a body stands behind a prefix of it, and what can stand there.
use Rattle.std.specs.Prelude.{◌≡◌, ◌≢◌, ℕ, ◌+◌, ◌<◌, ◌⊎◌, List, [], ◌∷◌, length, slice_index}
use Rattle.httparse.specs.Ascii.{carriage_return, line_feed}
use Rattle.httparse.specs.Grammar.{ChunkLine, chunk_size}
use Rattle.http_chunks.specs.declared.place.Place.{Place}
use Rattle.http_chunks.specs.declared.place.Place.TheVariants.{Line, Inside, After, Trailer, Done}
use Rattle.http_chunks.specs.Lines.{HasLine, IsBadLine, IsOpenLine}
use Rattle.http_chunks.specs.Trailers.{IsBadTrailer, IsOpenTrailer}
use Rattle.http_chunks.specs.Body.{content_limit, AreChunks, IsPart, IsLast, IsBody}

-- the text is a prefix of a body up to the place, and has this content
abbrev pub ReachesWith : Place → List ℕ → List ℕ → Type 0
ReachesWith Line text content = AreChunks text content
ReachesWith (Inside left) text content = IsPart left text content × (0 < left)
ReachesWith After text content = IsPart 0 text content
ReachesWith (Trailer taken) text content = IsLast taken text content
ReachesWith Done text content = IsBody text content

-- a proper beginning of CR LF
abbrev pub IsOpenEnd : List ℕ → Type 0
IsOpenEnd bytes = (bytes ≡ []) ⊎ (bytes ≡ carriage_return ∷ [])

-- bytes that don't begin as CR LF does
abbrev pub IsNoEnd : List ℕ → Type 0
IsNoEnd bytes =
    ((0 < length bytes) × (slice_index bytes 0 ≢ carriage_return)) ⊎ ((1 < length bytes) × (slice_index bytes 1 ≢ line_feed))

-- at the place, the bytes are none or a proper beginning of what can stand there
abbrev pub IsOpen : Place → List ℕ → Type 0
IsOpen Line bytes = IsOpenLine bytes
IsOpen (Inside left) bytes = bytes ≡ []
IsOpen After bytes = IsOpenEnd bytes
IsOpen (Trailer taken) bytes = IsOpenTrailer taken bytes
IsOpen Done bytes = ⊥

-- at the place, the bytes are refused, and the place of the refusal lies so many bytes before them
abbrev pub IsBad : Place → List ℕ → ℕ → Type 0
IsBad Line bytes back = IsBadLine bytes × (back ≡ 0)
IsBad (Inside left) bytes back = ⊥
IsBad After bytes back = IsNoEnd bytes × (back ≡ 0)
IsBad (Trailer taken) bytes back = IsBadTrailer taken bytes × (back ≡ taken)
IsBad Done bytes back = ⊥

-- at the place, behind so much content, a size line brings it above the limit
abbrev pub IsTooLarge : Place → List ℕ → ℕ → Type 0
IsTooLarge Line bytes total =
    (line : ChunkLine) × (rest : List ℕ) × HasLine bytes line rest × (content_limit < total + chunk_size line)
IsTooLarge (Inside left) bytes total = ⊥
IsTooLarge After bytes total = ⊥
IsTooLarge (Trailer taken) bytes total = ⊥
IsTooLarge Done bytes total = ⊥
