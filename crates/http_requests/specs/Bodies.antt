-- The content behind an accepted head (RFC 9112, section 6).
use Rattle.std.specs.Prelude.{◌≡◌, ℕ, ◌<◌, List, ◌++◌, length}
use Rattle.http_heads.specs.declared.framing.Framing.{Framing}
use Rattle.http_heads.specs.declared.framing.Framing.TheVariants as framings
use Rattle.http_chunks.specs.Reading.{Reading, whole, bad, large, cut, Holds}

-- so many bytes of content, whole or cut off by the end of the stream
abbrev pub HoldsLength : ℕ → List ℕ → Reading → Type 0
HoldsLength n bytes (whole content rest) = (length content ≡ n) × (bytes ≡ content ++ rest)
HoldsLength n bytes (bad content at) = ⊥
HoldsLength n bytes (large content) = ⊥
HoldsLength n bytes (cut content) = (length bytes < n) × (content ≡ bytes)

-- what the bytes behind a head hold, by its framing: no content, so many bytes, or chunks
abbrev pub HoldsBody : Framing → List ℕ → Reading → Type 0
HoldsBody framings.None bytes reading = HoldsLength 0 bytes reading
HoldsBody (framings.Length n) bytes reading = HoldsLength n bytes reading
HoldsBody framings.Chunked bytes reading = Holds bytes reading
