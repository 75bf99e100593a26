-- The lines behind the last size line, which are dropped (RFC 9112, section 7.1.2). They have at most 16,384 bytes with the
-- empty one that ends the body (this project's own limit).
use Rattle.std.specs.Prelude.{◌≡◌, ◌≢◌, ℕ, ◌+◌, ◌-◌, ◌<◌, ◌≤◌, ◌⊎◌, List, ◌++◌, length, slice_index}
use Rattle.std.specs.List.{flat_map}
use Rattle.httparse.specs.Ascii.{crlf_bytes, carriage_return, line_feed}

-- the most bytes of these lines
abbrev pub trailer_limit : ℕ
trailer_limit = 16384

-- the first line feed stands at k
pub record IsFirstFeed (bytes : List ℕ) (k : ℕ) : Type 0 where
  pub within : k < length bytes
  pub is : slice_index bytes k ≡ line_feed
  pub first : (j : ℕ) → j < k → slice_index bytes j ≢ line_feed

-- none of the first n bytes is a line feed
abbrev pub HasNoFeed : ℕ → List ℕ → Type 0
HasNoFeed n bytes = (j : ℕ) → j < n → slice_index bytes j ≢ line_feed

-- a line without its end: not empty, and without a line feed
pub record IsTrailer (line : List ℕ) : Type 0 where
  pub some : 0 < length line
  pub one_line : HasNoFeed (length line) line

-- the bytes of lines
unfoldable pub lines_of : List (List ℕ) → List ℕ
lines_of lines = flat_map (λ line. line ++ crlf_bytes) lines

-- the line feed at k has no CR before it
abbrev pub IsBare : List ℕ → ℕ → Type 0
IsBare bytes k = (k ≡ 0) ⊎ (slice_index bytes (k - 1) ≢ carriage_return)

-- Behind so many bytes of lines a line stands that may not: it ends in a bare line feed, or no line can end within the limit
-- any more.
abbrev pub IsBadTrailer : ℕ → List ℕ → Type 0
IsBadTrailer taken bytes =
    ((k : ℕ) × IsFirstFeed bytes k × IsBare bytes k)
    ⊎ ((trailer_limit ≤ taken + length bytes) × HasNoFeed (trailer_limit - taken) bytes)

-- behind so many bytes of lines, a proper beginning of a line, below the limit
abbrev pub IsOpenTrailer : ℕ → List ℕ → Type 0
IsOpenTrailer taken bytes = HasNoFeed (length bytes) bytes × (taken + length bytes < trailer_limit)
