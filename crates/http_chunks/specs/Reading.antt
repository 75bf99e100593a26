-- What a stream holds where a chunked body is wanted.
use Rattle.std.specs.Prelude.{◌≡◌, ℕ, ◌+◌, List, ◌++◌, length}
use Rattle.http_chunks.specs.declared.place.Place.{Place}
use Rattle.http_chunks.specs.declared.place.Place.TheVariants.{Done}
use Rattle.http_chunks.specs.Places.{ReachesWith, IsOpen, IsBad, IsTooLarge}

-- A whole body, with its content and what follows it; one that is refused at a place, which counts from its first byte; one
-- that would be too large; or one that the stream ends in. The last three have the content before that point.
pub data Reading : Type 0 where
  whole : List ℕ → List ℕ → Reading
  bad : List ℕ → ℕ → Reading
  large : List ℕ → Reading
  cut : List ℕ → Reading

-- the stream is a prefix of a body up to the place, with this content, and the rest
pub record Reaches (stream : List ℕ) (place : Place) (content rest : List ℕ) : Type 0 where
  pub prefix : List ℕ
  pub parts : stream ≡ prefix ++ rest
  pub reached : ReachesWith place prefix content

abbrev pub Holds : List ℕ → Reading → Type 0
Holds stream (whole content rest) = Reaches stream Done content rest
Holds stream (bad content at) =
    (place : Place) × (rest : List ℕ) × (back : ℕ)
    × Reaches stream place content rest × IsBad place rest back × (at + back + length rest ≡ length stream)
Holds stream (large content) =
    (place : Place) × (rest : List ℕ) × Reaches stream place content rest × IsTooLarge place rest (length content)
Holds stream (cut content) =
    (place : Place) × (rest : List ℕ) × Reaches stream place content rest × IsOpen place rest

-- more bytes may change what the stream ends in, and nothing else
abbrev pub IsSettled : Reading → Type 0
IsSettled (whole content rest) = Unit {0}
IsSettled (bad content at) = Unit {0}
IsSettled (large content) = Unit {0}
IsSettled (cut content) = ⊥

-- the reading, where more bytes follow
abbrev pub followed_by : List ℕ → Reading → Reading
followed_by more (whole content rest) = whole content (rest ++ more)
followed_by more (bad content at) = bad content at
followed_by more (large content) = large content
followed_by more (cut content) = cut content
