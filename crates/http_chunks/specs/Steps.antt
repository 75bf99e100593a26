-- What a step says of the next bytes.
use Rattle.std.specs.Prelude.{◌≡◌, ℕ, ◌+◌, ◌<◌, ◌≤◌, List, ◌++◌, length, take}
use Rattle.http_chunks.specs.declared.place.Place.{Place}
use Rattle.http_chunks.specs.declared.chunks.Chunks.{Chunks}
use Rattle.http_chunks.specs.declared.chunk_step.ChunkStep.{ChunkStep}
use Rattle.http_chunks.specs.declared.chunk_step.ChunkStep.TheVariants.{Framing, Content, Need, End, BadChunk, BodyTooLarge}
use Rattle.http_chunks.specs.Body.{IsBody}
use Rattle.http_chunks.specs.Places.{ReachesWith, IsOpen}
use Rattle.http_chunks.specs.Room.{left_at}
use Rattle.http_chunks.specs.Reading.{Holds, bad, large}

-- the reader has taken this text, a prefix of a body, which has this content
pub record TookText (chunks : Chunks) (text content : List ℕ) : Type 0 where
  pub place : ReachesWith chunks.place text content
  pub at : chunks.at ≡ length text
  pub total : chunks.total ≡ length content + left_at chunks.place

-- what is taken has at least one byte, and no more than are there
abbrev pub IsWithin : ℕ → ChunkStep → Type 0
IsWithin most (Framing n) = (0 < n) × (n ≤ most)
IsWithin most (Content n) = (0 < n) × (n ≤ most)
IsWithin most Need = Unit {0}
IsWithin most End = Unit {0}
IsWithin most (BadChunk at) = Unit {0}
IsWithin most BodyTooLarge = Unit {0}

-- where nothing is taken the reader is as it was, so that it says the same again
abbrev pub KeepsUnlessTaken : Chunks → Chunks → ChunkStep → Type 0
KeepsUnlessTaken old new (Framing n) = Unit {0}
KeepsUnlessTaken old new (Content n) = Unit {0}
KeepsUnlessTaken old new Need = new ≡ old
KeepsUnlessTaken old new End = new ≡ old
KeepsUnlessTaken old new (BadChunk at) = new ≡ old
KeepsUnlessTaken old new BodyTooLarge = new ≡ old

-- what a step says of the bytes behind a text with this content
abbrev pub StepSays : List ℕ → List ℕ → List ℕ → Place → Chunks → ChunkStep → Type 0
StepSays text content bytes place new (Framing n) = TookText new (text ++ take n bytes) content
StepSays text content bytes place new (Content n) = TookText new (text ++ take n bytes) (content ++ take n bytes)
StepSays text content bytes place new Need = IsOpen place bytes
StepSays text content bytes place new End = IsBody text content
StepSays text content bytes place new (BadChunk at) = Holds (text ++ bytes) (bad content at)
StepSays text content bytes place new BodyTooLarge = Holds (text ++ bytes) (large content)
