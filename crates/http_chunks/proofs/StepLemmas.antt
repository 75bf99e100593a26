-- What a step says, by the place.
use Rattle.std.proofs.Common.{◌≡◌, ℕ, ◌+◌, ◌<◌, ◌≤◌, List, ◌++◌, length, take, refl, ap, subst, ◌∙◌, arith, length-append}
use Rattle.std.proofs.lemmas.List.{length-take-le}
use Rattle.httparse.specs.Grammar.{ChunkLine, chunk_size}
use Rattle.http_chunks.specs.declared.place.Place.{Place}
use Rattle.http_chunks.specs.declared.place.Place.TheVariants.{Line}
use Rattle.http_chunks.specs.declared.chunks.Chunks.{Chunks}
use Rattle.http_chunks.specs.Lines.{HasLine}
use Rattle.http_chunks.specs.Body.{AreChunks, content_limit}
use Rattle.http_chunks.specs.Places.{ReachesWith}
use Rattle.http_chunks.specs.Room.{left_at}
use Rattle.http_chunks.specs.Reading.{Holds, large}
use Rattle.http_chunks.specs.Steps.{TookText}

-- what was taken, at a place that is known
pub place_of : (chunks : Chunks) (place : Place) (text content : List ℕ) → chunks.place ≡ place → TookText chunks text content → ReachesWith place text content
place_of chunks place text content is took = subst (λ (p : Place). ReachesWith p text content) is took.place

pub total_of : (chunks : Chunks) (place : Place) (text content : List ℕ) → chunks.place ≡ place → TookText chunks text content → chunks.total ≡ length content + left_at place
total_of chunks place text content is took = took.total ∙ ap (λ (p : Place). length content + left_at p) is

pub large_at : (text content bytes rest : List ℕ) (line : ChunkLine) → AreChunks text content → HasLine bytes line rest → content_limit < length content + chunk_size line
    → Holds (text ++ bytes) (large content)
large_at text content bytes rest line chunks has over = (Line, bytes, record { prefix = text; parts = refl; reached = chunks }, (line, rest, has, over))

-- so many bytes more were taken
pub taken_more : (text bytes : List ℕ) (at n : ℕ) → at ≡ length text → n ≤ length bytes → at + n ≡ length (text ++ take n bytes)
taken_more text bytes at n e within = omega (arith, e, length-append text (take n bytes), length-take-le n bytes within)
