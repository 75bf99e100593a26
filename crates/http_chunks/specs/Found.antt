-- That a stream holds a reading.
use Rattle.std.specs.Prelude.{ℕ, ◌<◌, ◌≤◌, List, ◌++◌, length, take}
use Rattle.http_chunks.specs.declared.chunks.Chunks.{Chunks}
use Rattle.http_chunks.specs.Reading.{Reading, Holds}
use Rattle.http_chunks.specs.Steps.{TookText}

abbrev pub HasReading : List ℕ → Type 0
HasReading stream = (reading : Reading) × Holds stream reading

-- the reader took this text, with some content
abbrev pub HasTaken : Chunks → List ℕ → Type 0
HasTaken chunks text = (content : List ℕ) × TookText chunks text content

-- so many of the next bytes were taken, at least one
pub record Takes (old new : Chunks) (bytes : List ℕ) (n : ℕ) : Type 0 where
  pub some : 0 < n
  pub within : n ≤ length bytes
  pub goes_on : (text : List ℕ) → HasTaken old text → HasTaken new (text ++ take n bytes)

-- whatever text was taken before, it and the next bytes hold a reading
abbrev pub EndsReading : Chunks → List ℕ → Type 0
EndsReading old bytes = (text : List ℕ) → HasTaken old text → HasReading (text ++ bytes)
