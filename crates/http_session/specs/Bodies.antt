-- A content that is read by its framing, and what the next bytes of it are.
use Rattle.std.specs.Prelude.{◌≡◌, ℕ, ◌+◌, ◌<◌, ◌≤◌, List, ◌++◌, length, take}
use Rattle.http_heads.specs.declared.framing.Framing.{Framing}
use Rattle.http_heads.specs.declared.framing.Framing.TheVariants as framings
use Rattle.http_chunks.specs.Reading as readings
use Rattle.http_chunks.specs.Steps.{TookText}
use Rattle.http_requests.specs.Bodies.{HoldsBody}
use Rattle.http_requests.specs.Requests.{stop_of}
use Rattle.http_session.specs.declared.body.Body.{Body}
use Rattle.http_session.specs.declared.body.Body.TheVariants as bodies
use Rattle.http_session.specs.declared.body.BodyStep.{BodyStep}
use Rattle.http_session.specs.declared.body.BodyStep.TheVariants as steps

-- the reader has taken this part of a content, which holds so much
abbrev pub IsReading : Framing → Body → List ℕ → List ℕ → Type 0
IsReading framings.None (bodies.Sized left) part came = (part ≡ came) × (length came + left ≡ 0)
IsReading (framings.Length n) (bodies.Sized left) part came = (part ≡ came) × (length came + left ≡ n)
IsReading framings.Chunked (bodies.Chunked chunks) part came = TookText chunks part came
IsReading framing body part came = ⊥

-- what a step says of the bytes behind a part, and where the reader then stands
abbrev pub Reads : Framing → List ℕ → List ℕ → List ℕ → Body → BodyStep → Type 0
Reads framing part came bytes new (steps.Framing n) = IsReading framing new (part ++ take n bytes) came
Reads framing part came bytes new (steps.Content n) = IsReading framing new (part ++ take n bytes) (came ++ take n bytes)
-- the bytes that wait are few
Reads framing part came bytes new steps.Need =
    IsReading framing new part came × HoldsBody framing (part ++ bytes) (readings.cut came) × (length bytes < 32768)
Reads framing part came bytes new steps.Whole = (more : List ℕ) → HoldsBody framing (part ++ more) (readings.whole came more)
Reads framing part came bytes new (steps.Bad why) = (more : List ℕ) → HoldsBody framing ((part ++ bytes) ++ more) (stop_of came why)

-- what is taken has at least one byte, and no more than are there
abbrev pub IsWithin : ℕ → BodyStep → Type 0
IsWithin most (steps.Framing n) = (0 < n) × (n ≤ most)
IsWithin most (steps.Content n) = (0 < n) × (n ≤ most)
IsWithin most steps.Need = Unit {0}
IsWithin most steps.Whole = Unit {0}
IsWithin most (steps.Bad why) = Unit {0}
