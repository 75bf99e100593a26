-- Where a reader comes to an end over a stream, in whatever pieces it was given the bytes.
use Rattle.std.specs.Prelude.{◌≡◌, ℕ, List, [], ◌++◌}
use Rattle.http_chunks.specs.declared.chunks.Chunks.{Chunks}
use Rattle.http_chunks.specs.declared.chunk_step.ChunkStep.{ChunkStep}
use Rattle.http_chunks.specs.declared.chunk_step.ChunkStep.TheVariants.{Framing, Content, Need, End, BadChunk, BodyTooLarge}
use Rattle.http_chunks.specs.Reading.{Reading, whole, bad, large, cut}
use Rattle.http_chunks.specs.Steps.{TookText, StepSays}

-- no step comes after this one: more bytes are needed where none follow, the body ended, or it was refused
abbrev pub IsLastStep : ChunkStep → List ℕ → Type 0
IsLastStep (Framing n) more = ⊥
IsLastStep (Content n) more = ⊥
IsLastStep Need more = more ≡ []
IsLastStep End more = Unit {0}
IsLastStep (BadChunk at) more = Unit {0}
IsLastStep BodyTooLarge more = Unit {0}

-- A reader took a text with this content, and then said its last step of the next bytes; the stream may go on behind them.
pub record Finishes (stream content : List ℕ) (step : ChunkStep) : Type 0 where
  pub text : List ℕ
  pub bytes : List ℕ
  pub more : List ℕ
  pub old : Chunks
  pub new : Chunks
  pub parts : stream ≡ (text ++ bytes) ++ more
  pub took : TookText old text content
  pub says : StepSays text content bytes old.place new step
  pub ends : IsLastStep step more

-- the last step that a reading is said by
abbrev pub IsSaidBy : Reading → List ℕ → ChunkStep → Type 0
IsSaidBy (whole wanted rest) content step = (content ≡ wanted) × (step ≡ End)
IsSaidBy (bad wanted at) content step = (content ≡ wanted) × (step ≡ BadChunk at)
IsSaidBy (large wanted) content step = (content ≡ wanted) × (step ≡ BodyTooLarge)
IsSaidBy (cut wanted) content step = (content ≡ wanted) × (step ≡ Need)
