-- A reader comes to a reading.
use Rattle.std.proofs.Common.{◌≡◌, ℕ, List, [], ◌++◌, refl, sym, append-nil}
use Rattle.http_chunks.specs.declared.chunks.Chunks.{Chunks}
use Rattle.http_chunks.specs.declared.chunk_step.ChunkStep.{ChunkStep}
use Rattle.http_chunks.specs.declared.chunk_step.ChunkStep.TheVariants.{Framing, Content, Need, End, BadChunk, BodyTooLarge}
use Rattle.http_chunks.specs.Runs.{Finishes, IsLastStep}
use Rattle.http_chunks.specs.Steps.{TookText, StepSays}
use Rattle.http_chunks.specs.Found.{EndsReading}
use Rattle.http_chunks.proofs.MoreBytes.{said_as_read}

-- where its last step is said, the reading is there
pub ends_reading : (old new : Chunks) (bytes : List ℕ) (step : ChunkStep) → IsLastStep step []
    → ((text content : List ℕ) → TookText old text content → StepSays text content bytes old.place new step) → EndsReading old bytes
ends_reading old new bytes step last says text taken =
    let finish : Finishes (text ++ bytes) taken.0 step = record {
      text = text;
      bytes = bytes;
      more = [];
      old = old;
      new = new;
      parts = sym (append-nil (text ++ bytes));
      took = taken.1;
      says = says text taken.0 taken.1;
      ends = last;
    } in
    let read = said_as_read (text ++ bytes) taken.0 step finish in
    (read.0, read.1)

pub last_of : (step : ChunkStep) → ((n : ℕ) → step ≡ Framing n → ⊥) → ((n : ℕ) → step ≡ Content n → ⊥) → IsLastStep step []
last_of (Framing n) f g = absurd (f n refl)
last_of (Content n) f g = absurd (g n refl)
last_of Need f g = refl
last_of End f g = tt
last_of (BadChunk at) f g = tt
last_of BodyTooLarge f g = tt
