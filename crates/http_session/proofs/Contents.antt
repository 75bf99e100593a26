-- A content in chunks that is refused, whatever follows, or needs more bytes.
use Rattle.std.proofs.Common.{◌≡◌, ℕ, ◌<◌, List, ◌++◌, length, inl, inr, refl, sym, ap, subst, arith}
use Rattle.http_heads.specs.declared.framing.Framing.{Framing}
use Rattle.http_heads.specs.declared.framing.Framing.TheVariants as framings
use Rattle.http_chunks.specs.declared.chunks.Chunks.{Chunks}
use Rattle.http_chunks.specs.declared.place.Place.{Place}
use Rattle.http_chunks.specs.declared.place.Place.TheVariants as stands
use Rattle.http_chunks.specs.Lines.{line_limit}
use Rattle.http_chunks.specs.Places.{IsOpen}
use Rattle.http_chunks.specs.Reading as readings
use Rattle.http_chunks.specs.Reading.{Holds}
use Rattle.http_chunks.specs.Steps.{TookText}
use Rattle.http_chunks.proofs.MoreBytes.{settled_stays}
use Rattle.http_requests.specs.Bodies.{HoldsBody}
use Rattle.http_session.specs.declared.body.Body.{Body}
use Rattle.http_session.specs.declared.body.Body.TheVariants as bodies
use Rattle.http_session.specs.declared.body.BodyStep.TheVariants as steps
use Rattle.http_session.specs.Bodies.{IsReading, Reads}

bad_in : (framing : Framing) (chunks : Chunks) (part came bytes : List ℕ) (at : ℕ) → IsReading framing (bodies.Chunked chunks) part came
    → ((text content : List ℕ) → TookText chunks text content → Holds (text ++ bytes) (readings.bad content at))
    → (more : List ℕ) → HoldsBody framing ((part ++ bytes) ++ more) (readings.bad came at)
bad_in framings.None chunks part came bytes at x says more = absurd x
bad_in (framings.Length n) chunks part came bytes at x says more = absurd x
bad_in framings.Chunked chunks part came bytes at x says more = settled_stays (part ++ bytes) more (readings.bad came at) (says part came x) tt

large_in : (framing : Framing) (chunks : Chunks) (part came bytes : List ℕ) → IsReading framing (bodies.Chunked chunks) part came
    → ((text content : List ℕ) → TookText chunks text content → Holds (text ++ bytes) (readings.large content))
    → (more : List ℕ) → HoldsBody framing ((part ++ bytes) ++ more) (readings.large came)
large_in framings.None chunks part came bytes x says more = absurd x
large_in (framings.Length n) chunks part came bytes x says more = absurd x
large_in framings.Chunked chunks part came bytes x says more = settled_stays (part ++ bytes) more (readings.large came) (says part came x) tt

pub bad_chunk : (framing : Framing) (body : Body) (chunks : Chunks) (part came bytes : List ℕ) (at : ℕ) → body ≡ bodies.Chunked chunks → IsReading framing body part came
    → ((text content : List ℕ) → TookText chunks text content → Holds (text ++ bytes) (readings.bad content at))
    → (more : List ℕ) → HoldsBody framing ((part ++ bytes) ++ more) (readings.bad came at)
bad_chunk framing body chunks part came bytes at is x says more = bad_in framing chunks part came bytes at (subst (λ (b : Body). IsReading framing b part came) is x) says more

pub large_chunk : (framing : Framing) (body : Body) (chunks : Chunks) (part came bytes : List ℕ) → body ≡ bodies.Chunked chunks → IsReading framing body part came
    → ((text content : List ℕ) → TookText chunks text content → Holds (text ++ bytes) (readings.large content))
    → (more : List ℕ) → HoldsBody framing ((part ++ bytes) ++ more) (readings.large came)
large_chunk framing body chunks part came bytes is x says more = large_in framing chunks part came bytes (subst (λ (b : Body). IsReading framing b part came) is x) says more

-- the bytes of an open place are few
few_open : (place : Place) (bytes : List ℕ) → IsOpen place bytes → length bytes < 32768
unfolding line_limit
few_open stands.Line bytes x =
    let short : length bytes < 1024 = x.short in
    omega (arith, short)
few_open (stands.Inside left) bytes x = omega (arith, ap length x)
few_open stands.After bytes (inl e) = omega (arith, ap length e)
few_open stands.After bytes (inr e) = omega (arith, ap length e)
few_open (stands.Trailer taken) bytes x = omega (arith, x.1)
few_open stands.Done bytes x = absurd x

need_in : (framing : Framing) (chunks new : Chunks) (part came bytes : List ℕ) → IsReading framing (bodies.Chunked chunks) part came → new ≡ chunks
    → ((text content : List ℕ) → TookText chunks text content → IsOpen chunks.place bytes)
    → Reads framing part came bytes (bodies.Chunked new) steps.Need
need_in framings.None chunks new part came bytes x e says = absurd x
need_in (framings.Length n) chunks new part came bytes x e says = absurd x
need_in framings.Chunked chunks new part came bytes x e says =
    let open_there = says part came x in (
      subst (λ (c : Chunks). TookText c part came) (sym e) x,
      (chunks.place, bytes, record { prefix = part; parts = refl; reached = x.place }, open_there),
      few_open chunks.place bytes open_there,
    )

-- more bytes are needed, and few wait
pub need_more : (framing : Framing) (body : Body) (chunks new : Chunks) (part came bytes : List ℕ) → body ≡ bodies.Chunked chunks → IsReading framing body part came → new ≡ chunks
    → ((text content : List ℕ) → TookText chunks text content → IsOpen chunks.place bytes)
    → Reads framing part came bytes (bodies.Chunked new) steps.Need
need_more framing body chunks new part came bytes is x e says = need_in framing chunks new part came bytes (subst (λ (b : Body). IsReading framing b part came) is x) e says
