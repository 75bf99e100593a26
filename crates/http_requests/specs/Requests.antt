-- The requests that a stream of bytes holds.
use Rattle.std.specs.Prelude.{◌≡◌, ℕ, ◌⊎◌, Bool, true, false, List, [], ◌∷◌}
use Rattle.http_heads.specs.declared.head.Head.{Head}
use Rattle.http_heads.specs.declared.head_err.HeadErr.{HeadErr}
use Rattle.http_heads.specs.declared.body_err.BodyErr.{BodyErr}
use Rattle.http_heads.specs.declared.body_err.BodyErr.TheVariants.{BadChunk, BodyTooLarge}
use Rattle.http_heads.specs.Cut.{drop_blank}
use Rattle.http_chunks.specs.Reading as readings
use Rattle.http_chunks.specs.Reading.{Reading}
use Rattle.http_requests.specs.Heads.{Accepts, IsRefused, EndsInHead, merged_cause}
use Rattle.http_requests.specs.Bodies.{HoldsBody}

-- A request of a stream. Its head is refused, and its bytes begin with `HEAD ` or not; it is whole, with its content; its
-- content is refused behind so much of it; or the stream ends in its content, of which this came.
pub data Item : Type 0 where
  refused : HeadErr → Bool → Item
  whole : Head → List ℕ → Item
  stopped : Head → List ℕ → BodyErr → Item
  cut : Head → List ℕ → Item

-- a refused content, as it is read
abbrev pub stop_of : List ℕ → BodyErr → Reading
stop_of content (BadChunk at) = readings.bad content at
stop_of content BodyTooLarge = readings.large content

-- an accepted head is in front, and what follows it is so read
pub record Asks (bytes : List ℕ) (head : Head) (reading : Reading) : Type 0 where
  pub body : List ℕ
  pub accepts : Accepts bytes head body
  pub holds : HoldsBody head.framing body reading

-- The stream holds these requests, up to the first that ends the session, and ends inside a request or not.
abbrev pub AreRequests : List ℕ → List Item → Bool → Type 0
AreRequests bytes [] true = EndsInHead (drop_blank bytes)
AreRequests bytes [] false = drop_blank bytes ≡ []
AreRequests bytes (refused why bare ∷ items) inside = IsRefused (drop_blank bytes) why bare × (items ≡ []) × (inside ≡ false)
AreRequests bytes (whole head content ∷ items) inside =
    (rest : List ℕ) × Asks (drop_blank bytes) head (readings.whole content rest)
    × (((head.closes ≡ false) × AreRequests rest items inside) ⊎ ((head.closes ≡ true) × (items ≡ []) × (inside ≡ false)))
AreRequests bytes (stopped head content why ∷ items) inside =
    Asks (drop_blank bytes) head (stop_of content why) × (items ≡ []) × (inside ≡ false)
AreRequests bytes (cut head content ∷ items) inside =
    Asks (drop_blank bytes) head (readings.cut content) × (items ≡ []) × (inside ≡ true)

-- the item, with one name for the two causes of a head that is none
abbrev pub merged : Item → Item
merged (refused why bare) = refused (merged_cause why) bare
merged (whole head content) = whole head content
merged (stopped head content why) = stopped head content why
merged (cut head content) = cut head content
