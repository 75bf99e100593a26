-- A reading under more bytes, and the reading that a reader comes to.
use Rattle.std.proofs.Common.{◌≡◌, ◌≢◌, ℕ, ◌-◌, ◌<◌, List, ◌++◌, length, get_or, refl, sym, ap, subst, ◌∙◌, arith, inl, inr, append_assoc, length-append}
use Rattle.std.proofs.lemmas.List.{append-nil, get_or_append_left}
use Rattle.http_chunks.specs.declared.place.Place.{Place}
use Rattle.http_chunks.specs.declared.place.Place.TheVariants.{Line, Inside, After, Trailer, Done}
use Rattle.http_chunks.specs.declared.chunks.Chunks.{Chunks}
use Rattle.http_chunks.specs.declared.chunk_step.ChunkStep.{ChunkStep}
use Rattle.http_chunks.specs.declared.chunk_step.ChunkStep.TheVariants.{Framing, Content, Need, End, BadChunk, BodyTooLarge}
use Rattle.http_chunks.specs.Trailers.{IsFirstFeed, IsBadTrailer}
use Rattle.http_chunks.specs.Places.{IsNoEnd, IsBad, IsTooLarge}
use Rattle.http_chunks.specs.Reading.{Reading, whole, bad, large, cut, Reaches, Holds, IsSettled, followed_by}
use Rattle.http_chunks.specs.Steps.{TookText, StepSays}
use Rattle.http_chunks.specs.Runs.{IsLastStep, Finishes, IsSaidBy}
use Rattle.http_chunks.proofs.LineLemmas.{line-append, bad_line-append}
use Rattle.http_chunks.proofs.OneReading.{one_reading}

other_byte : (bytes more : List ℕ) (k b : ℕ) → k < length bytes → get_or bytes k 0 ≢ b → get_or (bytes ++ more) k 0 ≢ b
other_byte bytes more k b lt ne e = ne (sym (get_or_append_left bytes more 0 k lt) ∙ e)

bad-append : (place : Place) (bytes more : List ℕ) (back : ℕ) → IsBad place bytes back → IsBad place (bytes ++ more) back
bad-append Line bytes more back b = (bad_line-append bytes more b.0, b.1)
bad-append (Inside left) bytes more back b = absurd b
bad-append After bytes more back b = (no_end b.0, b.1)
  where
    no_end : IsNoEnd bytes → IsNoEnd (bytes ++ more)
    no_end (inl some) = inl (omega (arith, some.0, length-append bytes more), other_byte bytes more 0 13 some.0 some.1)
    no_end (inr two) = inr (omega (arith, two.0, length-append bytes more), other_byte bytes more 1 10 two.0 two.1)
bad-append (Trailer taken) bytes more back b = (trailer b.0, b.1)
  where
    trailer : IsBadTrailer taken bytes → IsBadTrailer taken (bytes ++ more)
    trailer (inl bare) =
        let feed : IsFirstFeed bytes bare.0 = bare.1 in
        inl (
          bare.0,
          record {
            within = omega (arith, feed.within, length-append bytes more);
            is = get_or_append_left bytes more 0 bare.0 feed.within ∙ feed.is;
            first = λ j lt. other_byte bytes more j 10 (omega (arith, feed.within)) (feed.first j lt);
          },
          elim bare.2 [ inl none ↦ inl none | inr other ↦ inr (other_byte bytes more (bare.0 - 1) 13 (omega (arith, feed.within)) other) ],
        )
    trailer (inr long) = inr (omega (arith, long.0, length-append bytes more), λ j lt. other_byte bytes more j 10 (omega (arith, long.0)) (long.1 j lt))
bad-append Done bytes more back b = absurd b

too_large-append : (place : Place) (bytes more : List ℕ) (total : ℕ) → IsTooLarge place bytes total → IsTooLarge place (bytes ++ more) total
too_large-append Line bytes more total t = (t.0, t.1 ++ more, line-append bytes t.1 more t.0 t.2, t.3)
too_large-append (Inside left) bytes more total t = absurd t
too_large-append After bytes more total t = absurd t
too_large-append (Trailer taken) bytes more total t = absurd t
too_large-append Done bytes more total t = absurd t

reaches-append : (stream more content rest : List ℕ) (place : Place) → Reaches stream place content rest → Reaches (stream ++ more) place content (rest ++ more)
reaches-append stream more content rest place r = record {
  prefix = r.prefix;
  parts = ap (λ (t : List ℕ). t ++ more) r.parts ∙ append_assoc r.prefix rest more;
  reached = r.reached;
}

pub settled_stays : (stream more : List ℕ) (f : Reading) → Holds stream f → IsSettled f → Holds (stream ++ more) (followed_by more f)
settled_stays stream more (whole content rest) h s = reaches-append stream more content rest Done h
settled_stays stream more (bad content at) h s = (
  h.0,
  h.1 ++ more,
  h.2,
  reaches-append stream more content h.1 h.0 h.3,
  bad-append h.0 h.1 more h.2 h.4,
  omega (arith, h.5, length-append stream more, length-append h.1 more),
)
settled_stays stream more (large content) h s = (h.0, h.1 ++ more, reaches-append stream more content h.1 h.0 h.2, too_large-append h.0 h.1 more (length content) h.3)
settled_stays stream more (cut content) h s = absurd s

-- what the last step says of the stream
said : (stream text content bytes more : List ℕ) (old new : Chunks) (step : ChunkStep) → stream ≡ (text ++ bytes) ++ more → TookText old text content
    → StepSays text content bytes old.place new step → IsLastStep step more → (f : Reading) × Holds stream f × IsSaidBy f content step
said stream text content bytes more old new (Framing n) e took says last = absurd last
said stream text content bytes more old new (Content n) e took says last = absurd last
said stream text content bytes more old new Need e took says last =
    let reached : Reaches (text ++ bytes) old.place content bytes = record { prefix = text; parts = refl; reached = took.place } in
    let here : stream ≡ text ++ bytes = e ∙ ap (λ (m : List ℕ). (text ++ bytes) ++ m) last ∙ append-nil (text ++ bytes) in
    (cut content, subst (λ (s : List ℕ). Holds s (cut content)) (sym here) (old.place, bytes, reached, says), (refl, refl))
said stream text content bytes more old new End e took says last =
    (whole content (bytes ++ more), record { prefix = text; parts = e ∙ append_assoc text bytes more; reached = says }, (refl, refl))
said stream text content bytes more old new (BadChunk at) e took says last =
    (bad content at, subst (λ (s : List ℕ). Holds s (bad content at)) (sym e) (settled_stays (text ++ bytes) more (bad content at) says tt), (refl, refl))
said stream text content bytes more old new BodyTooLarge e took says last =
    (large content, subst (λ (s : List ℕ). Holds s (large content)) (sym e) (settled_stays (text ++ bytes) more (large content) says tt), (refl, refl))

pub said_as_read : (stream content : List ℕ) (step : ChunkStep) → Finishes stream content step → (f : Reading) × Holds stream f × IsSaidBy f content step
said_as_read stream content step f = said stream f.text content f.bytes f.more f.old f.new step f.parts f.took f.says f.ends

-- one reading is said by one step
said_unique : (f : Reading) (content other : List ℕ) (step last : ChunkStep) → IsSaidBy f content step → IsSaidBy f other last → (content ≡ other) × (step ≡ last)
said_unique (whole c r) content other step last a b = (a.0 ∙ sym b.0, a.1 ∙ sym b.1)
said_unique (bad c at) content other step last a b = (a.0 ∙ sym b.0, a.1 ∙ sym b.1)
said_unique (large c) content other step last a b = (a.0 ∙ sym b.0, a.1 ∙ sym b.1)
said_unique (cut c) content other step last a b = (a.0 ∙ sym b.0, a.1 ∙ sym b.1)

pub any_pieces : (stream content other : List ℕ) (step last : ChunkStep) → Finishes stream content step → Finishes stream other last → (content ≡ other) × (step ≡ last)
any_pieces stream content other step last a b =
    let p = said_as_read stream content step a in
    let q = said_as_read stream other last b in
    let same = one_reading stream p.0 q.0 p.1 q.1 in
    said_unique p.0 content other step last p.2 (subst (λ (f : Reading). IsSaidBy f other last) (sym same) q.2)
