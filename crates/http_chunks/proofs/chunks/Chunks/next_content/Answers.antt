use Rattle.std.proofs.Common.{◌≡◌, ◌++◌, ◌+◌, ◌-◌, ◌≤◌, ◌<◌, ℕ, take, length, length-append, subst, sym, arith}
use Rattle.std.proofs.lemmas.Bool.{eqb-false}
use Rattle.std.proofs.lemmas.List.{length-take-le}
use Rattle.http_chunks.specs.declared.place.Place.{Place}
use Rattle.http_chunks.specs.declared.place.Place.TheVariants.{Inside}
use Rattle.http_chunks.specs.Body.{IsPart}
use Rattle.http_chunks.specs.Places.{ReachesWith}
use Rattle.http_chunks.specs.Room.{ahead_at, left_at}
use Rattle.http_chunks.proofs.BodyLemmas.{more_content}
use Rattle.http_chunks.proofs.StepLemmas.{place_of, total_of, taken_more}
use Rattle.http_chunks.proofs.chunks.Chunks.next_content.Goals as goal
use Rattle.http_chunks.proofs.chunks.Chunks.next_content.Goals.{then-rest-eq0, else-rest-eq0}

pub returns-clause-within : goal.returns-clause-within
returns-clause-within c =
    let some : 0 < c.args.left = subst (λ (p : Place). 0 < ahead_at p) c.requires c.args.self.now.some in
    let there = eqb-false (length c.args.bytes.now) 0 (sym c.if-is_empty.ensures) in
    (omega (arith, c.min-length.ensures), omega (arith, c.min-length.ensures))

pub returns-clause-says : goal.returns-clause-says
returns-clause-says c text content took =
    let bytes = c.args.bytes.now in
    let n = c.min-length.result in
    let place = c.if-rest-eq0.self in
    let had = place_of c.args.self.now (Inside c.args.left) text content c.requires took in
    let total = total_of c.args.self.now (Inside c.args.left) text content c.requires took in
    let fits : n ≤ c.args.left = omega (arith, c.min-length.ensures) in
    let within : n ≤ length bytes = omega (arith, c.min-length.ensures) in
    let part : IsPart (c.args.left - n) (text ++ take n bytes) (content ++ take n bytes) = more_content text content bytes c.args.left n had.0 fits within in
    record {
      place = elim c.if-rest-eq0.branch [
        | then-rest-eq0 w ↦
            subst (λ (p : Place). ReachesWith p (text ++ take n bytes) (content ++ take n bytes)) (sym w.self-is)
            (subst (λ (left : ℕ). IsPart left (text ++ take n bytes) (content ++ take n bytes)) w.if-rest-eq0.true part)
        | else-rest-eq0 w ↦
            subst (λ (p : Place). ReachesWith p (text ++ take n bytes) (content ++ take n bytes)) (sym w.self-is) (part, omega (arith, w.if-rest-eq0.false))
      ];
      at = taken_more text bytes c.args.self.now.at n took.at within;
      total = elim c.if-rest-eq0.branch [
        | then-rest-eq0 w ↦
            subst (λ (p : Place). c.args.self.now.total ≡ length (content ++ take n bytes) + left_at p) (sym w.self-is)
            (omega (arith, total, w.if-rest-eq0.true, length-append content (take n bytes), length-take-le n bytes within))
        | else-rest-eq0 w ↦
            subst (λ (p : Place). c.args.self.now.total ≡ length (content ++ take n bytes) + left_at p) (sym w.self-is)
            (omega (arith, total, length-append content (take n bytes), length-take-le n bytes within))
      ];
    }
