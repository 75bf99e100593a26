use Rattle.std.proofs.Common.{◌≡◌, ◌≤◌, ◌++◌, ◌+◌, ◌-◌, ℕ, take, length, get_or, subst, sym, arith}
use Rattle.http_chunks.specs.declared.place.Place.{Place}
use Rattle.http_chunks.specs.declared.place.Place.TheVariants.{Trailer}
use Rattle.http_chunks.specs.Trailers.{IsFirstFeed}
use Rattle.http_chunks.specs.Body.{IsBody}
use Rattle.http_chunks.specs.Places.{ReachesWith}
use Rattle.http_chunks.specs.Room.{left_at}
use Rattle.http_chunks.proofs.BodyLemmas.{one_trailer, last_trailer}
use Rattle.http_chunks.proofs.StepLemmas.{place_of, total_of, taken_more}
use Rattle.http_chunks.proofs.chunks.Chunks.next_trailer.Goals as goal
use Rattle.http_chunks.proofs.chunks.Chunks.next_trailer.Goals.{then-length-eq2, else-length-eq2}

pub returns-clause-says : goal.returns-clause-says
returns-clause-says c text content took =
    let bytes = c.args.bytes.now in
    let last = c.in-Some.last in
    let n : ℕ = last + 1 in
    let taken = c.args.taken in
    let had = place_of c.args.self.now (Trailer taken) text content c.requires took in
    let lf : IsFirstFeed bytes last = c.in-Some.ensures.some in
    let within : n ≤ length bytes = omega (arith, lf.within) in
    let total = total_of c.args.self.now (Trailer taken) text content c.requires took in
    record {
      place = elim c.if-length-eq2.branch [
        | then-length-eq2 w ↦
            let one : last ≡ 1 = omega (arith, w.if-length-eq2.true) in
            let ret : get_or bytes 0 0 ≡ 13 = subst (λ (k : ℕ). get_or bytes (k - 1) 0 ≡ 13) one c.if-bytes-last-ne13.false in
            let body = last_trailer text content bytes taken had (subst (IsFirstFeed bytes) one lf) ret (omega arith) in
            subst (λ (p : Place). ReachesWith p (text ++ take n bytes) content) (sym w.self-is)
            (subst (λ (k : ℕ). IsBody (text ++ take k bytes) content) (sym w.if-length-eq2.true) body)
        | else-length-eq2 w ↦
            let few = c.if-last-eq0.false in
            subst (λ (p : Place). ReachesWith p (text ++ take n bytes) content) (sym w.self-is)
            (one_trailer text content bytes taken last had lf (omega (arith, w.if-length-eq2.false)) c.if-bytes-last-ne13.false (omega arith))
      ];
      at = taken_more text bytes c.args.self.now.at n took.at within;
      total = elim c.if-length-eq2.branch [
        | then-length-eq2 w ↦ subst (λ (p : Place). c.args.self.now.total ≡ length content + left_at p) (sym w.self-is) total
        | else-length-eq2 w ↦ subst (λ (p : Place). c.args.self.now.total ≡ length content + left_at p) (sym w.self-is) total
      ];
    }
