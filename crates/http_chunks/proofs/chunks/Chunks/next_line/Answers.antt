use Rattle.std.proofs.Common.{◌++◌, ℕ, take, subst, sym, arith}
use Rattle.http_chunks.specs.declared.place.Place.TheVariants.{Line}
use Rattle.http_chunks.specs.Body.{IsPart}
use Rattle.http_chunks.proofs.BodyLemmas.{into_chunk, into_trailer}
use Rattle.http_chunks.proofs.StepLemmas.{place_of, total_of, taken_more, large_at}
use Rattle.http_chunks.proofs.chunks.Chunks.next_line.Goals as goal

pub returns-then-size-self-clause-says : goal.returns-then-size-self-clause-says
returns-then-size-self-clause-says c text content took =
    let line = c.in-Line.ensures.line in
    let total = total_of c.args.self.now Line text content c.requires took in
    large_at text content c.args.bytes.now _ line.0 (place_of c.args.self.now Line text content c.requires took) line.1 (omega (arith, total, line.3))

pub returns-then-size-eq0-clause-says : goal.returns-then-size-eq0-clause-says
returns-then-size-eq0-clause-says c text content took =
    let bytes = c.args.bytes.now in
    let line = c.in-Line.ensures.line in
    record {
      place = into_trailer text content bytes c.in-Line.length line.0 (place_of c.args.self.now Line text content c.requires took) line.1 line.2 (omega (arith, line.3));
      at = taken_more text bytes c.args.self.now.at c.in-Line.length took.at c.in-Line.ensures.within.2;
      total = total_of c.args.self.now Line text content c.requires took;
    }

pub returns-else-size-eq0-clause-says : goal.returns-else-size-eq0-clause-says
returns-else-size-eq0-clause-says c text content took =
    let bytes = c.args.bytes.now in
    let n = c.in-Line.length in
    let line = c.in-Line.ensures.line in
    let total = total_of c.args.self.now Line text content c.requires took in
    let chunks = place_of c.args.self.now Line text content c.requires took in
    let part = into_chunk text content bytes n line.0 chunks line.1 line.2 (omega (arith, line.3)) (omega (arith, line.3, total, c.args.self.now.small)) in
    record {
      place = (subst (λ (size : ℕ). IsPart size (text ++ take n bytes) content) (sym line.3) part, omega arith);
      at = taken_more text bytes c.args.self.now.at n took.at c.in-Line.ensures.within.2;
      total = omega (arith, total);
    }
