use Rattle.std.proofs.Common.{◌≡◌, ◌++◌, ℕ, List, take, length, subst, sym, arith}
use Rattle.std.proofs.lemmas.Bool.{eqb-false}
use Rattle.httparse.specs.Ascii.{crlf_bytes}
use Rattle.http_chunks.specs.declared.place.Place.TheVariants.{After}
use Rattle.http_chunks.specs.Body.{AreChunks}
use Rattle.http_chunks.proofs.BodyLemmas.{whole_chunk, two_is}
use Rattle.http_chunks.proofs.StepLemmas.{place_of, total_of, taken_more}
use Rattle.http_chunks.proofs.chunks.Chunks.next_end.Goals as goal

pub returns-clause-says : goal.returns-clause-says
returns-clause-says c text content took =
    let bytes = c.args.bytes.now in
    let some = eqb-false (length bytes) 0 (sym c.if-is_empty.ensures) in
    let one = c.if-bytes-eq1.false in
    let part = place_of c.args.self.now After text content c.requires took in
    let end : take 2 bytes ≡ crlf_bytes = two_is bytes (omega arith) c.if-bytes-ne13.false c.if-bytes-ne10.false in
    record {
      place = subst (λ (u : List ℕ). AreChunks (text ++ u) content) (sym end) (whole_chunk text content part);
      at = taken_more text bytes c.args.self.now.at 2 took.at (omega arith);
      total = total_of c.args.self.now After text content c.requires took;
    }
