use Rattle.http_chunks.proofs.FoundLemmas.{last_of, ends_reading}
use Rattle.http_chunks.proofs.found.take_next.Goals as goal

pub returns-in_default : goal.returns-in_default
returns-in_default c = record {
  some = tt;
  none = ends_reading c.args.chunks.now c.next.new.self c.args.bytes.now c.next.result (last_of c.next.result c.in_default.not-Framing c.in_default.not-Content) c.next.ensures.says;
}
