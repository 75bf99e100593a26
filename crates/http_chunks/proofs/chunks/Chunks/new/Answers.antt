use Rattle.std.proofs.Common.{refl}
use Rattle.http_chunks.proofs.BodyLemmas.{none_yet}
use Rattle.http_chunks.proofs.chunks.Chunks.new.Goals as goal

pub returns : goal.returns
returns c = record { place = none_yet; at = refl; total = refl }
