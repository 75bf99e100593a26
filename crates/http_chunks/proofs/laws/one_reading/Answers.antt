use Rattle.http_chunks.proofs.OneReading.{one_reading}
use Rattle.http_chunks.proofs.laws.one_reading.Goals as goal

pub returns : goal.returns
returns c stream a b x y = one_reading stream a b x y
