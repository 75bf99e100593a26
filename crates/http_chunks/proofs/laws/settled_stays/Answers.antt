use Rattle.http_chunks.proofs.MoreBytes.{settled_stays}
use Rattle.http_chunks.proofs.laws.settled_stays.Goals as goal

pub returns : goal.returns
returns c stream more reading holds settled = settled_stays stream more reading holds settled
