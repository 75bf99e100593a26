use Rattle.http_chunks.proofs.MoreBytes.{said_as_read}
use Rattle.http_chunks.proofs.laws.said_as_read.Goals as goal

pub returns : goal.returns
returns c stream content step finishes = said_as_read stream content step finishes
