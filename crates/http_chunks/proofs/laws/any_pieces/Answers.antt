use Rattle.http_chunks.proofs.MoreBytes.{any_pieces}
use Rattle.http_chunks.proofs.laws.any_pieces.Goals as goal

pub returns : goal.returns
returns c stream content other step last a b = any_pieces stream content other step last a b
