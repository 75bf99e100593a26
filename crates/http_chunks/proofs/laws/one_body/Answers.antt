use Rattle.http_chunks.proofs.OneReading.{one_body}
use Rattle.http_chunks.proofs.laws.one_body.Goals as goal

pub returns : goal.returns
returns c text other content wanted rest more a b e = one_body text other content wanted rest more a b e
