use Rattle.http_heads.proofs.Appends.{nothing_scanned}
use Rattle.http_heads.proofs.head.has_no_head.Goals as goal

pub head_len-requires-clause-none_yet : goal.head_len-requires-clause-none_yet
head_len-requires-clause-none_yet c = nothing_scanned c.args.text.now
