use Rattle.http_heads.proofs.Appends.{nothing_scanned}
use Rattle.worked_rows.proofs.requests.next_head.Goals as goal

pub look_at-requires-clause-none_yet : goal.look_at-requires-clause-none_yet
look_at-requires-clause-none_yet c = nothing_scanned c.args.rest.now
