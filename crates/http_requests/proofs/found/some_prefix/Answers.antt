use Rattle.std.proofs.Common.{◌≤◌, min, length, take, drop, sym, ap, subst, ◌∙◌, arith}
use Rattle.std.proofs.lemmas.List.{take_rest}
use Rattle.http_heads.specs.Cut.{head_limit}
use Rattle.http_heads.proofs.Appends.{nothing_scanned}
use Rattle.http_heads.proofs.Limits.{head_limit_is}
use Rattle.http_chunks.specs.Found.{HasReading}
use Rattle.http_requests.proofs.Firsts.{first_head}
use Rattle.http_requests.proofs.FoundHeads.{some_head, no_head}
use Rattle.http_requests.proofs.found.some_prefix.Goals as goal

pub head_len-requires-clause-none_yet : goal.head_len-requires-clause-none_yet
head_len-requires-clause-none_yet c = nothing_scanned (take c.min.result c.args.bytes.now)

pub returns-in_default : goal.returns-in_default
returns-in_default c =
    let bytes = c.args.bytes.now in
    no_head bytes c.min.result (c.min.ensures ∙ ap (min (length bytes)) (sym head_limit_is)) c.in_default.ensures.none

pub returns : goal.returns
returns c =
    let bytes = c.args.bytes.now in
    let n = c.in-Some.len in
    let few : c.min.result ≤ head_limit = omega (arith, c.min.ensures, head_limit_is) in
    some_head bytes (take n bytes) (drop n bytes) (first_head bytes c.min.result n few c.in-Some.ensures.found) c.some_answer.ensures (subst HasReading (take_rest bytes n) c.some_reading.ensures)
