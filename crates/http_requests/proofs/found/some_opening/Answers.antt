use Rattle.std.proofs.Common.{subst, ◌∙◌}
use Rattle.std.proofs.lemmas.List.{take_rest}
use Rattle.http_requests.specs.Found.{HasPrefix}
use Rattle.http_requests.proofs.found.some_opening.Goals as goal

pub returns : goal.returns
returns c = subst HasPrefix (take_rest c.args.bytes.now c.blank_len-blank.result ∙ c.blank_len-blank.ensures.rest) c.some_prefix.ensures
