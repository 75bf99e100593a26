use Rattle.std.proofs.Common.{refl}
use Rattle.std.proofs.lemmas.Bool.{false≢true}
use Rattle.http_heads.proofs.ReadLemmas.{some_answer, too_long_answer}
use Rattle.http_heads.proofs.answered.some_answer.Goals as goal

pub returns-then-is_too_long : goal.returns-then-is_too_long
returns-then-is_too_long c = too_long_answer c.args.text.now (c.if-is_too_long.ensures.0 refl)

pub returns : goal.returns
returns c = some_answer c.args.text.now c.parse_head-parse.new.fields c.parse_head-parse.result (λ long. false≢true (c.if-is_too_long.ensures.1 long)) c.parse_head-parse.ensures
