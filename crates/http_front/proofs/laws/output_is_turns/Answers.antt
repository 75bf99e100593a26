-- The one-thread repository makes turns.
use Rattle.http_front.proofs.OutputTurns.{output_turns}
use Rattle.http_front.proofs.laws.output_is_turns.Goals as goal

pub returns : goal.returns
returns c = λ setting n number s k qs served. output_turns qs setting n number s k served
