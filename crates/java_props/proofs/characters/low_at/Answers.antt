use Rattle.std.proofs.Common.{◌∙◌, sym}
use Rattle.java_props.proofs.Steps.{no_low_at_end}
use Rattle.java_props.proofs.characters.low_at.Goals as goal

pub returns-then-is_end-clause-piece : goal.returns-then-is_end-clause-piece
returns-then-is_end-clause-piece c = no_low_at_end c.args.bytes.now c.args.at (λ h. sym (c.is_end.ensures.here h) ∙ c.if-is_end.true)
