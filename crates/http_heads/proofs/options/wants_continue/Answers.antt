use Rattle.std.proofs.Common.{◌∙◌}
use Rattle.http_heads.proofs.HeadParts.{wants_continue-first, wants_continue-none}
use Rattle.http_heads.proofs.options.wants_continue.Goals as goal

pub returns-in-Some : goal.returns-in-Some
returns-in-Some c = c.same_word.ensures ∙ wants_continue-first _ c.in-Some.text.now c.in-Some.ensures

pub returns-in-None : goal.returns-in-None
returns-in-None c = wants_continue-none _ c.in-None.ensures
