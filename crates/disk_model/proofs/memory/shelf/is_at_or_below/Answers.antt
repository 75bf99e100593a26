use Rattle.std.proofs.Common.{sym, ◌∙◌}
use Rattle.disk_model.proofs.ListedLemmas.{stripped, not_stripped, ends_here-empty, ends_here-next}
use Rattle.disk_model.proofs.memory.shelf.is_at_or_below.Goals as goal

pub returns-in-Some-empty : goal.returns-in-Some-empty
returns-in-Some-empty c =
    let rest = c.in-Some-empty.field-0.now in
    sym (stripped c.args.prefix.now c.args.name.now rest c.in-Some-empty.ensures.cases.0 c.in-Some-empty.ensures.cases.1 ∙ ends_here-empty rest c.in-Some-empty.len_below)

pub returns-in-Some-len1-up : goal.returns-in-Some-len1-up
returns-in-Some-len1-up c =
    let rest = c.in-Some-len1-up.field-0.now in
    sym (stripped c.args.prefix.now c.args.name.now rest c.in-Some-len1-up.ensures.cases.0 c.in-Some-len1-up.ensures.cases.1 ∙ ends_here-next rest c.in-Some-len1-up.len_at_least)

pub returns-in-None : goal.returns-in-None
returns-in-None c = sym (not_stripped c.args.prefix.now c.args.name.now c.in-None.ensures.cases)
