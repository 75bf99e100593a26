use Rattle.std.proofs.Common.{◌∙◌, sym, ap, cond, Some, None, Bool, arith}
use Rattle.repo_config.proofs.Numbers.{number_said-decimal, number_said-none}
use Rattle.repo_config.proofs.values.number_said.Goals as goal

pub returns-then-is_between : goal.returns-then-is_between
returns-then-is_between c =
    ap (λ (b : Bool). cond b (Some c.in-Some.n) None) c.if-is_between.ensures
    ∙ sym (number_said-decimal c.args.least c.args.most c.in-Some.n c.args.value.now c.in-Some.ensures.small c.in-Some.ensures.reads)

pub returns-else-is_between : goal.returns-else-is_between
returns-else-is_between c =
    ap (λ (b : Bool). cond b (Some c.in-Some.n) None) c.if-is_between.ensures
    ∙ sym (number_said-decimal c.args.least c.args.most c.in-Some.n c.args.value.now c.in-Some.ensures.small c.in-Some.ensures.reads)

pub returns-in-None : goal.returns-in-None
returns-in-None c = sym (number_said-none c.args.least c.args.most c.args.value.now (omega arith) c.in-None.ensures.reads)
