use Rattle.std.proofs.Common.{◌≡◌, ◌⊎◌, ◌∙◌, Some, rules}
use Rattle.repo_config.specs.declared.config_err.ConfigErr.TheVariants.{NoMemory}
use Rattle.repo_config.specs.Refusals.{key_refusal, test_keys}
use Rattle.repo_config.proofs.Firsts.{passes_at, told_at}
use Rattle.repo_config.proofs.checks.test_keys.Goals as goal

pub returns-in_err-test_key : goal.returns-in_err-test_key
returns-in_err-test_key c =
    let why = c.in_err-test_key.field-0.0 in
    let told : (why ≡ NoMemory) ⊎ (test_keys c.args.pairs.now ≡ Some why) = told_at (key_refusal c.args.pairs.now) c.args.pairs.now c.loop-at.at (c.in-Some.key.now, c.in-Some.value.now) why c.in-Some.ensures.value c.loop-at.invariant c.in_err-test_key.ensures in
    search (rules, told)

pub loop-at-preserved : goal.loop-at-preserved
loop-at-preserved c =
    c.loop-at.invariant ∙ passes_at (key_refusal c.args.pairs.now) c.args.pairs.now c.loop-at.at (c.in-Some.key.now, c.in-Some.value.now) c.in-Some.ensures.value c.in_ok-test_key.ensures
