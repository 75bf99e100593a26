use Rattle.std.proofs.Common.{rules, ◌≡◌, [], Option, Some, None, is_some, sym, ◌∙◌, ap, subst}
use Rattle.repo_model.specs.declared.call.Call.TheVariants as call
use Rattle.repo_model.specs.declared.call.RemoteSaid.TheVariants as remote
use Rattle.repo_model.specs.declared.reply.Fault.{Fault}
use Rattle.repo_model.specs.Config.{Repo, repo_of}
use Rattle.repo_model.specs.Plain.{config_of}
use Rattle.repo_core.specs.declared.denial.Denial.TheVariants as denial
use Rattle.repo_core.specs.Faults.{refusal_of_fault}
use Rattle.repo_core.specs.Why.{WhyNotGiven}
use Rattle.repo_core.proofs.Steps.{denies_by}
use Rattle.repo_core.proofs.Lookings.{look_unknown, look_absent, look_found}
use Rattle.repo_core.proofs.Tables.{row_told}
use Rattle.repo_core.proofs.Whys.{asked_get}
use Rattle.repo_core.proofs.getting.row_to_give.Goals as goal

pub returns-in_default-clause-row : goal.returns-in_default-clause-row
returns-in_default-clause-row g c = λ told s l moment sound rows_are.
    let config = config_of c.args.config.now in
    let none : repo_of config c.args.key.now.repo ≡ None = search rules in
    denies_by config s [] (call.Get c.args.key.now l moment remote.NotAsked) denial.UnknownRepo (look_unknown config s c.args.key.now l moment sound c.requires.hosted none)

pub returns-in-Ok-Some-clause-row : goal.returns-in-Ok-Some-clause-row
returns-in-Ok-Some-clause-row g c = λ told s l moment sound rows_are.
    let config = config_of c.args.config.now in
    let key = c.args.key.now in
    let some : repo_of config key.repo ≡ Some c.in-Some._repo.now = search rules in
    let row = row_told _ _ s.rows key c.in-Ok-Some.field-0 told c.in-Ok-Some.ensures.told rows_are ∙ c.in-Ok-Some.field-0-is in
    (row, look_found config s key l moment sound c.requires.hosted c.in-Some._repo.now c.in-Ok-Some.asset some row)

pub returns-in-Ok-None-clause-row : goal.returns-in-Ok-None-clause-row
returns-in-Ok-None-clause-row g c = λ told s l moment sound rows_are.
    let config = config_of c.args.config.now in
    let key = c.args.key.now in
    let some : repo_of config key.repo ≡ Some c.in-Some._repo.now = search rules in
    let row = row_told _ _ s.rows key c.in-Ok-None.field-0 told c.in-Ok-None.ensures.told rows_are ∙ c.in-Ok-None.field-0-is in
    denies_by config s [] (call.Get c.args.key.now l moment remote.NotAsked) denial.NotFound (look_absent config s key l moment sound c.requires.hosted c.in-Some._repo.now some row)

pub returns-in-Ok-Some-clause-opens : goal.returns-in-Ok-Some-clause-opens
returns-in-Ok-Some-clause-opens g c =
    let config = config_of c.args.config.now in
    let some : repo_of config c.args.key.now.repo ≡ Some c.in-Some._repo.now = search rules in
    (ap (λ (o : Option Repo). is_some o) some, c.in-Ok-Some.ensures.answer ∙ ap is_some c.in-Ok-Some.field-0-is)

pub returns-in-Ok-None-clause-why : goal.returns-in-Ok-None-clause-why
returns-in-Ok-None-clause-why g c = λ look looked.
    let config = config_of c.args.config.now in
    let some : repo_of config c.args.key.now.repo ≡ Some c.in-Some._repo.now = search rules in
    (ap (λ (o : Option Repo). is_some o) some, c.in-Ok-None.ensures.answer ∙ ap is_some c.in-Ok-None.field-0-is)

pub returns-in-Err-clause-why : goal.returns-in-Err-clause-why
returns-in-Err-clause-why g c = λ look looked.
    let config = config_of c.args.config.now in
    let some : repo_of config c.args.key.now.repo ≡ Some c.in-Some._repo.now = search rules in
    subst (λ (w : Fault). WhyNotGiven config c.args.key.now look (g.T.Keeper.found c.get.new.self) looked (refusal_of_fault w)) (sym c.keeper_fault.ensures)
    (asked_get config c.args.key.now look (g.T.Keeper.found c.get.new.self) looked (ap (λ (o : Option Repo). is_some o) some) c.in-Err.refusal)
