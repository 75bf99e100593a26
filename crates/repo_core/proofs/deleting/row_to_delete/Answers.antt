use Rattle.std.proofs.Common.{rules, ◌≡◌, [], true, false, not, Option, Some, None, refl, sym, ◌∙◌, ap, is_some, subst}
use Rattle.nx_base.specs.Given.{given}
use Rattle.nx_base.specs.declared.policy.Policy.TheVariants.{ReadOnly}
use Rattle.repo_model.specs.declared.call.Call.TheVariants as call
use Rattle.repo_core.specs.declared.denial.Denial.TheVariants as denial
use Rattle.repo_model.specs.declared.reply.Fault.{Fault}
use Rattle.repo_model.specs.Config.{Repo, repo_of}
use Rattle.repo_model.specs.Writing.{bars_delete}
use Rattle.repo_model.specs.Plain.{config_of}
use Rattle.repo_core.specs.Faults.{refusal_of_fault}
use Rattle.repo_core.specs.Why.{WhyNotDeleted}
use Rattle.repo_core.proofs.Steps.{denies_by, unknown, closed, absent, found}
use Rattle.repo_core.proofs.Tables.{row_told}
use Rattle.repo_core.proofs.Whys.{asked_delete}
use Rattle.repo_core.proofs.deleting.row_to_delete.Goals as goal

pub returns-in_default-clause-row : goal.returns-in_default-clause-row
returns-in_default-clause-row g c = λ told s sound rows_are.
    let config = config_of c.args.config.now in
    let none : repo_of config c.args.key.now.repo ≡ None = search rules in
    denies_by config s [] (call.Delete c.args.key.now c.args.now) denial.UnknownRepo (unknown config s c.args.key.now c.args.now sound none)

pub returns-then-bars_delete-clause-row : goal.returns-then-bars_delete-clause-row
returns-then-bars_delete-clause-row g c = λ told s sound rows_are.
    let config = config_of c.args.config.now in
    let some : repo_of config c.args.key.now.repo ≡ Some c.in-Some.repo.now = search rules in
    let shut : bars_delete c.in-Some.repo.now ≡ true = search rules in
    denies_by config s [] (call.Delete c.args.key.now c.args.now) (denial.WriteDenied ReadOnly) (closed config s c.args.key.now c.args.now sound c.in-Some.repo.now some shut)

pub returns-in-Ok-Some-clause-row : goal.returns-in-Ok-Some-clause-row
returns-in-Ok-Some-clause-row g c = λ told s sound rows_are.
    let config = config_of c.args.config.now in
    let key = c.args.key.now in
    let some : repo_of config key.repo ≡ Some c.in-Some.repo.now = search rules in
    let opened : bars_delete c.in-Some.repo.now ≡ false = search rules in
    let row = row_told _ _ s.rows key c.in-Ok-Some.field-0 told c.in-Ok-Some.ensures.told rows_are ∙ c.in-Ok-Some.field-0-is in
    (row, found config s key c.args.now sound c.in-Some.repo.now c.in-Ok-Some.asset some opened row)

pub returns-in-Ok-None-clause-row : goal.returns-in-Ok-None-clause-row
returns-in-Ok-None-clause-row g c = λ told s sound rows_are.
    let config = config_of c.args.config.now in
    let key = c.args.key.now in
    let some : repo_of config key.repo ≡ Some c.in-Some.repo.now = search rules in
    let opened : bars_delete c.in-Some.repo.now ≡ false = search rules in
    let row = row_told _ _ s.rows key c.in-Ok-None.field-0 told c.in-Ok-None.ensures.told rows_are ∙ c.in-Ok-None.field-0-is in
    denies_by config s [] (call.Delete c.args.key.now c.args.now) denial.NotFound (absent config s key c.args.now sound c.in-Some.repo.now some opened row)

pub returns-then-bars_delete-clause-why : goal.returns-then-bars_delete-clause-why
returns-then-bars_delete-clause-why g c =
    let config = config_of c.args.config.now in
    let some : repo_of config c.args.key.now.repo ≡ Some c.in-Some.repo.now = search rules in
    let shut : bars_delete c.in-Some.repo.now ≡ true = search rules in
    (refl, ap (λ (o : Option Repo). given o false bars_delete) some ∙ shut)

pub returns-in-Ok-Some-clause-opens : goal.returns-in-Ok-Some-clause-opens
returns-in-Ok-Some-clause-opens g c =
    let config = config_of c.args.config.now in
    let some : repo_of config c.args.key.now.repo ≡ Some c.in-Some.repo.now = search rules in
    let opened : bars_delete c.in-Some.repo.now ≡ false = search rules in (
      ap (λ (o : Option Repo). given o false (λ (repo : Repo). not (bars_delete repo))) some ∙ ap not opened,
      c.in-Ok-Some.ensures.answer ∙ ap is_some c.in-Ok-Some.field-0-is,
    )

pub returns-in-Ok-None-clause-why : goal.returns-in-Ok-None-clause-why
returns-in-Ok-None-clause-why g c =
    let config = config_of c.args.config.now in
    let some : repo_of config c.args.key.now.repo ≡ Some c.in-Some.repo.now = search rules in
    let opened : bars_delete c.in-Some.repo.now ≡ false = search rules in (
      ap (λ (o : Option Repo). given o false (λ (repo : Repo). not (bars_delete repo))) some ∙ ap not opened,
      c.in-Ok-None.ensures.answer ∙ ap is_some c.in-Ok-None.field-0-is,
    )

pub returns-in-Err-clause-why : goal.returns-in-Err-clause-why
returns-in-Err-clause-why g c =
    let config = config_of c.args.config.now in
    let some : repo_of config c.args.key.now.repo ≡ Some c.in-Some.repo.now = search rules in
    let opened : bars_delete c.in-Some.repo.now ≡ false = search rules in
    subst (λ (w : Fault). WhyNotDeleted config c.args.key.now (g.T.Keeper.found c.get.new.self) (refusal_of_fault w)) (sym c.keeper_fault.ensures)
    (asked_delete config c.args.key.now (g.T.Keeper.found c.get.new.self) (ap (λ (o : Option Repo). given o false (λ (repo : Repo). not (bars_delete repo))) some ∙ ap not opened) c.in-Err.refusal)
