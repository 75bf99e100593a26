use Rattle.std.proofs.Common.{rules, ◌≡◌, ℕ, List, true, false, Option, Some, None, is_some, unwrap_or, sym, subst, ◌∙◌, ap}
use Rattle.std.specs.FinMap as map
use Rattle.nx_base.specs.Given.{given}
use Rattle.nx_base.specs.Fills.{chosen}
use Rattle.repo_model.specs.Config.{Repo, repo_of, group_of, write_store, is_no_redeploy}
use Rattle.repo_model.specs.Writing.{bars_put, count_of}
use Rattle.repo_model.specs.Plain.{config_of}
use Rattle.repo_core.specs.declared.choosing.Chosen.{Chosen}
use Rattle.repo_core.specs.Puts.{MayGo}
use Rattle.repo_core.proofs.BeginSteps.{not_declared, barred, none_writable}
use Rattle.repo_core.proofs.Choices.{chosen_may_go, may_put_by, store_by}
use Rattle.repo_core.proofs.choosing.choose_store.Goals as goal

pub returns-in_default-clause-row : goal.returns-in_default-clause-row
returns-in_default-clause-row c = λ s sound counts.
    let config = config_of c.args.config.now in
    let none : repo_of config c.args.begin.now.key.repo ≡ None = search rules in
    not_declared config s c.args.begin.now sound c.requires none

pub returns-then-is_barred-clause-row : goal.returns-then-is_barred-clause-row
returns-then-is_barred-clause-row c = λ s sound counts.
    let config = config_of c.args.config.now in
    let some : repo_of config c.args.begin.now.key.repo ≡ Some c.in-Some.repo.now = search rules in
    let shut : bars_put c.in-Some.repo.now ≡ true = search rules in
    barred config s c.args.begin.now sound c.requires c.in-Some.repo.now some shut

pub returns-in_default-choose-clause-row : goal.returns-in_default-choose-clause-row
returns-in_default-choose-clause-row c = λ s sound counts.
    let config = config_of c.args.config.now in
    let repo = c.in-Some.repo.now in
    let some : repo_of config c.args.begin.now.key.repo ≡ Some repo = search rules in
    let opened : bars_put repo ≡ false = search rules in
    let none : chosen (group_of config repo) (count_of s (write_store repo)) ≡ None = search rules in
    none_writable config s c.args.begin.now sound c.requires repo some opened none

pub returns-in-Ok-clause-may_go : goal.returns-in-Ok-clause-may_go
returns-in-Ok-clause-may_go c =
    let config = config_of c.args.config.now in
    let key = c.args.begin.now.key in
    let repo = c.in-Some.repo.now in
    let store = c.in-Some-choose.store.now in
    let some : repo_of config key.repo ≡ Some repo = search rules in
    let found : chosen (group_of config repo) c.unwrap_or-count.result ≡ Some store = search rules in
    let is : c.in-Ok.chosen ≡ record { store = store; copy = store; group = repo.store; count = c.unwrap_or-count.result; policy = repo.policy } = c.in-Ok.ensures in
    subst (λ (x : Chosen). MayGo config key x.store) (sym is) (chosen_may_go config key store c.unwrap_or-count.result repo some found)

pub returns-then-is_barred-clause-why : goal.returns-then-is_barred-clause-why
returns-then-is_barred-clause-why c = λ found.
    let config = config_of c.args.config.now in
    let some : repo_of config c.args.begin.now.key.repo ≡ Some c.in-Some.repo.now = search rules in
    let shut : bars_put c.in-Some.repo.now ≡ true = search rules in
    ap (λ (o : Option Repo). given o false bars_put) some ∙ shut

pub returns-in_default-choose-clause-why : goal.returns-in_default-choose-clause-why
returns-in_default-choose-clause-why c = λ found.
    let config = config_of c.args.config.now in
    let key = c.args.begin.now.key in
    let counts = c.args.own.now.counts in
    let repo = c.in-Some.repo.now in
    let some : repo_of config key.repo ≡ Some repo = search rules in
    let opened : bars_put repo ≡ false = search rules in
    let none : chosen (group_of config repo) (unwrap_or (map.get counts (write_store repo)) 0) ≡ None = search rules in
    (may_put_by config key repo some opened, store_by config counts key repo some None none)

pub returns-in-Ok-clause-opens : goal.returns-in-Ok-clause-opens
returns-in-Ok-clause-opens c =
    let config = config_of c.args.config.now in
    let key = c.args.begin.now.key in
    let counts = c.args.own.now.counts in
    let repo = c.in-Some.repo.now in
    let store = c.in-Some-choose.store.now in
    let some : repo_of config key.repo ≡ Some repo = search rules in
    let opened : bars_put repo ≡ false = search rules in
    let found : chosen (group_of config repo) (unwrap_or (map.get counts (write_store repo)) 0) ≡ Some store = search rules in
    let is : c.in-Ok.chosen ≡ record { store = store; copy = store; group = repo.store; count = c.unwrap_or-count.result; policy = repo.policy } = c.in-Ok.ensures in (
      may_put_by config key repo some opened,
      ap (λ (o : Option (List ℕ)). is_some o) (store_by config counts key repo some (Some store) found),
      ap (λ (o : Option Repo). given o false (λ (r : Repo). is_no_redeploy r.policy)) some ∙ ap (λ (x : Chosen). is_no_redeploy x.policy) (sym is),
    )

pub returns-in-Err-clause-why : goal.returns-in-Err-clause-why
returns-in-Err-clause-why c = λ found.
    let config = config_of c.args.config.now in
    let key = c.args.begin.now.key in
    let counts = c.args.own.now.counts in
    let repo = c.in-Some.repo.now in
    let store = c.in-Some-choose.store.now in
    let some : repo_of config key.repo ≡ Some repo = search rules in
    let opened : bars_put repo ≡ false = search rules in
    let found : chosen (group_of config repo) (unwrap_or (map.get counts (write_store repo)) 0) ≡ Some store = search rules in
    (may_put_by config key repo some opened, ap (λ (o : Option (List ℕ)). is_some o) (store_by config counts key repo some (Some store) found))

pub returns-in-Ok-clause-group : goal.returns-in-Ok-clause-group
returns-in-Ok-clause-group c =
    let config = config_of c.args.config.now in
    let key = c.args.begin.now.key in
    let counts = c.args.own.now.counts in
    let repo = c.in-Some.repo.now in
    let store = c.in-Some-choose.store.now in
    let some : repo_of config key.repo ≡ Some repo = search rules in
    let count : c.unwrap_or-count.result ≡ unwrap_or (map.get counts (write_store repo)) 0 = search rules in
    let is : c.in-Ok.chosen ≡ record { store = store; copy = store; group = repo.store; count = c.unwrap_or-count.result; policy = repo.policy } = c.in-Ok.ensures in
    (repo, some, ap (λ (x : Chosen). x.group) is, ap (λ (x : Chosen). x.count) is ∙ count)
