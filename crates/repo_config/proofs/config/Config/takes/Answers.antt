use Rattle.std.proofs.Common.{◌∙◌, ap, sym, Some, None}
use Rattle.std.specs.Option.{option_copied}
use Rattle.repo_config.specs.Settings.{Repository}
use Rattle.repo_config.proofs.Model.{taken_by}
use Rattle.repo_config.proofs.config.Config.takes.Goals as goal

pub returns-in-Some-group : goal.returns-in-Some-group
returns-in-Some-group c =
    c.takes.ensures
    ∙ sym (taken_by c.args.self.now c.args.repo.now c.in-Some.name c.args.store.now (Some c.in-Some-group.group.now)
    (ap (λ (r : Repository). r.store) (sym c.repo.view_is) ∙ c.in-Some.is) (ap option_copied (sym c.in-Some-group.is) ∙ c.group.ensures))

pub returns-in-None : goal.returns-in-None
returns-in-None c =
    sym (taken_by c.args.self.now c.args.repo.now c.in-Some.name c.args.store.now None
    (ap (λ (r : Repository). r.store) (sym c.repo.view_is) ∙ c.in-Some.is) (ap option_copied (sym c.in-None.is) ∙ c.group.ensures))
