use Rattle.std.proofs.Common.{◌≡◌, ℕ, List, sym, subst, ◌⊎◌}
use Rattle.repo_config.specs.declared.config_err.ConfigErr.TheVariants as refused
use Rattle.repo_config.specs.Reading.{Configures, IsRefused}
use Rattle.nexrepo.specs.declared.status.Status.{Status}
use Rattle.nexrepo.specs.Opening.{IsOpenRefusal}
use Rattle.nexrepo.specs.Statuses.{config_file}
use Rattle.nexrepo.proofs.Files.{file_gives, refused_as}
use Rattle.nexrepo.proofs.opening.read_config.Goals as goal

pub returns-in-Ok-clause-given : goal.returns-in-Ok-clause-given
returns-in-Ok-clause-given g c = λ told.
    file_gives (g.D.Disk.tree c.args.disk.now config_file) c.in-Some.text.items c.in-Ok.config (rw c.in-Some.is at (c.in_ok-text.ensures.text told))
    (subst (λ (b : List ℕ). Configures b c.in-Ok.config) c.deref.ensures.value c.in-Ok.ensures.ok)

pub returns-clause-why : goal.returns-clause-why
returns-clause-why g c =
    subst (λ (s : Status). IsOpenRefusal g.D.Disk.told (g.D.Disk.tree c.args.disk.now config_file) (g.D.Disk.faults c.args.disk.now) (g.D.Disk.faults c.read_text.new.disk) s) (sym c.refused.ensures)
    (refused_as g.D.Disk.told (g.D.Disk.tree c.args.disk.now config_file) c.in-Some.text.items (g.D.Disk.faults c.args.disk.now) (g.D.Disk.faults c.read_text.new.disk) c.in-Err.why
    (λ told. rw c.in-Some.is at (c.in_ok-text.ensures.text told))
    (subst (λ (b : List ℕ). (c.in-Err.why ≡ refused.NoMemory) ⊎ IsRefused b c.in-Err.why) c.deref.ensures.value c.in-Err.ensures.err))
