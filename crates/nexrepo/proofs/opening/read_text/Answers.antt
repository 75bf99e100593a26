use Rattle.std.proofs.Common.{◌≡◌, List, ℕ, take, subst}
use Rattle.std.specs.Option.{option_map}
use Rattle.disk_model.specs.Disk.{small_limit}
use Rattle.nexrepo.specs.Statuses.{config_file}
use Rattle.nexrepo.proofs.Files.{name_is}
use Rattle.nexrepo.proofs.opening.read_text.Goals as goal

pub returns-in-Ok-read_small-clause-text : goal.returns-in-Ok-read_small-clause-text
returns-in-Ok-read_small-clause-text g c = λ told.
    subst (λ (name : List ℕ). option_map (λ v. v.items) c.in-Ok-read_small.text ≡ option_map (λ bytes. take small_limit bytes) (g.D.Disk.tree c.args.disk.now name)) (name_is config_file _ c.in-Ok.ensures)
    (c.in-Ok-read_small.ensures.bytes told)
