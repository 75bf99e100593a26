use Rattle.std.proofs.Common.{◌≡◌, [], ◌∷◌, ◌++◌, ◌∙◌}
use Rattle.nexrepo.specs.Statuses.{config_file}
use Rattle.nexrepo.proofs.Files.{name_is}
use Rattle.nexrepo.proofs.OneFile.{holds_text, holds_no_blob}
use Rattle.nexrepo.proofs.devices.disk_with.Goals as goal

pub returns-clause-config : goal.returns-clause-config
returns-clause-config c =
    let one : c.push.new.self.items ≡ (config_file, c.in-Ok-from_slice.text) ∷ [] =
    c.in-Ok-push.ensures.items ∙ (λ i. c.new-files.ensures.items i ++ (name_is config_file _ c.in-Ok.ensures i, c.in-Ok-from_slice.text) ∷ []) in
    holds_text c.new.result c.push.new.self.items c.in-Ok-from_slice.text c.new.ensures.tree one c.args.config.now (c.in-Ok-from_slice.ensures.items ∙ c.as_bytes.ensures.value)

pub returns-clause-empty : goal.returns-clause-empty
returns-clause-empty c =
    let one : c.push.new.self.items ≡ (config_file, c.in-Ok-from_slice.text) ∷ [] =
    c.in-Ok-push.ensures.items ∙ (λ i. c.new-files.ensures.items i ++ (name_is config_file _ c.in-Ok.ensures i, c.in-Ok-from_slice.text) ∷ []) in
    holds_no_blob c.new.result c.push.new.self.items c.in-Ok-from_slice.text c.new.ensures.tree one
