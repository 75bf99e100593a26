use Rattle.std.proofs.Common.{sym, ◌∙◌}
use Rattle.disk_model.specs.Past.{first_of, now_of, lookup}
use Rattle.disk_model.specs.Seen.{shown}
use Rattle.disk_model.proofs.Recorded.{now-run}
use Rattle.disk_model.proofs.ShelfLemmas.{same_value-eq}
use Rattle.disk_model.proofs.memory.history.History.find.Goals as goal

pub returns : goal.returns
returns c =
    let name = c.args.name.now in
    let history = c.args.self.now in
    c.get.ensures
    ∙ same_value-eq (shown history.shelf name) (now_of name history.log.items (lookup name history.files.items)) (history.tied name)
    ∙ sym (now-run name history.log.items (first_of name history.files.items))
