use Rattle.std.proofs.Common.{sym, ◌∙◌}
use Rattle.disk_model.specs.Past.{first_of, now_of, lookup, tree_of}
use Rattle.disk_model.specs.Seen.{shown}
use Rattle.disk_model.proofs.Recorded.{now-run}
use Rattle.disk_model.proofs.ShelfLemmas.{same_value-eq}
use Rattle.disk_model.proofs.ListedLemmas.{listing-same}
use Rattle.disk_model.proofs.memory.history.History.list.Goals as goal

pub returns : goal.returns
returns c =
    let history = c.args.self.now in
    listing-same c.args.prefix.now (shown history.shelf) (tree_of history.files.items history.log.items) c.list.result
    (λ n. same_value-eq (shown history.shelf n) (now_of n history.log.items (lookup n history.files.items)) (history.tied n)
    ∙ sym (now-run n history.log.items (first_of n history.files.items)))
    c.list.ensures
