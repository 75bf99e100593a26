use Rattle.std.proofs.Common.{◌∙◌, ◌++◌, ◌∷◌, [], ap, List}
use Rattle.disk_model.specs.declared.memory.change.Change.{Change}
use Rattle.disk_model.specs.Past.{lookup}
use Rattle.disk_model.specs.Seen.{shown}
use Rattle.disk_model.proofs.ShelfLemmas.{tied_more}
use Rattle.disk_model.proofs.memory.history.History.add.Goals as goal

pub invariant_of-self-2 : goal.invariant_of-self-2
invariant_of-self-2 c =
    let history = c.args.self.now in
    let pushed = c.push_reserved.ensures.items ∙ ap (λ (log : List Change). log ++ c.args.change ∷ []) c.reserve.ensures.items in
    record {
      tied = λ n. tied_more (shown history.shelf n) (shown c.follow.new.self n) (lookup n history.files.items) n history.log.items
          c.push_reserved.new.self.items c.args.change pushed (c.in_ok-follow.ensures.done n) (history.tied n);
    }
