use Rattle.std.proofs.Common.{◌∙◌, None, ap, List, ℕ, cond}
use Rattle.std.specs.Str.{bytes_eq}
use Rattle.disk_model.specs.Seen.{shown}
use Rattle.disk_model.proofs.ShelfLemmas.{updated}
use Rattle.disk_model.proofs.memory.shelf.Shelf.remove.Goals as goal

pub returns : goal.returns
returns c = λ n.
    updated c.as_str.result.now c.args.self.now.values c.remove.new.self None c.remove.ensures.updates n
    ∙ ap (λ (k : List ℕ). cond (bytes_eq n k) None (shown c.args.self.now n)) c.as_str.ensures.text
