use Rattle.std.proofs.Common.{◌≡◌, ◌∙◌, Some, ap, List, ℕ, cond}
use Rattle.std.specs.String.{string_bytes}
use Rattle.std.specs.Str.{bytes_eq}
use Rattle.disk_model.specs.Seen.{shown}
use Rattle.disk_model.proofs.ShelfLemmas.{updated}
use Rattle.disk_model.proofs.memory.shelf.Shelf.put.Goals as goal

pub returns-in-Ok-insert-clause-put : goal.returns-in-Ok-insert-clause-put
returns-in-Ok-insert-clause-put c = λ n.
    let key : string_bytes c.in-Ok.key ≡ c.args.name.now = c.in-Ok.ensures.ok ∙ c.as_str.ensures.text in
    updated (string_bytes c.in-Ok.key) c.args.self.now.values c.insert.new.self (Some c.args.bytes) c.in-Ok-insert.ensures.updates n
    ∙ ap (λ (k : List ℕ). cond (bytes_eq n k) (Some c.args.bytes.items) (shown c.args.self.now n)) key
