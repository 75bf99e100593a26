use Rattle.std.proofs.Common.{◌≡◌, ◌++◌}
use Rattle.disk_model.specs.Listed.{listed}
use Rattle.disk_model.proofs.ListedLemmas.{is_beside}
use Rattle.disk_model.proofs.memory.shelf.Shelf.names_beside.Given as goal

abbrev pub invariant-loop-key : goal.invariant-loop-key
invariant-loop-key l = l.names.items ++ listed (is_beside l.prefix) l.key-iterator ≡ listed (is_beside l.prefix) l.self.values.entries
