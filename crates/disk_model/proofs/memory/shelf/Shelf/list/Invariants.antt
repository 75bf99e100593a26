use Rattle.std.proofs.Common.{◌≡◌, ◌++◌}
use Rattle.disk_model.specs.Listed.{listed, is_at_or_below}
use Rattle.disk_model.proofs.memory.shelf.Shelf.list.Given as goal

abbrev pub invariant-loop-key : goal.invariant-loop-key
invariant-loop-key l = l.names.items ++ listed (is_at_or_below l.prefix) l.key-iterator ≡ listed (is_at_or_below l.prefix) l.self.values.entries
