use Rattle.std.proofs.Common.{◌≡◌, ◌+◌, drop}
use Rattle.std.specs.List.{prefix_len}
use Rattle.nx_base.specs.Names.{is_name_byte}
use Rattle.nx_base.proofs.name_rule.name_len.Given as goal

abbrev pub invariant-loop-at : goal.invariant-loop-at
invariant-loop-at l = l.at + prefix_len is_name_byte (drop l.at l.text) ≡ prefix_len is_name_byte l.text
