use Rattle.std.proofs.Common.{◌≡◌, ◌+◌, drop}
use Rattle.std.specs.List.{prefix_len}
use Rattle.nx_base.specs.Paths.{is_path_byte}
use Rattle.nx_base.proofs.path_rule.plain_len.Given as goal

abbrev pub invariant-loop-at : goal.invariant-loop-at
invariant-loop-at l = l.at + prefix_len is_path_byte (drop l.at l.text) ≡ prefix_len is_path_byte l.text
