use Rattle.std.proofs.Common.{◌≡◌, ◌+◌, drop}
use Rattle.std.specs.List.{prefix_len}
use Rattle.nx_base.specs.ContentTypes.{is_printing}
use Rattle.nx_base.proofs.content_type.printing_len.Given as goal

abbrev pub invariant-loop-at : goal.invariant-loop-at
invariant-loop-at l = l.at + prefix_len is_printing (drop l.at l.text) ≡ prefix_len is_printing l.text
