use Rattle.std.proofs.Common.{arith, ◌≤◌, length}
use Rattle.std.specs.List.{prefix_len}
use Rattle.nx_base.specs.Names.{is_name_byte}
use Rattle.nx_base.proofs.AsciiLemmas.{IsUtf8-from_name}
use Rattle.nx_base.proofs.name_rule.read_name.Goals as goal

pub unreachable-requires : goal.unreachable-requires
unreachable-requires c =
    let all : length c.args.text.now ≤ prefix_len is_name_byte c.args.text.now = omega arith in
    c.in-Err.ensures.cases.0 (IsUtf8-from_name c.args.text.now all)
