use Rattle.std.proofs.Common.{arith, ◌≤◌, ◌<◌, length}
use Rattle.std.proofs.lemmas.Bool.Decides.{nat_tests}
use Rattle.nx_base.specs.ContentTypes.{good_type_len}
use Rattle.nx_base.proofs.AsciiLemmas.{IsUtf8-from_printing, all-print}
use Rattle.nx_base.proofs.content_type.read_type.Goals as goal

pub unreachable-requires : goal.unreachable-requires
unreachable-requires c =
    let some : 0 < length c.args.text.now = grind (arith, nat_tests, c.if-is_empty.ensures) in
    let good : length c.args.text.now ≤ good_type_len c.args.text.now = omega (arith, c.good_len-good.ensures.value) in
    c.in-Err.ensures.cases.0 (IsUtf8-from_printing c.args.text.now (all-print c.args.text.now some good))
