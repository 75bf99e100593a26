use Rattle.std.proofs.Common.{arith}
use Rattle.std.proofs.lemmas.List.Sums.{prefix_len-le-length}
use Rattle.nx_base.specs.ContentTypes.{is_printing}
use Rattle.nx_base.proofs.content_type.good_len.Goals as goal

pub returns-in_default-3-clause-within : goal.returns-in_default-3-clause-within
returns-in_default-3-clause-within c = omega (arith, c.printing_len-printing.ensures, prefix_len-le-length is_printing c.args.text.now)
