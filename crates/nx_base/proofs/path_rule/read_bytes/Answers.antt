use Rattle.std.proofs.Common.{◌≡◌, ◌∙◌, sym, arith, length}
use Rattle.std.specs.List.{prefix_len}
use Rattle.std.proofs.lemmas.List.Sums.{prefix_len-le-length}
use Rattle.nx_base.specs.Paths.{is_path_byte}
use Rattle.nx_base.proofs.PathLemmas.{good_len-utf8}
use Rattle.nx_base.proofs.path_rule.read_bytes.Goals as goal

pub returns-then-plain-text-clause-good : goal.returns-then-plain-text-clause-good
returns-then-plain-text-clause-good c =
    c.plain_len-plain.ensures ∙ good_len-utf8 c.args.text.now c.in-Ok.ensures.cases.1

pub returns-else-plain-text-clause-good : goal.returns-else-plain-text-clause-good
returns-else-plain-text-clause-good c =
    let all : prefix_len is_path_byte c.args.text.now ≡ length c.args.text.now =
    omega (arith, c.plain_len-plain.ensures, prefix_len-le-length is_path_byte c.args.text.now) in
    (c.in-Ok.ensures.cases.0, sym (good_len-utf8 c.args.text.now c.in-Ok.ensures.cases.1) ∙ all)
