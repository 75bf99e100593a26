use Rattle.tree_content.proofs.VerdictLemmas.{some_verdict, one_verdict, intact_is}
use Rattle.tree_content.proofs.laws.a_blob_has_one_verdict.Goals as goal

pub returns : goal.returns
returns c = record { some = λ tree blob is. some_verdict tree blob is.1.0 is.1.1; one = one_verdict; intact = intact_is }
