use Rattle.std.proofs.Common.{arith}
use Rattle.repo_core.proofs.staging.see_bytes.Goals as goal

pub returns : goal.returns
returns c = λ at. let fits = c.type_inv.bytes at in omega (arith, fits)
