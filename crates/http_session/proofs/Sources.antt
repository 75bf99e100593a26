-- A source that gave no bytes.
use Rattle.std.proofs.Common.{◌≡◌, ℕ, ◌<◌, Bool, true, cond, ltb, eqb, arith}
use Rattle.std.proofs.lemmas.Bool.Decides.{nat_tests}

-- it tells its end
pub told_end : (size n : ℕ) (old new : Bool) → new ≡ cond (ltb 0 size) (eqb n 0) old → n ≡ 0 → 0 < size → new ≡ true
told_end size n old new h z some = grind (arith, nat_tests)
