use Rattle.std.proofs.Common.{ℕ, arith, sym, ap, take, length-take}
use Rattle.disk_model.proofs.Small.{small_all, small_limit_is}
use Rattle.disk_model.proofs.memory.disk.first_bytes.Goals as goal

pub returns-then-bytes-le-SMALL_LIMIT : goal.returns-then-bytes-le-SMALL_LIMIT
returns-then-bytes-le-SMALL_LIMIT c = small_all c.args.bytes.now c.if-bytes-le-SMALL_LIMIT.true

pub slice_bounds-result-end : goal.slice_bounds-result-end
slice_bounds-result-end c = omega (arith, length-take 65537 c.args.bytes.now)

pub returns : goal.returns
returns c = ap (λ (n : ℕ). take n c.args.bytes.now) (sym small_limit_is)
