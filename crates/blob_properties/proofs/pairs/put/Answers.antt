use Rattle.std.proofs.Common.{◌≡◌, ◌≤◌, ◌+◌, length, ap, subst, sym, arith}
use Rattle.java_props.specs.Kept.{Entries}
use Rattle.blob_properties.proofs.Puts.{length-put}
use Rattle.blob_properties.proofs.pairs.put.Goals as goal

pub returns-in-Ok-clause-room : goal.returns-in-Ok-clause-room
returns-in-Ok-clause-room c = subst (λ (e : Entries). length e ≤ length c.args.pairs.now + 1) (sym c.in-Ok.ensures.ok) (length-put c.args.key.now c.args.value.now c.args.pairs.now)
