use Rattle.nx_base.proofs.Orders.{key_cmp_total, exact_keys}
use Rattle.nx_base.proofs.laws.keys_are_ordered.Goals as goal

pub returns : goal.returns
returns c = record { total = key_cmp_total; exact = exact_keys }
