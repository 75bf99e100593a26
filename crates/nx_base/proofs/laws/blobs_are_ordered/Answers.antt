use Rattle.nx_base.proofs.Orders.{age_cmp_total, exact_blobs}
use Rattle.nx_base.proofs.laws.blobs_are_ordered.Goals as goal

pub returns : goal.returns
returns c = record { total = age_cmp_total; exact = exact_blobs }
