use Rattle.std.specs.String.{string_bytes}
use Rattle.nx_base.proofs.ReadsItself.{store_name_of-same}
use Rattle.nx_base.proofs.store_name.StoreName.as_bytes.Goals as goal

pub returns-clause-reads : goal.returns-clause-reads
returns-clause-reads c = rw c.self.view_is at (store_name_of-same (string_bytes c.self.inside.text) c.self.invariant)
