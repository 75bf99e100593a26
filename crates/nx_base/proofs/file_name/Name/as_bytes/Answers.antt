use Rattle.std.specs.String.{string_bytes}
use Rattle.nx_base.proofs.ReadsItself.{file_name_of-same}
use Rattle.nx_base.proofs.file_name.Name.as_bytes.Goals as goal

pub returns-clause-reads : goal.returns-clause-reads
returns-clause-reads c = rw c.self.view_is at (file_name_of-same (string_bytes c.self.inside.text) c.self.invariant)
