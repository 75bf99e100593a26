use Rattle.std.specs.String.{string_bytes}
use Rattle.nx_base.proofs.ReadsItself.{content_type_of-same}
use Rattle.nx_base.proofs.content_type.ContentType.as_bytes.Goals as goal

pub returns-clause-reads : goal.returns-clause-reads
returns-clause-reads c = rw c.self.view_is at (content_type_of-same (string_bytes c.self.inside.text) c.self.invariant)
