use Rattle.std.specs.String.{string_bytes}
use Rattle.nx_base.proofs.ReadsItself.{path_of-same}
use Rattle.nx_base.proofs.asset_path.AssetPath.as_str.Goals as goal

pub returns-clause-reads : goal.returns-clause-reads
returns-clause-reads c = rw c.self.view_is at (path_of-same (string_bytes c.self.inside.text) c.self.invariant)
