use Rattle.blob_properties.proofs.Lengths.{readable-prefix}
use Rattle.blob_properties.proofs.laws.the_prefix_is_enough.Goals as goal

pub returns : goal.returns
returns c = readable-prefix
