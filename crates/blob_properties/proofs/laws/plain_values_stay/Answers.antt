use Rattle.blob_properties.proofs.Lengths.{plain-value}
use Rattle.blob_properties.proofs.laws.plain_values_stay.Goals as goal

pub returns : goal.returns
returns c = plain-value
