use Rattle.blob_properties.proofs.Numbers.{number_is}
use Rattle.blob_properties.proofs.values.number.Goals as goal

pub returns-clause-value : goal.returns-clause-value
returns-clause-value c = number_is c.bounded.result c.args.most c.args.end c.args.text.now c.bounded.ensures
