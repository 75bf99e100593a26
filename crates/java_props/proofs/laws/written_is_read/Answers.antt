use Rattle.java_props.proofs.RoundTrip.{read_back}
use Rattle.java_props.proofs.laws.written_is_read.Goals as goal

pub returns : goal.returns
returns c = read_back
