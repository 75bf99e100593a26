use Rattle.java_props.proofs.Points.{refusals_point}
use Rattle.java_props.proofs.laws.refusals_point_into_the_text.Goals as goal

pub returns : goal.returns
returns c = refusals_point
