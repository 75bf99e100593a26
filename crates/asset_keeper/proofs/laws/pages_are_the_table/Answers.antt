use Rattle.std.specs.Prelude.{None}
use Rattle.asset_keeper.proofs.Reading.{pages_join}
use Rattle.asset_keeper.proofs.laws.pages_are_the_table.Goals as goal

pub returns : goal.returns
returns c = λ n t pages some read. pages_join n None t pages read
