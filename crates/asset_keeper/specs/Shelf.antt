-- What a keeper in memory holds.
use Rattle.std.specs.Prelude.{ℕ, List}
use Rattle.std.specs.FinMap.{from_entries}
use Rattle.asset_keeper.specs.declared.map_keeper.MapKeeper.{MapKeeper}
use Rattle.asset_keeper.specs.Table.{Table}
use Rattle.asset_keeper.specs.Plan.{Plan}

abbrev pub table_in : MapKeeper → Table
table_in keeper = record { rows = from_entries keeper.rows.entries; generation = keeper.generation }

-- the numbers of the calls that it fails, and how many calls there were, which stands still at 2 ^ 64 - 1
abbrev pub failing_of : MapKeeper → List ℕ
failing_of keeper = keeper.failing.items

abbrev pub calls_of : MapKeeper → ℕ
calls_of keeper = keeper.calls

abbrev pub faults_of : MapKeeper → ℕ
faults_of keeper = keeper.faults

abbrev pub changes_of : MapKeeper → ℕ
changes_of keeper = keeper.changes

abbrev pub plan_in : MapKeeper → Plan
plan_in keeper = record { failing = failing_of keeper; calls = calls_of keeper }
