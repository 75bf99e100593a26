-- Which refusals are faults of the device.
use Rattle.std.specs.Prelude.{⊤}
use Rattle.asset_keeper.specs.declared.keep_err.KeepErr.{KeepErr}
use Rattle.asset_keeper.specs.declared.keep_err.KeepErr.TheVariants as keep

abbrev pub IsFault : KeepErr → Type 0
IsFault keep.Failed = ⊤
IsFault keep.NoMemory = ⊥
