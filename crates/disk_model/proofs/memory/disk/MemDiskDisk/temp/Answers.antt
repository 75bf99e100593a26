use Rattle.disk_model.proofs.Effects.{same_lists}
use Rattle.disk_model.proofs.memory.disk.MemDiskDisk.temp.Goals as goal

pub returns-in_err-tick-clause-crash : goal.returns-in_err-tick-clause-crash
returns-in_err-tick-clause-crash c = λ told. same_lists _ _ c.tick.ensures.crash

pub returns-in-Ok-clause-crash : goal.returns-in-Ok-clause-crash
returns-in-Ok-clause-crash c = λ told. same_lists _ _ c.tick.ensures.crash

pub returns-in-Err-clause-crash : goal.returns-in-Err-clause-crash
returns-in-Err-clause-crash c = λ told. same_lists _ _ c.tick.ensures.crash
