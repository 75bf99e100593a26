use Rattle.disk_model.proofs.Effects.{same_lists}
use Rattle.disk_model.proofs.memory.disk.MemDiskDisk.discard.Goals as goal

pub returns-clause-crash : goal.returns-clause-crash
returns-clause-crash c = λ told. same_lists _ _ c.skip.ensures.crash
