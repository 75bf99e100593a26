use Rattle.disk_model.proofs.ListedLemmas.{file_name-is}
use Rattle.disk_model.proofs.memory.shelf.name_of.Goals as goal

pub returns-in-Ok : goal.returns-in-Ok
returns-in-Ok c = file_name-is c.args.key.now c.in-Ok.name c.in-Ok.ensures
