use Rattle.std.proofs.Common.{◌≡◌, length}
use Rattle.disk_model.specs.Past.{lookup}
use Rattle.disk_model.proofs.memory.history.first_file.Given as goal

abbrev pub invariant-loop-rest : goal.invariant-loop-rest
invariant-loop-rest l = lookup l.name l.rest ≡ lookup l.name l.files

abbrev pub decreases-loop-rest : goal.decreases-loop-rest
decreases-loop-rest l = length l.rest
