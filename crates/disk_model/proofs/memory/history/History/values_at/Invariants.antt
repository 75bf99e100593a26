use Rattle.std.proofs.Common.{◌≡◌, drop}
use Rattle.disk_model.specs.Past.{run, until, first_of}
use Rattle.disk_model.specs.Trail.{at_of}
use Rattle.disk_model.proofs.memory.history.History.values_at.Given as goal

-- what is left of the log leads from what was read so far to where all of it leads
abbrev pub invariant-loop-change : goal.invariant-loop-change
invariant-loop-change l =
    run l.name (until l.moment (drop l.change-index l.self.log.items)) (at_of l.trail)
    ≡ run l.name (until l.moment l.self.log.items) (first_of l.name l.self.files.items)
