use Rattle.std.proofs.Common.{◌≡◌, ℕ, List, drop}
use Rattle.disk_model.specs.Past.{lookup, lists_of}
use Rattle.disk_model.specs.Picked.{picked, or_else}
use Rattle.disk_model.proofs.memory.disk.MemDisk.crash.Given as goal

-- the files so far, and what is left of the number for the names that are left, give what all of it picks
abbrev pub invariant-loop-name : goal.invariant-loop-name
invariant-loop-name l = (n : List ℕ)
    → or_else (lookup n l.files.items) (picked (lists_of l.self.history.files.items l.self.history.log.items l.self.calls) (drop l.name-index l.name-items) l.left n)
    ≡ picked (lists_of l.self.history.files.items l.self.history.log.items l.self.calls) l.name-items l.pick n
