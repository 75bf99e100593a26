use Rattle.std.proofs.Common.{◌≡◌, ◌≤◌, ℕ, List, drop, length}
use Rattle.disk_model.specs.Past.{lookup}
use Rattle.disk_model.specs.Seen.{shown}
use Rattle.disk_model.proofs.memory.history.shelved.Given as goal

abbrev pub invariant-loop-left : goal.invariant-loop-left
invariant-loop-left l = record {
  within : l.left ≤ length l.files;
  shelved : (n : List ℕ) → shown l.shelf n ≡ lookup n (drop l.left l.files);
}

abbrev pub decreases-loop-left : goal.decreases-loop-left
decreases-loop-left l = l.left
