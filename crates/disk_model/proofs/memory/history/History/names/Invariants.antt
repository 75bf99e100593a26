use Rattle.std.proofs.Common.{◌≡◌, ◌||◌, ℕ, List, take}
use Rattle.std.specs.Prelude.{is_some}
use Rattle.disk_model.specs.Seen.{shown}
use Rattle.disk_model.proofs.PickLemmas.{has_file, has_change}
use Rattle.disk_model.proofs.memory.history.History.names.Given as goal

-- the names so far are those of the files so far
abbrev pub invariant-loop-file : goal.invariant-loop-file
invariant-loop-file l = (n : List ℕ) → is_some (shown l.shelf n) ≡ has_file n (take l.file-index l.self.files.items)

-- and those of the changes so far
abbrev pub invariant-loop-change : goal.invariant-loop-change
invariant-loop-change l = (n : List ℕ) → is_some (shown l.shelf n) ≡ (has_file n l.self.files.items || has_change n (take l.change-index l.self.log.items))
