use Rattle.std.proofs.Common.{◌≡◌}
use Rattle.std.specs.FinMap.{entries}
use Rattle.std.specs.Option.{option_map}
use Rattle.repo_model.specs.Notes.{oldest}
use Rattle.repo_model.proofs.Oldest.{oldest_from}
use Rattle.raw_repos.proofs.notes.oldest_note.Given as goal

-- the best so far and those that are left have the same oldest
abbrev pub invariant-loop-key : goal.invariant-loop-key
invariant-loop-key l = oldest_from (option_map (λ best. (best.0.now, best.1)) l.best) l.key-iterator ≡ oldest (entries l.notes)
