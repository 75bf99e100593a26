use Rattle.raw_repos.proofs.NoteLemmas.{none_within}
use Rattle.raw_repos.proofs.notes.Notes.new.Goals as goal

pub invariant_of-result : goal.invariant_of-result
invariant_of-result c = none_within c.new.result c.new.ensures
