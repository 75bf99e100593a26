use Rattle.tree_content.proofs.Changes.{before_or_after, contents_move}
use Rattle.tree_content.proofs.laws.contents_are_those_before_or_after.Goals as goal

pub returns : goal.returns
returns c = record { either = before_or_after; same = contents_move }
