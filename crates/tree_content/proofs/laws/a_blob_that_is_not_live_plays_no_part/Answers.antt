use Rattle.tree_content.proofs.Changes.{kept}
use Rattle.tree_content.proofs.laws.a_blob_that_is_not_live_plays_no_part.Goals as goal

pub returns : goal.returns
returns c = λ homes blob old new ref rest. kept homes blob ref old new rest
