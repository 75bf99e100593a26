use Rattle.tree_content.proofs.Changes.{one_content}
use Rattle.tree_content.proofs.Newest.{newest_content}
use Rattle.tree_content.proofs.laws.a_key_has_one_content.Goals as goal

pub returns : goal.returns
returns c = record { newest = newest_content; one = one_content }
