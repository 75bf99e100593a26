use Rattle.tree_content.proofs.Images.{unmarking}
use Rattle.tree_content.proofs.laws.images_while_a_mark_is_taken_away.Goals as goal

pub returns : goal.returns
returns c = λ homes blob tree first now text ref settled. unmarking homes blob ref tree first now settled text
