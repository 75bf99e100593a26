use Rattle.tree_content.proofs.Images.{creating}
use Rattle.tree_content.proofs.laws.images_while_a_blob_is_created.Goals as goal

pub returns : goal.returns
returns c = λ homes blob tree first now bytes text ref settled. creating homes blob ref tree first now settled bytes text
