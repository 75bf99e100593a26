use Rattle.tree_content.proofs.Images.{marked_or_gone, erasing}
use Rattle.tree_content.proofs.laws.images_while_a_blob_is_erased.Goals as goal

pub returns : goal.returns
returns c = record {
  gone = marked_or_gone;
  contents = λ homes blob tree first now ref. erasing homes blob ref tree first now;
}
