use Rattle.tree_content.proofs.Images.{marking, marking_only, marking_unnamed}
use Rattle.tree_content.proofs.laws.images_while_a_blob_is_marked.Goals as goal

pub returns : goal.returns
returns c = record {
  either = λ homes blob tree first now text ref settled. marking homes blob ref tree first now settled text;
  only = λ homes blob tree first now text props ref settled marked reads alone. marking_only homes blob ref tree first now settled text props reads alone marked;
  unnamed = λ homes blob tree first now text ref settled marked unnamed. marking_unnamed homes blob ref tree first now settled text unnamed marked;
}
