use Rattle.tree_content.proofs.Naming.{named_contents, its_files, lost_names, first_names, replaced_names}
use Rattle.tree_content.proofs.laws.contents_and_live_blobs_name_each_other.Goals as goal

pub returns : goal.returns
returns c = record {
  contents = named_contents;
  only = λ homes contents tree key content names. its_files homes contents tree names key content;
  lost = λ homes contents old new key content. lost_names homes contents old new key content;
  first = λ homes contents blob old new key props. first_names homes contents old new key blob props;
  replaced = replaced_names;
}
