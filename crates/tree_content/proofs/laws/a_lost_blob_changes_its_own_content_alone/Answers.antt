use Rattle.tree_content.proofs.Changes.{lost, next, nothing_left, given_up, forgotten}
use Rattle.tree_content.proofs.laws.a_lost_blob_changes_its_own_content_alone.Goals as goal

pub returns : goal.returns
returns c = record {
  either = λ homes blob old new ref rest. lost homes blob ref old new rest;
  next = λ homes blob old new key content props ref rest after. next homes blob ref old new rest after key content props;
  none = λ homes blob old new key ref rest after. nothing_left homes blob ref old new rest after key;
  only = λ homes blob old new props ref rest. given_up homes blob ref old new rest props;
  unnamed = λ homes blob old new ref rest. forgotten homes blob ref old new rest;
}
