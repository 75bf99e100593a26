use Rattle.tree_content.proofs.Changes.{gained_text, newest_timestamp, gained_beside}
use Rattle.tree_content.proofs.laws.a_new_blob_is_one_keys_content.Goals as goal

pub returns : goal.returns
returns c = record {
  either = λ homes blob old new text ref rest. gained_text homes blob ref old new rest text;
  newest = λ homes blob old new key props ref rest. newest_timestamp homes blob ref old new rest key props;
  beside = λ homes blob old new props ref rest. gained_beside homes blob ref old new rest props;
}
