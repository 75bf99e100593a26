use Rattle.tree_content.proofs.Changes.{files_same, folders_same, tmp_same}
use Rattle.tree_content.proofs.laws.other_files_play_no_part.Goals as goal

pub returns : goal.returns
returns c = record { blobs = files_same; content = folders_same; tmp = tmp_same }
