use Rattle.tree_content.proofs.Blobs.{absent_is_not_live, unreadable_is_not_live, marked_is_not_live, broken_is_not_live, stray_is_not_live}
use Rattle.tree_content.proofs.laws.these_are_not_live.Goals as goal

pub returns : goal.returns
returns c = record {
  absent = absent_is_not_live;
  unreadable = unreadable_is_not_live;
  marked = marked_is_not_live;
  broken = broken_is_not_live;
  stray = stray_is_not_live;
}
