-- The rows of turns.
use Rattle.http_front.proofs.WorkedTurns as rows
use Rattle.http_front.proofs.laws.turn_rows_hold.Goals as goal

pub returns : goal.returns
returns c = record {
  put_then_get = rows.put_then_get;
  refused_put = rows.refused_put;
  full_put = rows.full_put;
  refused_head = rows.refused_head;
  cut_put = rows.cut_put;
  stopped_put = rows.stopped_put;
  only_uploads_stop = rows.only_uploads_stop;
  only_open_uploads_stop = rows.only_open_uploads_stop;
}
