use Rattle.std.proofs.Common.{◌≤◌, length, take, map}
use Rattle.httparse.specs.Spans.{header_bytes}
use Rattle.http_header.specs.HeaderMap.{value_count}
use Rattle.http_heads.specs.Kept.{KeepsFields}
use Rattle.http_heads.proofs.kept.keep.Given as goal

abbrev pub invariant-loop-field : goal.invariant-loop-field
invariant-loop-field l = record {
  names : length l.kept ≤ l.field-index;
  values : value_count l.kept ≤ l.field-index;
  keeps : KeepsFields l.kept (map (header_bytes l.text) (take l.field-index l.fields));
}
