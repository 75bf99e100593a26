use Rattle.std.proofs.Common.{sym, arith}
use Rattle.std.proofs.lemmas.List.{length-take-le, take_all}
use Rattle.http_chunks.specs.Lines.{line_limit}
use Rattle.http_chunks.proofs.size_line.prefix.Goals as goal

pub slice_bounds-result-end : goal.slice_bounds-result-end
slice_bounds-result-end c = sym (length-take-le 1024 c.args.bytes.now (omega arith))

pub returns-else-bytes-gt-LINE_LIMIT : goal.returns-else-bytes-gt-LINE_LIMIT
unfolding line_limit
returns-else-bytes-gt-LINE_LIMIT c = sym (take_all 1024 c.args.bytes.now (omega arith))
