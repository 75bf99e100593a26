use Rattle.std.proofs.Common.{ℕ, List, take, subst, inl, arith}
use Rattle.httparse.specs.Grammar.{HasNoChunkLine, NeverHasChunkLine, MayBecomeChunkLine}
use Rattle.httparse.specs.Spans.{IsChunkLineAt}
use Rattle.http_chunks.specs.Lines.{line_limit}
use Rattle.http_chunks.proofs.LineLemmas.{line_from_prefix, length-line, bad_from_never, open_from_prefix}
use Rattle.http_chunks.proofs.size_line.size_line.Goals as goal

pub returns-in-Ok-Complete : goal.returns-in-Ok-Complete
returns-in-Ok-Complete c =
    let found = rw c.in-Ok-Complete.field-0-is at c.in-Ok-Complete.ensures.complete in
    let n = c.in-Ok-Complete.length in
    let size = c.in-Ok-Complete.size in
    let at : IsChunkLineAt (take line_limit c.args.bytes.now) n size found.0 = subst (λ (t : List ℕ). IsChunkLineAt t n size found.0) c.prefix.ensures found.1 in
    let line = line_from_prefix c.args.bytes.now n size found.0 at in
    let long = length-line c.args.bytes.now _ found.0 line.0 in
    record {
      line = (found.0, line.0, line.1, line.2);
      within = (omega (arith, line.1, long.0), omega (arith, line.1, long.1), omega (arith, line.1, long.2));
    }

pub returns-then-bytes-lt-LINE_LIMIT : goal.returns-then-bytes-lt-LINE_LIMIT
unfolding line_limit
returns-then-bytes-lt-LINE_LIMIT c =
    let none = rw c.in-Ok-Partial.field-0-is at c.in-Ok-Partial.ensures.partial in
    let may = rw c.in-Ok-Partial.field-0-is at c.in-Ok-Partial.ensures.unfinished in
    record {
      line = open_from_prefix c.args.bytes.now c.if-bytes-lt-LINE_LIMIT.true (subst HasNoChunkLine c.prefix.ensures none) (subst MayBecomeChunkLine c.prefix.ensures may);
      within = tt;
    }

pub returns-else-bytes-lt-LINE_LIMIT : goal.returns-else-bytes-lt-LINE_LIMIT
unfolding line_limit
returns-else-bytes-lt-LINE_LIMIT c =
    let none = rw c.in-Ok-Partial.field-0-is at c.in-Ok-Partial.ensures.partial in
    record {
      line = (subst HasNoChunkLine c.prefix.ensures none, inl c.if-bytes-lt-LINE_LIMIT.false);
      within = tt;
    }

pub returns-in-Err : goal.returns-in-Err
returns-in-Err c = record { line = bad_from_never c.args.bytes.now (subst NeverHasChunkLine c.prefix.ensures c.in-Err.ensures.invalid); within = tt }
