use Rattle.std.proofs.Common.{◌∙◌, ap, drop, arith, length}
use Rattle.http_session.proofs.Buffers.{taken, held_len}
use Rattle.http_session.proofs.buffer.Buffer.take.Goals as goal

pub returns : goal.returns
returns c =
    let b = c.self.inside in
    let len = ap length c.self.view_is in
    taken b.bytes.items b.start b.end c.args.count (omega (arith, c.requires, c.self.invariant.0, len, held_len b.bytes.items b.start b.end c.self.invariant.0 (omega (arith, c.self.invariant.1, c.self.invariant.2))))
    ∙ ap (drop c.args.count) c.self.view_is
