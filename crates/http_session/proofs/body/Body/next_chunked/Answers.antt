use Rattle.http_session.proofs.Contents.{bad_chunk, large_chunk, need_more}
use Rattle.http_session.proofs.body.Body.next_chunked.Goals as goal

pub returns-in-BadChunk-clause-reads : goal.returns-in-BadChunk-clause-reads
returns-in-BadChunk-clause-reads c framing part came reading more =
    bad_chunk framing c.args.self.now c.args.chunks part came c.args.bytes.now c.in-BadChunk.at c.requires reading c.in-BadChunk.ensures.says more

pub returns-in-BodyTooLarge-clause-reads : goal.returns-in-BodyTooLarge-clause-reads
returns-in-BodyTooLarge-clause-reads c framing part came reading more =
    large_chunk framing c.args.self.now c.args.chunks part came c.args.bytes.now c.requires reading c.in-BodyTooLarge.ensures.says more

pub returns-in-Need-clause-reads : goal.returns-in-Need-clause-reads
returns-in-Need-clause-reads c framing part came reading =
    need_more framing c.args.self.now c.args.chunks c.next-step.new.self part came c.args.bytes.now c.requires reading c.in-Need.ensures.kept c.in-Need.ensures.says
