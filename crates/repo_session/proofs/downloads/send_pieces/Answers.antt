-- Each piece is written behind those before it.
use Rattle.std.proofs.Common.{ℕ, take, subst, arith}
use Rattle.http_front.specs.declared.unsaid.Unsaid.TheVariants.{DownloadFault}
use Rattle.repo_session.specs.Giving.{HasRead}
use Rattle.repo_session.proofs.GivingOut.{all_sent, begins_with, gives_all, gives_first, gives_prefix, gives_more, gives_so_far}
use Rattle.repo_session.proofs.downloads.send_pieces.Goals as goal

pub pieces-init : goal.pieces-init
pieces-init g c = (c.requires, gives_first _ _ _ _ _ _ _ _ (begins_with c.args.prefix.now c.copy_from_slice.new.self _ c.copy_from_slice.ensures.after))

pub returns-in-Ok-eq0-clause-sent : goal.returns-in-Ok-eq0-clause-sent
returns-in-Ok-eq0-clause-sent g c =
    let read = subst (λ (n : ℕ). HasRead g.R.Reader.told g.R.Reader.left g.R.Reader.faults c.pieces.download c.read_behind.new.download (take c.pieces.at c.pieces.piece) c.read_behind.new.piece c.pieces.at n)
    c.in-Ok-eq0.field-0-test c.in-Ok-eq0.ensures.read in
    gives_all _ _ g.R.Reader.faults c.args.prefix.now c.args.download.now c.pieces.download c.read_behind.new.download (take c.pieces.at c.pieces.piece) c.read_behind.new.piece (take c.pieces.at c.read_behind.new.piece)
    _ (g.K.Sink.taken c.pieces.output) _ (g.K.Sink.faults c.args.output.now) (g.K.Sink.faults c.pieces.output) c.pieces.at c.write.result
    c.pieces.invariant.1 read (c.in-Ok-eq0.ensures.end c.in-Ok-eq0.field-0-test) c.in-Ok-eq0.ensures.stays c.write.ensures.sent

pub returns-in-Err-write-clause-sent : goal.returns-in-Err-write-clause-sent
returns-in-Err-write-clause-sent g c =
    gives_prefix _ _ g.R.Reader.faults c.args.prefix.now c.args.download.now c.pieces.download c.read_behind.new.download (take c.pieces.at c.pieces.piece) c.read_behind.new.piece
    _ (g.K.Sink.taken c.pieces.output) _ (g.K.Sink.faults c.args.output.now) (g.K.Sink.faults c.pieces.output) c.pieces.at c.in-Ok.count c.in-Err-write.unsaid
    c.pieces.invariant.1 c.in-Ok.ensures.read c.in-Err-write.ensures.sent

pub pieces-preserved : goal.pieces-preserved
pieces-preserved g c = (
  omega arith,
  gives_more _ _ _ c.args.prefix.now c.args.download.now c.pieces.download c.read_behind.new.download (take c.pieces.at c.pieces.piece) c.read_behind.new.piece
      _ (g.K.Sink.taken c.pieces.output) _ _ (g.K.Sink.faults c.pieces.output) _ c.pieces.at c.in-Ok.count
      c.pieces.invariant.1 c.in-Ok.ensures.read c.in_default.ensures.sent c.in_default.ensures.cause,
)

pub returns-in-Err-write-2-clause-sent : goal.returns-in-Err-write-2-clause-sent
returns-in-Err-write-2-clause-sent g c =
    gives_so_far _ _ g.R.Reader.faults c.args.prefix.now c.args.download.now c.pieces.download (take c.pieces.at c.pieces.piece) (take c.pieces.at c.read_behind.new.piece)
    _ (g.K.Sink.taken c.pieces.output) _ (g.K.Sink.faults c.args.output.now) (g.K.Sink.faults c.pieces.output) c.in-Err-write-2.unsaid
    c.pieces.invariant.1 c.in-Err.ensures.stays c.in-Err-write-2.ensures.sent

pub returns-in-Err-clause-sent : goal.returns-in-Err-clause-sent
returns-in-Err-clause-sent g c =
    gives_so_far _ _ g.R.Reader.faults c.args.prefix.now c.args.download.now c.pieces.download (take c.pieces.at c.pieces.piece) (take c.pieces.at c.read_behind.new.piece)
    _ (g.K.Sink.taken c.pieces.output) _ (g.K.Sink.faults c.args.output.now) (g.K.Sink.faults c.pieces.output) DownloadFault
    c.pieces.invariant.1 c.in-Err.ensures.stays (all_sent _ _ _ c.in_default-write.ensures.sent)
