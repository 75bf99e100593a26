-- The upload that waited takes the part, or is answered with what stopped it.
use Rattle.std.proofs.Common.{sym, ap, Option}
use Rattle.std.specs.Option.{option_map}
use Rattle.repo_session.specs.declared.open_upload.OpenUpload.{OpenUpload}
use Rattle.repo_session.proofs.Replied.{drew, drew_since, each_answered, failed_counts, kept_upload, kept_view, part_taken}
use Rattle.repo_session.proofs.answering.AnsweringWriterReaderRepository.take.Goals as goal

pub returns-in-Ok : goal.returns-in-Ok
returns-in-Ok g c = λ start head content put w. record {
  draws = w.draws;
  upload = c.write.new.self;
  kept = ap (λ (u : Option (OpenUpload g.row.D-Writer.Denot)). option_map (λ o. o.upload) u) c.keep.ensures;
  begun = part_taken _ g.D.Writer.Writer.told g.D.Writer.Writer.written _ _ head c.in-Some.open.upload c.write.new.self content c.args.part.now
      (kept_upload _ _ _ _ _ head content c.in-Some.open.upload w (kept_view _ c.in-Some.open (sym c.in-Some.ensures.value)))
      c.in-Ok.ensures.target c.in-Ok.ensures.taken;
}

pub returns-in-Err : goal.returns-in-Err
returns-in-Err g c = λ start head content put w.
    let b = kept_upload _ _ _ _ _ head content c.in-Some.open.upload w (kept_view _ c.in-Some.open (sym c.in-Some.ensures.value)) in
    each_answered _ _ _ head _ c.draw.result (drew_since _ _ _ _ _ _ head content c.draw.result w (drew _ _ c.draw.result c.draw.ensures.value c.draw.ensures.moments c.draw.ensures.next))
    (c.stop_upload.ensures.stopped start.core head b.store c.draw.result put b.begun (failed_counts c.in-Err.why _ _ c.in-Err.ensures.cause.failed))
