-- The upload that waited is put.
use Rattle.std.proofs.Common.{sym}
use Rattle.http_requests.specs.Requests.{whole}
use Rattle.repo_session.proofs.Replied.{drew, drew_since, kept_upload, kept_view, puts_answered}
use Rattle.repo_session.proofs.answering.AnsweringWriterReaderRepository.commit.Goals as goal

pub returns : goal.returns
returns g c = λ start head content put w.
    let b = kept_upload _ _ _ _ _ head content c.in-Some.open.upload w (kept_view _ c.in-Some.open (sym c.in-Some.ensures.value)) in
    puts_answered _ _ _ head (whole head content) c.draw-moment.result c.finish.result
    (drew_since _ _ _ _ _ _ head content c.draw-moment.result w (drew _ _ c.draw-moment.result c.draw-moment.ensures.value c.draw-moment.ensures.moments c.draw-moment.ensures.next))
    (c.finish.ensures.put start.core head content put b)
