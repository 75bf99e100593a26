-- A refused head is answered by a turn without calls.
use Rattle.repo_session.proofs.Replied.{answered, drew, head_refused}
use Rattle.repo_session.proofs.answering.AnsweringWriterReaderRepository.refused.Goals as goal

pub returns : goal.returns
returns g c = λ why bare.
    answered _ _ _ _ _ c.draw.result (drew _ _ c.draw.result c.draw.ensures.value c.draw.ensures.moments c.draw.ensures.next) (head_refused _ _ c.draw.result why bare)
