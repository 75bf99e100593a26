-- The content that is open is given out, and without one the head is all.
use Rattle.std.proofs.Common.{refl, sym}
use Rattle.repo_session.proofs.Lookings.{given_answer, plain_answer}
use Rattle.repo_session.proofs.TurnsMade.{rests_same}
use Rattle.repo_session.proofs.answering.AnsweringWriterReaderRepository.send.Goals as goal

pub returns-in-Some-clause-said : goal.returns-in-Some-clause-said
returns-in-Some-clause-said g c = λ start head reply looked prefix.
    given_answer _ g.D.Reader.Reader.told g.D.Reader.Reader.left _ _ _ head reply c.args.prefix.now g.met.D.Disk.readers_tell looked prefix refl c.give.ensures.rests
    c.in-Some.download _ _ c.give.result (sym c.in-Some.ensures.value) c.give.ensures.sent c.give.ensures.failed

pub returns-in-None-clause-said : goal.returns-in-None-clause-said
returns-in-None-clause-said g c = λ start head reply looked prefix.
    plain_answer _ g.D.Reader.Reader.told g.D.Reader.Reader.left _ _ _ head reply c.args.prefix.now g.met.D.Disk.readers_tell looked prefix refl (rests_same _ _)
    _ _ c.write.result (sym c.in-None.ensures.value) c.write.ensures.sent c.write.ensures.write
