use Rattle.repo_model.specs.Plain.{state_of}
use Rattle.repo_model.proofs.Storing.{stored_next}
use Rattle.repo_model.proofs.plain.puts.store_new.Goals as goal

pub returns-clause-stored : goal.returns-clause-stored
returns-clause-stored c =
    rw (stored_next (state_of c.args.state.now) c.args.store.now c.args.upload.now c.args.moment.now c.args.is_fetched c.timestamp_after-timestamp.result c.verified_at-verified.result c.made.result
    c.if-state-ge-GREATEST_TIME.false c.timestamp_after-timestamp.ensures.timestamp c.made.ensures c.verified_at-verified.ensures)
    (rw (← c.in_ok-try_clone.ensures) c.store_as.ensures.stored)
