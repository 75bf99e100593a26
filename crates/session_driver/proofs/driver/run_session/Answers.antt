use Rattle.std.proofs.Common.{[], arith}
use Rattle.session_driver.proofs.Places.{awaits_none}
use Rattle.session_driver.proofs.Starts.{starts_fed, starts, starts_none, stands_past}
use Rattle.session_driver.proofs.driver.run_session.Goals as goal

pub returns-in_default-clause-said : goal.returns-in_default-clause-said
returns-in_default-clause-said g c = starts_none g.R.Repository.Answers g.R.Repository.Fails c.args.repository.now (g.I.Input.left c.args.input.now) (g.K.Sink.taken c.args.output.now) (g.I.Input.ended c.args.input.now)

pub steps-init : goal.steps-init
steps-init g c = record {
  stands = (
    [],
    starts_fed c.in-Ok.session (g.I.Input.left c.args.input.now) (g.I.Input.ended c.args.input.now) c.in-Ok.ensures.0 c.in-Ok.ensures.1,
    starts g.R.Repository.Answers g.R.Repository.Uploads c.args.repository.now c.in-Ok.session (g.K.Sink.taken c.args.output.now) c.in-Ok.ensures.0,
  );
  reads = omega arith;
  writes = omega arith;
}

pub take_step-requires-clause-due : goal.take_step-requires-clause-due
take_step-requires-clause-due g c =
    let s = c.steps.invariant.stands in
    awaits_none g.R.Repository.Answers g.R.Repository.Uploads c.args.repository.now c.steps.repository c.steps.session s.0 s.2.0 _ _ s.2.1

pub take_step-requires-clause-past : goal.take_step-requires-clause-past
take_step-requires-clause-past g c =
    let s = c.steps.invariant.stands in
    stands_past g.R.Repository.Answers g.R.Repository.Uploads c.args.repository.now c.steps.repository c.steps.session _ _ s.0 s.2

pub returns-in-Some-clause-said : goal.returns-in-Some-clause-said
returns-in-Some-clause-said g c =
    let s = c.steps.invariant.stands in
    c.in-Some.ensures.goes c.args.repository.now _ _ s.0 s.1 s.2

pub steps-smaller : goal.steps-smaller
steps-smaller g c =
    let s = c.steps.invariant.stands in
    (c.in_default-take_step.ensures.goes c.args.repository.now _ _ s.0 s.1 s.2).2.1

pub steps-preserved : goal.steps-preserved
steps-preserved g c =
    let s = c.steps.invariant.stands in
    let next = c.in_default-take_step.ensures.goes c.args.repository.now _ _ s.0 s.1 s.2 in
    record {
      stands = (next.0, next.1, next.2.0);
      reads = omega (arith, c.steps.invariant.reads, c.in_default-take_step.ensures.cause.reads_later);
      writes = omega (arith, c.steps.invariant.writes, c.in_default-take_step.ensures.cause.writes_later);
    }
