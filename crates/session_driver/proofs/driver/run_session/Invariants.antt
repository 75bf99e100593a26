-- The driver stands between requests or in a content, and no count fell.
use Rattle.std.proofs.Common.{◌≤◌, ℕ, List}
use Rattle.session_driver.specs.Going.{distance}
use Rattle.session_driver.specs.Standing.{HasFed, IsUnderWay}
use Rattle.session_driver.proofs.driver.run_session.Given as goal

abbrev pub invariant-steps : goal.invariant-steps
invariant-steps g l = record {
  stands : (fed : List ℕ) × HasFed l.session (g.I.Input.left l.initial.input) (g.I.Input.left l.input) (g.I.Input.ended l.input) fed
      × IsUnderWay g.R.Repository.Answers g.R.Repository.Uploads l.initial.repository l.repository l.session (g.K.Sink.taken l.initial.output) (g.K.Sink.taken l.output) fed;
  reads : g.I.Input.faults l.initial.input ≤ g.I.Input.faults l.input;
  writes : g.K.Sink.faults l.initial.output ≤ g.K.Sink.faults l.output;
}

-- each step brings it nearer to its end
abbrev pub decreases-steps : goal.decreases-steps
decreases-steps g l = distance l.session
