use Rattle.std.proofs.Common.{◌-◌, ◌≤◌, take}
use Rattle.repo_session.proofs.GivingOut.{GivesOut}
use Rattle.repo_session.proofs.downloads.send_pieces.Given as goal

abbrev pub invariant-pieces : goal.invariant-pieces
invariant-pieces g l =
    (l.at ≤ 1024)
    × GivesOut g.R.Reader.told g.R.Reader.left g.R.Reader.faults l.fn.prefix l.fn.download l.download (take l.at l.piece) (g.K.Sink.taken l.fn.output) (g.K.Sink.taken l.output) (g.K.Sink.faults l.fn.output) (g.K.Sink.faults l.output)

-- what is still to be given
abbrev pub decreases-pieces : goal.decreases-pieces
decreases-pieces g l = l.download.size - l.download.given
