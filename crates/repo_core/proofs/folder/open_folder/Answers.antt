use Rattle.repo_core.proofs.Beginnings.{tracks_empty}
use Rattle.repo_core.proofs.folder.open_folder.Goals as goal

pub returns-clause-stands : goal.returns-clause-stands
returns-clause-stands g c = λ empty rowless.
    rw (c.in-Ok.ensures.journal, c.in-Ok.ensures.holds, c.empty.ensures)
    (tracks_empty g.D.Disk.tree g.T.Keeper.table c.args.disk c.args.table c.in-Ok.parts.config c.args.opening.passes c.args.opening.config.journal empty rowless)
