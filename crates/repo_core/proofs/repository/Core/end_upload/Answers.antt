use Rattle.std.proofs.Common.{subst}
use Rattle.disk_model.specs.Disk.{TakesBack}
use Rattle.repo_core.specs.Devices.{devices}
use Rattle.repo_core.proofs.Returnings.{gave_back}
use Rattle.repo_core.proofs.Runs.{nothing_ran, still_same}
use Rattle.repo_core.proofs.repository.Core.end_upload.Goals as goal

pub returns-clause-back : goal.returns-clause-back
returns-clause-back g c = rw (← c.self.view_is) (
    let on = devices g.D.Disk g.T.Keeper in
    let core = c.self.inside in
    let old = core.disk in
    let new = c.give_up.new.self in
    let back = c.give_up.ensures in
    gave_back on (record { disk = old; table = core.table; config = core.config; journal = core.journal; own = core.own; holds = core.holds.items; broken = core.broken }) new core.holds.items _
    (record { files = back.tree; moments = λ told. still_same on.clock on.lists old old new (nothing_ran on.clock on.lists old) (back.time told) (back.crash told); shown = back.shown }) (subst (λ (p : g.row.D-Writer.Denot). TakesBack (on.disk_faults old) (on.disk_faults new) (g.D.Writer.Writer.faults p)) c.into_writer.ensures back.cause) back.look)
