use Rattle.std.proofs.Common.{ap, subst}
use Rattle.disk_model.specs.Disk.{Tree, TakesBack}
use Rattle.repo_core.specs.Devices.{devices}
use Rattle.repo_core.proofs.Returnings.{gave_back}
use Rattle.repo_core.proofs.Runs.{looked}
use Rattle.repo_core.proofs.repository.Core.end_get.Goals as goal

pub returns-clause-back : goal.returns-clause-back
returns-clause-back g c = rw (← c.self.view_is) (
    let on = devices g.D.Disk g.T.Keeper in
    let core = c.self.inside in
    let old = core.disk in
    let new = c.end_reader.new.self in
    let back = c.end_reader.ensures in
    gave_back on (record { disk = old; table = core.table; config = core.config; journal = core.journal; own = core.own; holds = core.holds.items; broken = core.broken }) new c.clear_hold.new.holds.items _
    (record { files = λ told n out. ap (λ (t : Tree). t n) (back.tree told); moments = λ told. looked on.clock on.lists old new (back.time told) (back.crash told); shown = back.shown }) (subst (λ (p : g.row.D-Reader.Denot). TakesBack (on.disk_faults old) (on.disk_faults new) (g.D.Reader.Reader.faults p)) c.into_reader.ensures back.cause) back.look)
