use Rattle.std.proofs.Common.{◌≡◌, ◌⊎◌, inl, Some, refl, ◌∙◌, ap}
use Rattle.std.specs.FinMap as map
use Rattle.nx_base.specs.Given.{given}
use Rattle.asset_keeper.specs.Table.{changed}
use Rattle.disk_model.specs.Disk.{Lists, Same}
use Rattle.disk_model.proofs.Chain.{goes_on}
use Rattle.repo_model.specs.Serving.{downloaded}
use Rattle.repo_core.proofs.Runs.{at_end}
use Rattle.repo_core.proofs.Halfways.{noted_between}
use Rattle.repo_core.proofs.Lookings.{tells_noted}
use Rattle.repo_core.specs.Asks.{SetsRow}
use Rattle.repo_core.proofs.Answering.{tells_map}
use Rattle.repo_core.proofs.Rests.{noted_row, tells_still}
use Rattle.repo_core.proofs.getting.serve.Goals as goal

pub returns-in-Err-save-clause-any_moment : goal.returns-in-Err-save-clause-any_moment
returns-in-Err-save-clause-any_moment g c = λ told.
    let clock = g.D.Disk.clock in
    let lists = g.D.Disk.lists in
    let old = c.args.disk.now in
    let mid = c.open_measured.new.disk in
    let run = c.open_measured.ensures.any_moment told in
    let here = at_end clock lists old mid (Same (lists old (clock old))) run in
    goes_on clock lists (Same (lists old (clock old))) old mid c.end_reader.new.self run (c.end_reader.ensures.time told)
    (λ n out. ap (λ (l : Lists). l n) (c.end_reader.ensures.crash told) ∙ here n out)

pub returns-clause-rows : goal.returns-clause-rows
returns-clause-rows g c =
    tells_noted (g.T.Keeper.table c.args.table.now) (g.T.Keeper.table c.save.new.table) c.in-Ok.note.change c.args.key.now c.args.asset (downloaded c.args.asset c.args.at)
    c.in-Ok.ensures.change_is c.in_default-save.ensures.rows

pub returns-in_default-clause-table : goal.returns-in_default-clause-table
returns-in_default-clause-table g c = tells_still (λ s t. (t ≡ s) ⊎ SetsRow c.args.key.now s t) (λ t. inl refl) (g.T.Keeper.table c.args.table.now)

pub returns-in-Err-clause-table : goal.returns-in-Err-clause-table
returns-in-Err-clause-table g c = tells_still (λ s t. (t ≡ s) ⊎ SetsRow c.args.key.now s t) (λ t. inl refl) (g.T.Keeper.table c.args.table.now)

pub returns-in-Err-save-clause-table : goal.returns-in-Err-save-clause-table
returns-in-Err-save-clause-table g c =
    tells_map (λ s t. (t ≡ s) ⊎ (t ≡ given c.in-Ok.note.change s (changed s))) (λ s t. (t ≡ s) ⊎ SetsRow c.args.key.now s t) (g.T.Keeper.table c.args.table.now) (g.T.Keeper.table c.save.new.table)
    (λ s t leaves. noted_row c.args.key.now c.args.asset (downloaded c.args.asset c.args.at) s t c.in-Ok.note.change c.in-Ok.ensures.change_is leaves) c.save.ensures.table

pub returns-clause-table : goal.returns-clause-table
returns-clause-table g c =
    tells_map (λ s t. (t ≡ s) ⊎ (t ≡ given c.in-Ok.note.change s (changed s))) (λ s t. (t ≡ s) ⊎ SetsRow c.args.key.now s t) (g.T.Keeper.table c.args.table.now) (g.T.Keeper.table c.save.new.table)
    (λ s t leaves. noted_row c.args.key.now c.args.asset (downloaded c.args.asset c.args.at) s t c.in-Ok.note.change c.in-Ok.ensures.change_is leaves) c.save.ensures.table

pub returns-in_default-clause-between : goal.returns-in_default-clause-between
returns-in_default-clause-between g c = tells_still (λ s t. (t ≡ s) ⊎ (map.get s.rows c.args.key.now ≡ Some c.args.asset → t.rows ≡ map.insert s.rows c.args.key.now (downloaded c.args.asset c.args.at))) (λ t. inl refl) (g.T.Keeper.table c.args.table.now)

pub returns-in-Err-clause-between : goal.returns-in-Err-clause-between
returns-in-Err-clause-between g c = tells_still (λ s t. (t ≡ s) ⊎ (map.get s.rows c.args.key.now ≡ Some c.args.asset → t.rows ≡ map.insert s.rows c.args.key.now (downloaded c.args.asset c.args.at))) (λ t. inl refl) (g.T.Keeper.table c.args.table.now)

pub returns-in-Err-save-clause-between : goal.returns-in-Err-save-clause-between
returns-in-Err-save-clause-between g c =
    tells_map (λ s t. (t ≡ s) ⊎ (t ≡ given c.in-Ok.note.change s (changed s))) (λ s t. (t ≡ s) ⊎ (map.get s.rows c.args.key.now ≡ Some c.args.asset → t.rows ≡ map.insert s.rows c.args.key.now (downloaded c.args.asset c.args.at))) (g.T.Keeper.table c.args.table.now) (g.T.Keeper.table c.save.new.table)
    (λ s t leaves. noted_between c.args.key.now c.args.asset (downloaded c.args.asset c.args.at) s t c.in-Ok.note.change c.in-Ok.ensures.change_is leaves) c.save.ensures.table

pub returns-clause-between : goal.returns-clause-between
returns-clause-between g c =
    tells_map (λ s t. (t ≡ s) ⊎ (t ≡ given c.in-Ok.note.change s (changed s))) (λ s t. (t ≡ s) ⊎ (map.get s.rows c.args.key.now ≡ Some c.args.asset → t.rows ≡ map.insert s.rows c.args.key.now (downloaded c.args.asset c.args.at))) (g.T.Keeper.table c.args.table.now) (g.T.Keeper.table c.save.new.table)
    (λ s t leaves. noted_between c.args.key.now c.args.asset (downloaded c.args.asset c.args.at) s t c.in-Ok.note.change c.in-Ok.ensures.change_is leaves) c.save.ensures.table
