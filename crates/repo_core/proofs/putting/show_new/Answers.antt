use Rattle.std.proofs.Common.{◌≡◌, ◌⊎◌, ℕ, List, inl, refl, subst, Ok, Err}
use Rattle.asset_keeper.specs.Table.{changed}
use Rattle.asset_keeper.specs.Told.{LeavesChange}
use Rattle.tree_content.specs.Files.{IsCreatedIn}
use Rattle.repo_core.proofs.Answering.{tells_map}
use Rattle.repo_core.proofs.Rests.{leaves_one, tells_still}
use Rattle.repo_core.proofs.putting.show_new.Goals as goal

pub returns-in-Err-clause-table : goal.returns-in-Err-clause-table
returns-in-Err-clause-table g c = tells_still (λ s t. (t ≡ s) ⊎ (t ≡ changed s c.args.new.now.change)) (λ t. inl refl) (g.T.Keeper.table c.args.table.now)

pub returns-in-Ok-clause-table : goal.returns-in-Ok-clause-table
returns-in-Ok-clause-table g c =
    tells_map (λ s t. LeavesChange s t c.args.new.now.change (Ok tt)) (λ s t. (t ≡ s) ⊎ (t ≡ changed s c.args.new.now.change)) (g.T.Keeper.table c.args.table.now) (g.T.Keeper.table c.apply.new.self)
    (λ s t leaves. leaves_one c.args.new.now.change s t (Ok tt) leaves) c.in-Ok.ensures.told

pub returns-in-Err-apply-clause-table : goal.returns-in-Err-apply-clause-table
returns-in-Err-apply-clause-table g c =
    tells_map (λ s t. LeavesChange s t c.args.new.now.change (Err c.in-Err-apply.refusal)) (λ s t. (t ≡ s) ⊎ (t ≡ changed s c.args.new.now.change)) (g.T.Keeper.table c.args.table.now) (g.T.Keeper.table c.apply.new.self)
    (λ s t leaves. leaves_one c.args.new.now.change s t (Err c.in-Err-apply.refusal) leaves) c.in-Err-apply.ensures.told

pub returns-in-Err-clause-created : goal.returns-in-Err-clause-created
returns-in-Err-clause-created g c = λ told free.
    subst (λ (text : List ℕ). IsCreatedIn c.args.new.now.files.place (g.D.Writer.Writer.content c.args.file) text (g.D.Disk.tree c.args.disk.now) (g.D.Disk.tree c.create.new.disk))
    c.deref.ensures.value (c.create.ensures.created told free)

pub returns-in-Ok-clause-created : goal.returns-in-Ok-clause-created
returns-in-Ok-clause-created g c = λ told free.
    subst (λ (text : List ℕ). IsCreatedIn c.args.new.now.files.place (g.D.Writer.Writer.content c.args.file) text (g.D.Disk.tree c.args.disk.now) (g.D.Disk.tree c.create.new.disk))
    c.deref.ensures.value (c.create.ensures.created told free)

pub returns-in-Err-apply-clause-created : goal.returns-in-Err-apply-clause-created
returns-in-Err-apply-clause-created g c = λ told free.
    subst (λ (text : List ℕ). IsCreatedIn c.args.new.now.files.place (g.D.Writer.Writer.content c.args.file) text (g.D.Disk.tree c.args.disk.now) (g.D.Disk.tree c.create.new.disk))
    c.deref.ensures.value (c.create.ensures.created told free)
