use Rattle.std.proofs.Common.{◌≡◌, ◌⊎◌, inl, inr, refl, Ok, Err}
use Rattle.asset_keeper.specs.Table.{changed}
use Rattle.asset_keeper.specs.Told.{LeavesChange}
use Rattle.repo_core.proofs.Answering.{tells_map}
use Rattle.repo_core.proofs.Rests.{leaves_one, tells_still}
use Rattle.repo_core.proofs.deleting.show.Goals as goal

pub returns-in-Err-clause-table : goal.returns-in-Err-clause-table
returns-in-Err-clause-table g c = tells_still (λ s t. (t ≡ s) ⊎ (t ≡ changed s c.args.change.now)) (λ t. inl refl) (g.T.Keeper.table c.args.table.now)

pub returns-in-Ok-clause-table : goal.returns-in-Ok-clause-table
returns-in-Ok-clause-table g c =
    tells_map (λ s t. LeavesChange s t c.args.change.now (Ok tt)) (λ s t. (t ≡ s) ⊎ (t ≡ changed s c.args.change.now)) (g.T.Keeper.table c.args.table.now) (g.T.Keeper.table c.apply.new.self)
    (λ s t leaves. leaves_one c.args.change.now s t (Ok tt) leaves) c.in-Ok.ensures.told

pub returns-clause-table : goal.returns-clause-table
returns-clause-table g c =
    tells_map (λ s t. LeavesChange s t c.args.change.now (Err c.in-Err-apply.refusal)) (λ s t. (t ≡ s) ⊎ (t ≡ changed s c.args.change.now)) (g.T.Keeper.table c.args.table.now) (g.T.Keeper.table c.apply.new.self)
    (λ s t leaves. leaves_one c.args.change.now s t (Err c.in-Err-apply.refusal) leaves) c.in-Err-apply.ensures.told

pub returns-clause-refused : goal.returns-clause-refused
returns-clause-refused g c = λ told. inr (c.in_default.ensures.named told)
