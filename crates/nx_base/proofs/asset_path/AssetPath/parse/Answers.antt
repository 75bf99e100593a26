use Rattle.std.proofs.Common.{◌-◌, ◌≡◌, length}
use Rattle.nx_base.specs.Paths.{slashed_of, after_slash}
use Rattle.nx_base.proofs.Refusals.{Gives-behind}
use Rattle.nx_base.proofs.asset_path.AssetPath.parse.Goals as goal

pub returns-in-Err : goal.returns-in-Err
returns-in-Err c =
    let text = c.args.text.now in
    let rest : c.after_slash-path.result.now ≡ after_slash text = c.after_slash-path.ensures.rest in
    Gives-behind (length text - length (after_slash text)) (slashed_of 512 (after_slash text)) (length c.after_slash-path.result.now)
    c.in-Err.refusal c.behind.result (rw rest at c.behind.ensures) (rw rest at c.in-Err.ensures.read) c.in-Err.ensures.within
