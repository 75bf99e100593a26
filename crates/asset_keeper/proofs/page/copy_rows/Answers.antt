use Rattle.std.proofs.Common.{◌≡◌, ◌-◌, ◌<◌, ◌++◌, [], ◌∷◌, length, map, take, not, true, ap, sym, ◌∙◌, arith}
use Rattle.std.specs.Prelude.{is_ok}
use Rattle.nx_base.specs.declared.key.Key.{Key}
use Rattle.nx_base.specs.declared.asset.Asset.{Asset}
use Rattle.asset_keeper.specs.Table.{row_of}
use Rattle.asset_keeper.proofs.Copying.{one_more}
use Rattle.asset_keeper.proofs.page.copy_rows.Goals as goal

pub loop-rest-preserved : goal.loop-rest-preserved
loop-rest-preserved c =
    let out = c.loop-rest.out.items in
    let e : Key × Asset = (c.in-Some.key.now, c.in-Some.asset.now) in
    let lt : length out < c.args.n = omega (arith, c.loop-rest-test.true, c.len.ensures) in
    let pushes : is_ok c.push.result ≡ true = c.is_err.ensures.negation ∙ ap not c.if-is_err.false in
    let pushed : c.push.new.self.items ≡ out ++ row_of e ∷ [] = rw (c.in_ok-try_clone.ensures, c.in_ok-try_clone-2.ensures) at (rw pushes at c.push.ensures.items) in
    rw pushed
    (one_more out e c.next.new.self c.args.n lt
    ∙ ap (λ r. out ++ map row_of (take (c.args.n - length out) r)) (sym c.in-Some.ensures.steps) ∙ c.loop-rest.invariant)
