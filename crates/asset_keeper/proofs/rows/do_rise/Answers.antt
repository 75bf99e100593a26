use Rattle.std.proofs.Common.{◌≡◌, ◌+◌, ◌<◌, ◌∷◌, ℕ, suc, List, length, drop, get_or, subst, sym, ap, ◌∙◌, add-one}
use Rattle.std.proofs.Math.Seq.{drop-cons}
use Rattle.std.specs.Option.{option_copied}
use Rattle.nx_base.specs.declared.row.Row.{Row}
use Rattle.asset_keeper.specs.Pages.{RiseAfter}
use Rattle.asset_keeper.proofs.rows.do_rise.Goals as goal

-- what is left from a row on begins with that row
from_row : (rows : List Row) (i : ℕ) (row : Row) → i < length rows → row ≡ get_or rows i row → drop i rows ≡ row ∷ drop (i + 1) rows
from_row rows i row lt is =
    drop-cons rows i row lt ∙ ap (λ (r : Row). r ∷ drop (suc i) rows) (sym is) ∙ ap (λ (k : ℕ). row ∷ drop k rows) (sym (add-one i))

pub loop-row-preserved : goal.loop-row-preserved
loop-row-preserved c =
    let begins = from_row c.args.rows.now c.loop-row.row-index c.row-item.result c.loop-row-test.true c.row-item.is in (
      (λ rest. c.loop-row.invariant.0 (subst (RiseAfter (option_copied c.loop-row.last)) (sym begins) (c.is_after.ensures.yes c.if-not-is_after.false, rest))),
      (λ all. (subst (RiseAfter (option_copied c.loop-row.last)) begins (c.loop-row.invariant.1 all)).1),
    )
