use Rattle.std.proofs.Common.{Some, ap, sym, ◌∙◌}
use Rattle.std.specs.BTreeMap.{is_at}
use Rattle.nx_base.specs.Order.{key_cmp}
use Rattle.nx_base.proofs.Orders.{key_cmp_total, exact_keys}
use Rattle.nx_base.proofs.Trees.{get_at}
use Rattle.asset_keeper.specs.Ranges.{in_range, found_in_range}
use Rattle.asset_keeper.proofs.InRange.{looked_up}
use Rattle.asset_keeper.proofs.tree.asset_at.Goals as goal

pub returns-in_ok-try_clone-in-Some-clause-value : goal.returns-in_ok-try_clone-in-Some-clause-value
returns-in_ok-try_clone-in-Some-clause-value c =
    ap Some c.in_ok-try_clone-in-Some.ensures ∙ c.in-Some.ensures.value ∙ sym (get_at key_cmp_total exact_keys c.args.rows.now.entries c.args.key.now)

pub returns-in_ok-try_clone-in-Some-clause-range : goal.returns-in_ok-try_clone-in-Some-clause-range
returns-in_ok-try_clone-in-Some-clause-range c =
    ap in_range c.in_ok-try_clone-in-Some.ensures ∙ ap found_in_range c.in-Some.ensures.value
    ∙ looked_up (is_at (key_cmp c.args.key.now)) c.args.rows.now.entries c.requires

pub returns-in-None-clause-value : goal.returns-in-None-clause-value
returns-in-None-clause-value c = c.in-None.ensures.value ∙ sym (get_at key_cmp_total exact_keys c.args.rows.now.entries c.args.key.now)
