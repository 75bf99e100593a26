use Rattle.std.proofs.Common.{◌≡◌, ◌&&◌, Bool, true, false, List, [], ◌∷◌, filter, Some, refl, ap, sym, ◌∙◌}
use Rattle.std.specs.Ordering.{is_lt}
use Rattle.std.specs.Option.{option_copied}
use Rattle.std.specs.FinMap.{entries, from_entries}
use Rattle.nx_base.specs.Order.{key_cmp}
use Rattle.nx_base.proofs.Orders.{key_cmp_total, exact_keys}
use Rattle.nx_base.proofs.Trees.{entries_are}
use Rattle.asset_keeper.specs.Table.{entries_after}
use Rattle.asset_keeper.proofs.Pages.{shaped, ranged}
use Rattle.asset_keeper.proofs.page.page_in.Goals as goal

filter_alike : {X : Type 0} (p q : X → Bool) → ((x : X) → p x ≡ q x) → (xs : List X) → filter p xs ≡ filter q xs
filter_alike p q h [] = refl
filter_alike p q h (x ∷ xs) = rw (h x, filter_alike p q h xs) refl

filter_all : {X : Type 0} (p : X → Bool) → ((x : X) → p x ≡ true) → (xs : List X) → filter p xs ≡ xs
filter_all p h [] = refl
filter_all p h (x ∷ xs) = rw (h x, filter_all p h xs) refl

and_true : (b : Bool) → (b && true) ≡ b
and_true true = refl
and_true false = refl

pub returns-in_ok-try_clone-in-Some-clause-value : goal.returns-in_ok-try_clone-in-Some-clause-value
returns-in_ok-try_clone-in-Some-clause-value c =
    let es = c.args.rows.now.entries in
    let found : c.range.result ≡ entries_after (Some c.in-Some.key.now) (entries (from_entries {R = key_cmp} es)) =
    c.range.ensures.between tt ∙ (filter_alike _ _ (λ e. and_true _) es ∙ (ap (λ k. filter (λ e. is_lt (key_cmp k e.0)) es) c.in_ok-try_clone-in-Some.ensures
    ∙ ap (filter (λ e. is_lt (key_cmp c.in-Some.key.now e.0))) (sym (entries_are key_cmp_total exact_keys es c.range.ensures.ordered)))) in
    rw c.in-Some.is (rw found at c.copy_rows.ensures)

pub returns-in_ok-try_clone-in-Some-clause-shape : goal.returns-in_ok-try_clone-in-Some-clause-shape
returns-in_ok-try_clone-in-Some-clause-shape c =
    let es = c.args.rows.now.entries in
    shaped (λ out. out.items) c.copy_rows.result (option_copied c.args.after) es c.args.n c.range.ensures.ordered
    (rw (entries_are key_cmp_total exact_keys es c.range.ensures.ordered) at (returns-in_ok-try_clone-in-Some-clause-value c))

pub returns-in_ok-try_clone-in-Some-clause-range : goal.returns-in_ok-try_clone-in-Some-clause-range
returns-in_ok-try_clone-in-Some-clause-range c =
    let es = c.args.rows.now.entries in
    ranged (λ out. out.items) c.copy_rows.result (option_copied c.args.after) es c.args.n c.requires
    (rw (entries_are key_cmp_total exact_keys es c.range.ensures.ordered) at (returns-in_ok-try_clone-in-Some-clause-value c))

pub returns-in-None-clause-value : goal.returns-in-None-clause-value
returns-in-None-clause-value c =
    let es = c.args.rows.now.entries in
    let found : c.range-in-None.result ≡ entries (from_entries {R = key_cmp} es) =
    c.range-in-None.ensures.between tt ∙ (filter_all _ (λ e. and_true _) es ∙ sym (entries_are key_cmp_total exact_keys es c.range-in-None.ensures.ordered)) in
    rw c.in-None.is (rw found at c.copy_rows-in-None.ensures)

pub returns-in-None-clause-shape : goal.returns-in-None-clause-shape
returns-in-None-clause-shape c =
    let es = c.args.rows.now.entries in
    shaped (λ out. out.items) c.copy_rows-in-None.result (option_copied c.args.after) es c.args.n c.range-in-None.ensures.ordered
    (rw (entries_are key_cmp_total exact_keys es c.range-in-None.ensures.ordered) at (returns-in-None-clause-value c))

pub returns-in-None-clause-range : goal.returns-in-None-clause-range
returns-in-None-clause-range c =
    let es = c.args.rows.now.entries in
    ranged (λ out. out.items) c.copy_rows-in-None.result (option_copied c.args.after) es c.args.n c.requires
    (rw (entries_are key_cmp_total exact_keys es c.range-in-None.ensures.ordered) at (returns-in-None-clause-value c))
