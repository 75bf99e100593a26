-- What a keeper that still tells has told.
use Rattle.std.proofs.Common.{◌≡◌, ◌⊎◌, inl, inr, ⊎_elim, Option, Some, None, IsSome, is_some, refl, sym, ◌∙◌, ap}
use Rattle.std.specs.FinMap as map
use Rattle.nx_base.specs.Order.{key_cmp}
use Rattle.nx_base.specs.declared.key.Key.{Key}
use Rattle.nx_base.specs.declared.asset.Asset.{Asset}
use Rattle.asset_keeper.specs.declared.change.Change.{Change}
use Rattle.asset_keeper.specs.Table.{Table, changed}
use Rattle.asset_keeper.specs.Told.{Tells}
use Rattle.repo_core.specs.Rows.{rows_in}

-- the table before and after
pub record Told (old new : Option Table) (P : Table → Table → Type 0) : Type 0 where
  pub before : Table
  pub after : Table
  pub was : old ≡ Some before
  pub is : new ≡ Some after
  pub holds : P before after

pub told_of : (P : Table → Table → Type 0) (old new : Option Table) → IsSome new → Tells old new P → Told old new P
told_of P old None some tells = absurd (some_none some)
  where
    some_none : IsSome {T = Table} None → ⊥
    some_none e = cc
told_of P None (Some t) some tells = absurd tells
told_of P (Some s) (Some t) some tells = record { before = s; after = t; was = refl; is = refl; holds = tells }

-- it told before too
pub still_told : (P : Table → Table → Type 0) (old new : Option Table) → IsSome new → Tells old new P → IsSome old
still_told P old new some tells = let w = told_of P old new some tells in ap (λ (o : Option Table). is_some o) w.was

-- a keeper's answer is the row
pub row_told : (old new : Option Table) (rows : map.FinMap key_cmp Asset) (key : Key) (row : Option Asset) → IsSome new
    → Tells old new (λ s t. (t ≡ s) × (row ≡ map.get s.rows key)) → rows_in old ≡ rows → map.get rows key ≡ row
row_told old new rows key row some tells rows_are =
    let w = told_of (λ s t. (t ≡ s) × (row ≡ map.get s.rows key)) old new some tells in
    ap (λ (m : map.FinMap key_cmp Asset). map.get m key) (sym rows_are ∙ ap rows_in w.was) ∙ sym w.holds.1

pub rows_same : (old new : Option Table) → IsSome new → Tells old new (λ s t. t ≡ s) → rows_in new ≡ rows_in old
rows_same old new some tells = let w = told_of (λ s t. t ≡ s) old new some tells in ap rows_in w.is ∙ ap (λ (t : Table). t.rows) w.holds ∙ sym (ap rows_in w.was)

-- the rows after a change
pub rows_changed : (old new : Option Table) (c : Change) → IsSome new → Tells old new (λ s t. t ≡ changed s c)
    → (P : map.FinMap key_cmp Asset → map.FinMap key_cmp Asset) → ((t : Table) → (changed t c).rows ≡ P t.rows) → rows_in new ≡ P (rows_in old)
rows_changed old new c some tells P does =
    let w = told_of (λ s t. t ≡ changed s c) old new some tells in
    ap rows_in w.is ∙ ap (λ (t : Table). t.rows) w.holds ∙ does w.before ∙ ap P (sym (ap rows_in w.was))

-- a call that changes nothing, and then one that makes the change
pub tells_then : (P Q R : Table → Table → Type 0) (old mid new : Option Table) → ((s t u : Table) → P s t → Q t u → R s u) → Tells old mid P → Tells mid new Q → Tells old new R
tells_then P Q R old mid None f first second = tt
tells_then P Q R old None (Some u) f first second = absurd second
tells_then P Q R None (Some t) (Some u) f first second = absurd first
tells_then P Q R (Some s) (Some t) (Some u) f first second = f s t u first second

-- the rows where a call that changes nothing was made, and then one that may have made the change
pub rows_either : (old mid new : Option Table) (c : Change) (rows : map.FinMap key_cmp Asset) (P : map.FinMap key_cmp Asset → map.FinMap key_cmp Asset) → ((t : Table) → (changed t c).rows ≡ P t.rows) → IsSome new
    → Tells old mid (λ s t. t ≡ s) → Tells mid new (λ t u. (u ≡ t) ⊎ (u ≡ changed t c)) → rows_in old ≡ rows → (rows_in new ≡ rows) ⊎ (rows_in new ≡ P rows)
rows_either old mid new c rows P does some first second is =
    let Q : Table → Table → Type 0 = λ t u. (u ≡ t) ⊎ (u ≡ changed t c) in
    let w = told_of Q mid new some second in
    let was : w.before.rows ≡ rows = sym (ap rows_in w.was) ∙ rows_same old mid (still_told Q mid new some second) first ∙ is in
    ⊎_elim
    (λ same. inl (ap rows_in w.is ∙ ap (λ (t : Table). t.rows) same ∙ was))
    (λ made. inr (ap rows_in w.is ∙ ap (λ (t : Table). t.rows) made ∙ does w.before ∙ ap P was)) w.holds
