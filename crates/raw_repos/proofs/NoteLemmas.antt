-- Of more notes than the limit, one goes.
use Rattle.std.proofs.Common.{◌≡◌, ℕ, ◌+◌, ◌-◌, ◌<◌, ◌≤◌, Bool, true, false, cond, ◌||◌, if◌then◌else◌, nat_lt, List, [], ◌∷◌, map, fold, length, Option, Some, None, is_some, refl, sym, ◌∙◌, ap, subst, arith}
use Rattle.std.specs.List.{list_any}
use Rattle.std.specs.Option.{option_map}
use Rattle.std.specs.FinMap as finite
use Rattle.std.specs.Ordering.{is_eq, eq_by_cmp}
use Rattle.std.specs.declared.cmp.Ordering.{Ordering}
use Rattle.std.specs.declared.cmp.Ordering.TheVariants.{Less, Equal, Greater}
use Rattle.std.proofs.lemmas.Bool.{le-leb}
use Rattle.nx_base.specs.Given.{given}
use Rattle.std.specs.Cmp.{eq_by_cmp_equiv}
use Rattle.nx_base.specs.declared.key.Key.{Key}
use Rattle.nx_base.specs.Order.{key_cmp}
use Rattle.nx_base.proofs.Orders.{key_cmp_total, exact_keys}
use Rattle.repo_model.specs.Notes.{Notes, notes_limit, older_note, oldest, oldest_key, trimmed}

-- no note is within the limit
pub none_within : (m : Notes) → m ≡ finite.empty → finite.len m ≤ notes_limit
none_within m is = subst (λ (n : ℕ). n ≤ notes_limit) (sym (ap (λ (x : Notes). finite.len x) is ∙ finite.len-empty key_cmp ℕ)) (omega arith)

-- whether the key is one of the notes'
abbrev is_noted : Key → List (Key × ℕ) → Bool
is_noted key notes = list_any (eq_by_cmp key_cmp key) (map (λ (note : Key × ℕ). note.0) notes)

or_later : (a b : Bool) → b ≡ true → (a || b) ≡ true
or_later true b e = refl
or_later false b e = e

or_between : (a b c : Bool) → (a || c) ≡ true → (a || (b || c)) ≡ true
or_between true b c e = refl
or_between false true c e = refl
or_between false false c e = e

-- the oldest of notes is one of them
fold_is_noted : (best : Key × ℕ) (rest : List (Key × ℕ)) → is_noted (fold older_note best rest).0 (best ∷ rest) ≡ true
fold_is_noted best [] = ap (λ (b : Bool). b || false) ((eq_by_cmp_equiv key_cmp_total).refl best.0)
fold_is_noted best (note ∷ rest) =
    elim (nat_lt note.1 best.1) as (λ (t : Bool). is_noted (fold older_note (if t then note else best) rest).0 (best ∷ note ∷ rest) ≡ true) [
      | true ↦ or_later (eq_by_cmp key_cmp (fold older_note note rest).0 best.0) (is_noted (fold older_note note rest).0 (note ∷ rest)) (fold_is_noted note rest)
      | false ↦ or_between (eq_by_cmp key_cmp (fold older_note best rest).0 best.0) (eq_by_cmp key_cmp (fold older_note best rest).0 note.0) (is_noted (fold older_note best rest).0 rest) (fold_is_noted best rest)
    ]

oldest_is_noted : (notes : List (Key × ℕ)) (key : Key) → Some key ≡ option_map (λ (note : Key × ℕ). note.0) (oldest notes) → is_noted key notes ≡ true
oldest_is_noted [] key e = absurd cc
oldest_is_noted (note ∷ rest) key e =
    let same : key ≡ (fold older_note note rest).0 = cc in
    ap (λ (k : Key). is_noted k (note ∷ rest)) same ∙ fold_is_noted note rest

none_oldest : (notes : List (Key × ℕ)) → None ≡ option_map (λ (note : Key × ℕ). note.0) (oldest notes) → length notes ≡ 0
none_oldest [] e = refl
none_oldest (note ∷ rest) e = absurd cc

-- where there is no oldest note there is none
pub no_oldest : (m : Notes) → None ≡ oldest_key m → finite.len m ≤ notes_limit
no_oldest m e = subst (λ (n : ℕ). n ≤ notes_limit) (sym (finite.len-entries m ∙ none_oldest (finite.entries m) e)) (omega arith)

-- the oldest note is there
oldest_there : (m : Notes) (key : Key) → Some key ≡ oldest_key m → finite.contains_key m key ≡ true
oldest_there m key e = finite.contains_key-keys m key ∙ oldest_is_noted (finite.entries m) key e

inserted_len : (m : Notes) (key : Key) (at : ℕ) → finite.len (finite.insert m key at) ≡ cond (finite.contains_key m key) (finite.len m) (finite.len m + 1)
inserted_len m key at = finite.len-insert key_cmp_total m key at

one_more_at_most : (b : Bool) (n : ℕ) → cond b n (n + 1) ≤ n + 1
one_more_at_most true n = omega arith
one_more_at_most false n = omega arith

-- a note more is at most one more
pub insert_within : (m n : Notes) (key : Key) (at : ℕ) → finite.len m < notes_limit → n ≡ finite.insert m key at → finite.len n ≤ notes_limit
insert_within m n key at few is =
    let at_most : finite.len n ≤ finite.len m + 1 = subst (λ (x : ℕ). x ≤ finite.len m + 1) (sym (ap (λ (x : Notes). finite.len x) is ∙ inserted_len m key at)) (one_more_at_most (finite.contains_key m key) (finite.len m)) in
    omega arith

-- as many notes as there may be are all kept
pub trimmed_within : (m : Notes) → finite.len m ≤ notes_limit → trimmed m ≡ m
trimmed_within m within = ap (λ (b : Bool). if b then m else given (oldest_key m) m (λ (key : Key). finite.remove m key)) (le-leb (finite.len m) notes_limit within)

-- without the oldest note there are few enough again
pub removed_within : (m n r : Notes) (key oldest : Key) (at : ℕ) → finite.len m ≤ notes_limit → n ≡ finite.insert m key at → Some oldest ≡ oldest_key n → r ≡ finite.remove n oldest → finite.len r ≤ notes_limit
removed_within m n r key oldest at within inserted is removed =
    let there : finite.contains_key n oldest ≡ true = oldest_there n oldest is in
    let fewer : finite.len r ≡ finite.len n - 1 = ap (λ (x : Notes). finite.len x) removed ∙ finite.len-remove key_cmp_total n oldest ∙ ap (λ (b : Bool). cond b (finite.len n - 1) (finite.len n)) there in
    let at_most : finite.len n ≤ finite.len m + 1 = subst (λ (x : ℕ). x ≤ finite.len m + 1) (sym (ap (λ (x : Notes). finite.len x) inserted ∙ inserted_len m key at)) (one_more_at_most (finite.contains_key m key) (finite.len m)) in
    omega arith

was_there : (b : Bool) (n limit : ℕ) → n ≤ limit → limit < cond b n (n + 1) → b ≡ false
was_there true n limit within more = absurd (omega arith)
was_there false n limit within more = refl

taken_back : (b c : Bool) (v : ℕ) (found : Option ℕ) → (b ≡ true → found ≡ None) → cond b None (cond b (Some v) found) ≡ found
taken_back true c v found none = sym (none refl)
taken_back false c v found none = refl

none_of : (o : Option ℕ) → is_some o ≡ false → o ≡ None
none_of None e = refl
none_of (Some v) e = absurd cc

-- where a note more was one too many, its key was new, and without it the notes are those of before
pub undone : (m n r : Notes) (key : Key) (at : ℕ) → finite.len m ≤ notes_limit → n ≡ finite.insert m key at → notes_limit < finite.len n → r ≡ finite.remove n key → r ≡ m
undone m n r key at within inserted more removed =
    removed ∙ ap (λ (x : Notes). finite.remove x key) inserted ∙ finite.same_map key_cmp_total exact_keys (finite.remove (finite.insert m key at) key) m alike
  where
    new_key : finite.get m key ≡ None
    new_key = none_of (finite.get m key) (was_there (finite.contains_key m key) (finite.len m) notes_limit within
        (subst (λ (x : ℕ). notes_limit < x) (ap (λ (x : Notes). finite.len x) inserted ∙ inserted_len m key at) more))

    alike : (q : Key) → finite.get (finite.remove (finite.insert m key at) key) q ≡ finite.get m q
    alike q =
        finite.get-remove key_cmp_total (finite.insert m key at) key q
        ∙ ap (cond (eq_by_cmp key_cmp q key) None) (finite.get-insert key_cmp_total m key at q)
        ∙ taken_back (eq_by_cmp key_cmp q key) true at (finite.get m q) (λ tied. sym (finite.get_tied key_cmp_total m q key (is_tied (key_cmp q key) tied)) ∙ new_key)
      where
        is_tied : (o : Ordering) → is_eq o ≡ true → o ≡ Equal
        is_tied Less e = absurd cc
        is_tied Equal e = refl
        is_tied Greater e = absurd cc
