-- Entries in the order of their keys: their pages, and what stands after a key.
use Rattle.std.proofs.Common.{◌≡◌, ◌≤◌, ℕ, zero, suc, Bool, true, false, cond, List, [], ◌∷◌, length, map, take, drop, filter, Option, Some, None, true≢false, refl, sym, ap, ◌∙◌, arith}
use Rattle.std.proofs.lemmas.List.{length-take, length-map}
use Rattle.std.specs.declared.cmp.Ordering.{Ordering}
use Rattle.std.specs.declared.cmp.Ordering.TheVariants.{Less, Equal, Greater}
use Rattle.std.specs.List.{AllByRecursion}
use Rattle.std.specs.List.Sorted.{IsStrictlySortedBy}
use Rattle.std.specs.Map.{keys_of}
use Rattle.std.specs.Ordering.{is_lt}
use Rattle.nx_base.specs.declared.key.Key.{Key}
use Rattle.nx_base.specs.declared.asset.Asset.{Asset}
use Rattle.nx_base.specs.Order.{key_cmp}
use Rattle.nx_base.specs.OrderLaws.{key_cmp_total}
use Rattle.asset_keeper.specs.Table.{row_of, entries_after}
use Rattle.asset_keeper.specs.Ranges.{in_range, rows_in_range, entries_in_range}
use Rattle.asset_keeper.specs.Pages.{RiseAfter, last_key}
use Rattle.asset_keeper.proofs.InRange.{and_left, and_right}

-- the keys of all entries are above the key
abbrev pub Above : Key → List (Key × Asset) → Type 0
Above k [] = Unit {0}
Above k (e ∷ es) = (key_cmp k e.0 ≡ Less) × Above k es

-- each key is above those before it
abbrev pub Rising : List (Key × Asset) → Type 0
Rising [] = Unit {0}
Rising (e ∷ es) = Above e.0 es × Rising es

above_all : (k : Key) (es : List (Key × Asset)) → AllByRecursion (λ y. key_cmp k y ≡ Less) (keys_of es) → Above k es
above_all k [] h = tt
above_all k (e ∷ es) h = (h.0, above_all k es h.1)

-- the entries of an ordered tree
pub rising_sorted : (es : List (Key × Asset)) → IsStrictlySortedBy key_cmp (keys_of es) → Rising es
unfolding IsStrictlySortedBy
rising_sorted [] h = tt
rising_sorted (e ∷ es) h = (above_all e.0 es h.0, rising_sorted es h.1)

is_less : (r : Ordering) → is_lt r ≡ true → r ≡ Less
is_less Less h = refl
is_less Equal h = cc
is_less Greater h = cc

rise_filter : (k : Key) (es : List (Key × Asset)) (p : Key × Asset → Bool) (n : ℕ) → Above k es → Rising es → RiseAfter (Some k) (map row_of (take n (filter p es)))
rise_filter k [] p zero above rising = tt
rise_filter k [] p (suc n) above rising = tt
rise_filter k (e ∷ es) p zero above rising = tt
rise_filter k (e ∷ es) p (suc n) above rising =
    elim (p e) as (λ b. RiseAfter (Some k) (map row_of (take (suc n) (cond b (e ∷ filter p es) (filter p es))))) [
      | true ↦ (above.0, rise_filter e.0 es p n rising.0 rising.1)
      | false ↦ rise_filter k es p (suc n) above.1 rising.1
    ]

rise_all : (k : Key) (es : List (Key × Asset)) (n : ℕ) → Above k es → Rising es → RiseAfter (Some k) (map row_of (take n es))
rise_all k [] zero above rising = tt
rise_all k [] (suc n) above rising = tt
rise_all k (e ∷ es) zero above rising = tt
rise_all k (e ∷ es) (suc n) above rising = (above.0, rise_all e.0 es n rising.0 rising.1)

rise_after : (k : Key) (es : List (Key × Asset)) (n : ℕ) → Rising es → RiseAfter (Some k) (map row_of (take n (filter (λ e. is_lt (key_cmp k e.0)) es)))
rise_after k [] zero rising = tt
rise_after k [] (suc n) rising = tt
rise_after k (e ∷ es) zero rising = tt
rise_after k (e ∷ es) (suc n) rising =
    let p : Key × Asset → Bool = λ f. is_lt (key_cmp k f.0) in
    elim (p e) as (λ b. p e ≡ b → RiseAfter (Some k) (map row_of (take (suc n) (cond b (e ∷ filter p es) (filter p es))))) [
      | true ↦ λ h. (is_less (key_cmp k e.0) h, rise_filter e.0 es p n rising.0 rising.1)
      | false ↦ λ h. rise_after k es (suc n) rising.1
    ] refl

-- the keys of a page rise, from the key that it comes after
pub page_rises : (after : Option Key) (es : List (Key × Asset)) (n : ℕ) → Rising es → RiseAfter after (map row_of (take n (entries_after after es)))
page_rises None [] zero rising = tt
page_rises None [] (suc n) rising = tt
page_rises None (e ∷ es) zero rising = tt
page_rises None (e ∷ es) (suc n) rising = (tt, rise_all e.0 es n rising.0 rising.1)
page_rises (Some k) es n rising = rise_after k es n rising

-- and it has at most n rows
pub page_few : (xs : List (Key × Asset)) (n : ℕ) → length (map row_of (take n xs)) ≤ n
page_few xs n = omega (arith, length-map (take n xs) row_of, length-take n xs)

-- ---- ranges

take_in_range : (xs : List (Key × Asset)) (n : ℕ) → entries_in_range xs ≡ true → rows_in_range (map row_of (take n xs)) ≡ true
take_in_range [] zero h = refl
take_in_range [] (suc n) h = refl
take_in_range (e ∷ xs) zero h = refl
take_in_range (e ∷ xs) (suc n) h = rw (and_left (in_range e.1) (entries_in_range xs) h) (take_in_range xs n (and_right (in_range e.1) (entries_in_range xs) h))

filter_in_range : (p : Key × Asset → Bool) (es : List (Key × Asset)) → entries_in_range es ≡ true → entries_in_range (filter p es) ≡ true
filter_in_range p [] h = refl
filter_in_range p (e ∷ es) h =
    let rest = filter_in_range p es (and_right (in_range e.1) (entries_in_range es) h) in
    elim (p e) as (λ b. entries_in_range (cond b (e ∷ filter p es) (filter p es)) ≡ true) [
      | true ↦ rw (and_left (in_range e.1) (entries_in_range es) h) rest
      | false ↦ rest
    ]

after_in_range : (after : Option Key) (es : List (Key × Asset)) → entries_in_range es ≡ true → entries_in_range (entries_after after es) ≡ true
after_in_range None es h = h
after_in_range (Some k) es h = filter_in_range (λ e. is_lt (key_cmp k e.0)) es h

-- each row of a page is in range
pub page_in_range : (after : Option Key) (es : List (Key × Asset)) (n : ℕ) → entries_in_range es ≡ true → rows_in_range (map row_of (take n (entries_after after es))) ≡ true
page_in_range after es n h = take_in_range (entries_after after es) n (after_in_range after es h)

-- ---- pages that are joined

filter_all : (p : Key × Asset → Bool) (es : List (Key × Asset)) (k : Key) → ((e : Key × Asset) → key_cmp k e.0 ≡ Less → p e ≡ true) → Above k es → filter p es ≡ es
filter_all p [] k h above = refl
filter_all p (e ∷ es) k h above = rw (h e above.0) (ap (λ xs. e ∷ xs) (filter_all p es k h above.1))

lt_less : (r : Ordering) → r ≡ Less → is_lt r ≡ true
lt_less Less h = refl
lt_less Equal h = cc
lt_less Greater h = cc

-- of keys in order, the lesser isn't above the greater
not_above : (a b : Key) → key_cmp a b ≡ Less → is_lt (key_cmp b a) ≡ false
not_above a b h = rw (key_cmp_total.antisymm b a, h) refl

-- no key is above itself
same_not_above : (a : Key) → is_lt (key_cmp a a) ≡ false
same_not_above a = elim (key_cmp a a) as (λ r. key_cmp a a ≡ r → is_lt r ≡ false) [
  | Less ↦ λ h. ap is_lt (sym h) ∙ not_above a a h
  | Equal ↦ λ h. refl
  | Greater ↦ λ h. refl
] refl

above_trans : (a b : Key) (es : List (Key × Asset)) → key_cmp a b ≡ Less → Above b es → Above a es
above_trans a b [] h above = tt
above_trans a b (e ∷ es) h above = (key_cmp_total.trans a b e.0 h above.0, above_trans a b es h above.1)

-- the key of the last of the first m rows, of which all are above k
abbrev last_of : Key → List (Key × Asset) → ℕ → Key
last_of k es zero = k
last_of k [] (suc m) = k
last_of k (e ∷ es) (suc m) = last_of e.0 es m

last_key-rows : (k : Key) (es : List (Key × Asset)) (m : ℕ) → last_key (Some k) (map row_of (take m es)) ≡ Some (last_of k es m)
last_key-rows k [] zero = refl
last_key-rows k (e ∷ es) zero = refl
last_key-rows k [] (suc m) = refl
last_key-rows k (e ∷ es) (suc m) = last_key-rows e.0 es m

-- what is below k isn't above the last key
not_above_last : (a k : Key) (es : List (Key × Asset)) (m : ℕ) → key_cmp a k ≡ Less → Above k es → Rising es → is_lt (key_cmp (last_of k es m) a) ≡ false
not_above_last a k [] zero h above rising = not_above a k h
not_above_last a k (e ∷ es) zero h above rising = not_above a k h
not_above_last a k [] (suc m) h above rising = not_above a k h
not_above_last a k (e ∷ es) (suc m) h above rising = not_above_last a e.0 es m (key_cmp_total.trans a k e.0 h above.0) rising.0 rising.1

-- the first of the entries isn't above the last key
head_stays : (e : Key × Asset) (es : List (Key × Asset)) (m : ℕ) → Above e.0 es → Rising es → is_lt (key_cmp (last_of e.0 es m) e.0) ≡ false
head_stays e [] zero above rising = same_not_above e.0
head_stays e (f ∷ es) zero above rising = same_not_above e.0
head_stays e [] (suc m) above rising = same_not_above e.0
head_stays e (f ∷ es) (suc m) above rising = not_above_last e.0 f.0 es m above.0 rising.0 rising.1

-- after the last key of the first rows come the other entries
rest_after : (k : Key) (es : List (Key × Asset)) (m : ℕ) → Above k es → Rising es → filter (λ e. is_lt (key_cmp (last_of k es m) e.0)) es ≡ drop m es
rest_after k [] zero above rising = refl
rest_after k [] (suc m) above rising = refl
rest_after k (e ∷ es) zero above rising = filter_all (λ f. is_lt (key_cmp k f.0)) (e ∷ es) k (λ f h. lt_less (key_cmp k f.0) h) above
rest_after k (e ∷ es) (suc m) above rising = rw (head_stays e es m rising.0 rising.1) (rest_after e.0 es m rising.0 rising.1)

-- for entries that follow an optional key, the same
filter_twice : (k : Key) (q : Key) (es : List (Key × Asset)) → ((e : Key × Asset) → is_lt (key_cmp q e.0) ≡ true → is_lt (key_cmp k e.0) ≡ true)
    → filter (λ e. is_lt (key_cmp q e.0)) (filter (λ e. is_lt (key_cmp k e.0)) es) ≡ filter (λ e. is_lt (key_cmp q e.0)) es
filter_twice k q [] h = refl
filter_twice k q (e ∷ es) h =
    let p : Key × Asset → Bool = λ f. is_lt (key_cmp k f.0) in
    let r : Key × Asset → Bool = λ f. is_lt (key_cmp q f.0) in
    elim (p e) as (λ b. p e ≡ b → filter r (cond b (e ∷ filter p es) (filter p es)) ≡ cond (r e) (e ∷ filter r es) (filter r es)) [
      | true ↦ λ in_k. ap (λ xs. cond (r e) (e ∷ xs) xs) (filter_twice k q es h)
      | false ↦ λ out_k. elim (r e) as (λ b. r e ≡ b → filter r (filter p es) ≡ cond b (e ∷ filter r es) (filter r es)) [
        | true ↦ λ in_q. absurd (true≢false (sym (h e in_q) ∙ out_k))
        | false ↦ λ out_q. filter_twice k q es h
      ] refl
    ] refl

filter_keeps : (k : Key) (p : Key × Asset → Bool) (es : List (Key × Asset)) → Above k es → Above k (filter p es)
filter_keeps k p [] above = tt
filter_keeps k p (e ∷ es) above = elim (p e) as (λ b. Above k (cond b (e ∷ filter p es) (filter p es))) [ true ↦ (above.0, filter_keeps k p es above.1) | false ↦ filter_keeps k p es above.1 ]

filter_above : (k : Key) (es : List (Key × Asset)) → Rising es → Above k (filter (λ e. is_lt (key_cmp k e.0)) es) × Rising (filter (λ e. is_lt (key_cmp k e.0)) es)
filter_above k [] rising = (tt, tt)
filter_above k (e ∷ es) rising =
    let p : Key × Asset → Bool = λ f. is_lt (key_cmp k f.0) in
    let rest = filter_above k es rising.1 in
    elim (p e) as (λ b. p e ≡ b → Above k (cond b (e ∷ filter p es) (filter p es)) × Rising (cond b (e ∷ filter p es) (filter p es))) [
      | true ↦ λ h. ((is_less (key_cmp k e.0) h, rest.0), (filter_keeps e.0 p es rising.0, rest.1))
      | false ↦ λ h. rest
    ] refl

last_at_least : (k : Key) (es : List (Key × Asset)) (m : ℕ) → Above k es → Rising es → (e : Key × Asset) → is_lt (key_cmp (last_of k es m) e.0) ≡ true → is_lt (key_cmp k e.0) ≡ true
last_at_least k [] zero above rising e h = h
last_at_least k (f ∷ es) zero above rising e h = h
last_at_least k [] (suc m) above rising e h = h
last_at_least k (f ∷ es) (suc m) above rising e h =
    let over = last_at_least f.0 es m rising.0 rising.1 e h in
    lt_less (key_cmp k e.0) (key_cmp_total.trans k f.0 e.0 above.0 (is_less (key_cmp f.0 e.0) over))

-- after the last key of a page come the entries that the page left
pub page_rest : (after : Option Key) (es : List (Key × Asset)) (n : ℕ) → Rising es
    → entries_after (last_key after (map row_of (take n (entries_after after es)))) es ≡ drop n (entries_after after es)
page_rest None [] zero rising = refl
page_rest None [] (suc n) rising = refl
page_rest None (e ∷ es) zero rising = refl
page_rest None (e ∷ es) (suc n) rising =
    rw (last_key-rows e.0 es n, head_stays e es n rising.0 rising.1) (rest_after e.0 es n rising.0 rising.1)
page_rest (Some k) es n rising =
    let xs = filter (λ e. is_lt (key_cmp k e.0)) es in
    let facts = filter_above k es rising in
    rw (last_key-rows k xs n) (sym (filter_twice k (last_of k xs n) es (last_at_least k xs n facts.0 facts.1)) ∙ rest_after k xs n facts.0 facts.1)
