-- The keys of a map at or below a prefix are a listing.
use Rattle.std.proofs.Common.{◌≡◌, inl, inr, ℕ, suc, ◌+◌, Bool, true, false, true≢false, ◌&&◌, ◌==◌, cond, List, [], ◌∷◌, ◌++◌, length, take, drop, Option, Some, None, Vec, refl, sym, ap, ◌∙◌, subst, arith}
use Rattle.std.specs.Prelude.{String, IsSome, option_map, nat_eq, map, not}
use Rattle.std.specs.List.{AllByRecursion}
use Rattle.std.specs.List.Sorted.{IsStrictlySortedBy}
use Rattle.std.specs.declared.alloc.Global.{Global}
use Rattle.std.specs.declared.cmp.Ordering.{Ordering}
use Rattle.std.specs.declared.cmp.Ordering.TheVariants.{Less, Equal, Greater}
use Rattle.std.specs.Ordering.{nat_cmp, is_eq}
use Rattle.std.specs.Cmp.Lexicographic.{slice_cmp, pointwise}
use Rattle.std.specs.String.{string_bytes, string_cmp}
use Rattle.std.specs.BTreeMap.{BTreeMap, get_by_text, keys}
use Rattle.std.specs.Map.{lookup}
use Rattle.std.proofs.lemmas.Bool.{cases_Bool}
use Rattle.std.proofs.lemmas.Bool.Decides.{nat_tests}
use Rattle.std.proofs.lemmas.Map.Lookups.{exact_bytes}
use Rattle.std.proofs.lemmas.Map.Text.{is_eq-slice_cmp}
use Rattle.std.proofs.lemmas.Slice.Eq.{bytes_eq-Decides}
use Rattle.std.proofs.Common.{append_assoc, get_or, ◌<◌, ◌≤◌, Result, Ok, Err, is_ok, if◌then◌else◌}
use Rattle.std.specs.Prelude.{IfOk}
use Rattle.std.proofs.lemmas.List.{append-nil}
use Rattle.nx_base.specs.declared.name_err.NoMemory.{NoMemory}
use Rattle.nx_base.specs.Paths.{file_name_of}
use Rattle.nx_base.proofs.ReadsItself.{file_name_of-same}
use Rattle.nx_base.specs.Order.{name_cmp}
use Rattle.disk_model.specs.Disk.{AtOrBelow, IsIn, Rises, IsListing, Tree}
use Rattle.disk_model.specs.Listed.{is_at_or_below, listed, AreBeside}
use Rattle.disk_model.specs.PastLaws.{and_cases}

-- ---- the test and the fact

same_number : (b p : ℕ) → (b == p) ≡ true → b ≡ p
same_number b p same = grind (arith, nat_tests)

pub below-from_test : (prefix name : List ℕ) → is_at_or_below prefix name ≡ true → AtOrBelow prefix name
below-from_test [] [] test = inl refl
below-from_test [] (b ∷ name) test = let slash : b ≡ 47 = same_number b 47 test in inr (ap (λ (x : ℕ). x ∷ []) slash)
below-from_test (p ∷ prefix) [] test = absurd (true≢false (sym test))
below-from_test (p ∷ prefix) (b ∷ name) test =
    let both = and_cases (b == p) (is_at_or_below prefix name) test in
    let head : b ≡ p = same_number b p both.0 in
    elim (below-from_test prefix name both.1) [
      | inl same ↦ inl (λ i. head i ∷ same i)
      | inr under ↦
          let long : length (p ∷ prefix) + 1 ≡ suc (length prefix + 1) = omega arith in
          inr (ap (λ (n : ℕ). take n (b ∷ name)) long ∙ (λ i. head i ∷ under i))
    ]

pub test-from_below : (prefix name : List ℕ) → AtOrBelow prefix name → is_at_or_below prefix name ≡ true
test-from_below [] [] below = refl
test-from_below [] (b ∷ name) (inl same) = absurd cc
test-from_below [] (b ∷ name) (inr under) = let slash : b ≡ 47 = cc in grind (arith, nat_tests)
test-from_below (p ∷ prefix) [] (inl same) = absurd cc
test-from_below (p ∷ prefix) [] (inr under) =
    let long : suc (length prefix + 1) ≡ length (p ∷ prefix) + 1 = omega arith in
    let none : List ℕ = [] in
    let whole : take (suc (length prefix + 1)) none ≡ p ∷ (prefix ++ 47 ∷ []) = ap (λ (n : ℕ). take n none) long ∙ under in
    absurd cc
test-from_below (p ∷ prefix) (b ∷ name) (inl same) =
    let head : b ≡ p = cc in
    let tail : name ≡ prefix = cc in
    let first : (b == p) ≡ true = grind (arith, nat_tests) in
    rw (first, test-from_below prefix name (inl tail)) refl
test-from_below (p ∷ prefix) (b ∷ name) (inr under) =
    let long : suc (length prefix + 1) ≡ length (p ∷ prefix) + 1 = omega arith in
    let whole : b ∷ take (length prefix + 1) name ≡ p ∷ (prefix ++ 47 ∷ []) = ap (λ (n : ℕ). take n (b ∷ name)) long ∙ under in
    let head : b ≡ p = cc in
    let tail : take (length prefix + 1) name ≡ prefix ++ 47 ∷ [] = cc in
    let first : (b == p) ≡ true = grind (arith, nat_tests) in
    rw (first, test-from_below prefix name (inr tail)) refl

-- ---- the names and the map

abbrev Entries : Type 0
Entries = List (String Global × Vec ℕ Global)

abbrev is_key : List ℕ → String Global → Bool
is_key n k = is_eq (slice_cmp nat_cmp n (string_bytes k))

equal : (o : Ordering) → is_eq o ≡ true → o ≡ Equal
equal Less same = absurd (true≢false (sym same))
equal Equal same = refl
equal Greater same = absurd (true≢false (sym same))

key-is : (n : List ℕ) (k : String Global) → is_key n k ≡ true → n ≡ string_bytes k
key-is n k same = exact_bytes n (string_bytes k) (equal (slice_cmp nat_cmp n (string_bytes k)) same)

-- each chosen key is listed
pub listed-all : (chosen : List ℕ → Bool) (n : List ℕ) (es : Entries) → chosen n ≡ true → IsSome (lookup (is_key n) es) → IsIn n (listed chosen es)
listed-all chosen n [] below none = absurd (true≢false (sym none))
listed-all chosen n (e ∷ es) below found = elim (cases_Bool (is_key n e.0)) [
  | inl here ↦ first (key-is n e.0 here)
  | inr other ↦ later (listed-all chosen n es below (subst (λ (b : Bool). IsSome (cond b (Some e.1) (lookup (is_key n) es))) other found))
] where
  first : n ≡ string_bytes e.0 → IsIn n (listed chosen (e ∷ es))
  first same =
      let test : chosen (string_bytes e.0) ≡ true = subst (λ (x : List ℕ). chosen x ≡ true) same below in
      rw test (inl same)

  later : IsIn n (listed chosen es) → IsIn n (listed chosen (e ∷ es))
  later there = elim (chosen (string_bytes e.0)) as (λ b. IsIn n (cond b (string_bytes e.0 ∷ listed chosen es) (listed chosen es))) [
    | true ↦ inr there
    | false ↦ there
  ]

key-refl : (n : List ℕ) (k : String Global) → n ≡ string_bytes k → is_key n k ≡ true
key-refl n k same = is_eq-slice_cmp n (string_bytes k) ∙ (bytes_eq-Decides n (string_bytes k)).1 same

lookup-here : (n : List ℕ) (e : String Global × Vec ℕ Global) (es : Entries) → is_key n e.0 ≡ true → IsSome (lookup (is_key n) (e ∷ es))
lookup-here n e es here = rw here refl

lookup-later : (n : List ℕ) (e : String Global × Vec ℕ Global) (es : Entries) → IsSome (lookup (is_key n) es) → IsSome (lookup (is_key n) (e ∷ es))
lookup-later n e es there = elim (is_key n e.0) as (λ b. IsSome (cond b (Some e.1) (lookup (is_key n) es))) [ true ↦ refl | false ↦ there ]

-- each listed name is a chosen key
pub listed-only : (chosen : List ℕ → Bool) (n : List ℕ) (es : Entries) → IsIn n (listed chosen es) → (chosen n ≡ true) × IsSome (lookup (is_key n) es)
listed-only chosen n [] there = absurd there
listed-only chosen n (e ∷ es) there = elim (cases_Bool (chosen (string_bytes e.0))) [
  | inl test ↦ among test (listed-only chosen n es) (subst (λ (b : Bool). IsIn n (cond b (string_bytes e.0 ∷ listed chosen es) (listed chosen es))) test there)
  | inr not ↦ deeper (listed-only chosen n es (subst (λ (b : Bool). IsIn n (cond b (string_bytes e.0 ∷ listed chosen es) (listed chosen es))) not there))
] where
  deeper : (chosen n ≡ true) × IsSome (lookup (is_key n) es) → (chosen n ≡ true) × IsSome (lookup (is_key n) (e ∷ es))
  deeper found = (found.0, lookup-later n e es found.1)

  among : chosen (string_bytes e.0) ≡ true → (IsIn n (listed chosen es) → (chosen n ≡ true) × IsSome (lookup (is_key n) es))
      → IsIn n (string_bytes e.0 ∷ listed chosen es) → (chosen n ≡ true) × IsSome (lookup (is_key n) (e ∷ es))
  among test later (inl same) = (subst (λ (x : List ℕ). chosen x ≡ true) (sym same) test, lookup-here n e es (key-refl n e.0 same))
  among test later (inr there) = deeper (later there)

-- ---- the order

rises-cons : (x : List ℕ) (xs : List (List ℕ)) → ((n : List ℕ) → IsIn n xs → name_cmp x n ≡ Less) → Rises xs → Rises (x ∷ xs)
rises-cons x [] below rises = tt
rises-cons x (y ∷ xs) below rises = (below y (inl refl), rises)

abbrev keys_of : Entries → List (String Global)
keys_of [] = []
keys_of (e ∷ es) = e.0 ∷ keys_of es

above-listed : (chosen : List ℕ → Bool) (k : String Global) (es : Entries) → AllByRecursion (λ y. string_cmp k y ≡ Less) (keys_of es)
    → (n : List ℕ) → IsIn n (listed chosen es) → name_cmp (string_bytes k) n ≡ Less
above-listed chosen k [] above n there = absurd there
above-listed chosen k (e ∷ es) above n there =
    elim (chosen (string_bytes e.0)) as (λ b. IsIn n (cond b (string_bytes e.0 ∷ listed chosen es) (listed chosen es)) → name_cmp (string_bytes k) n ≡ Less) [
      | true ↦ λ here. among (above-listed chosen k es above.1 n) here
      | false ↦ λ here. above-listed chosen k es above.1 n here
    ] there
  where
    among : (IsIn n (listed chosen es) → name_cmp (string_bytes k) n ≡ Less) → IsIn n (string_bytes e.0 ∷ listed chosen es) → name_cmp (string_bytes k) n ≡ Less
    among later (inl same) = rw same above.0
    among later (inr there) = later there

pub listed-rises : (chosen : List ℕ → Bool) (es : Entries) → IsStrictlySortedBy string_cmp (keys_of es) → Rises (listed chosen es)
unfolding IsStrictlySortedBy
listed-rises chosen [] sorted = tt
listed-rises chosen (e ∷ es) sorted =
    elim (chosen (string_bytes e.0)) as (λ b. Rises (cond b (string_bytes e.0 ∷ listed chosen es) (listed chosen es))) [
      | true ↦ rises-cons (string_bytes e.0) (listed chosen es) (above-listed chosen e.0 es sorted.0) (listed-rises chosen es sorted.1)
      | false ↦ listed-rises chosen es sorted.1
    ]

keys_of-map : (es : Entries) → map (λ e. e.0) es ≡ keys_of es
keys_of-map [] = refl
keys_of-map (e ∷ es) = ap (λ (ks : List (String Global)). e.0 ∷ ks) (keys_of-map es)

some-items : (o : Option (Vec ℕ Global)) → IsSome (option_map (λ v. v.items) o) → IsSome o
some-items None found = found
some-items (Some v) found = refl

items-some : (o : Option (Vec ℕ Global)) → IsSome o → IsSome (option_map (λ v. v.items) o)
items-some None found = found
items-some (Some v) found = refl

-- the keys of a map at or below the prefix are its listing
pub listing : (prefix : List ℕ) (m : BTreeMap (String Global) (Vec ℕ Global)) (names : List (List ℕ)) → IsStrictlySortedBy string_cmp (keys m) → names ≡ listed (is_at_or_below prefix) m.entries
    → IsListing prefix (λ n. option_map (λ v. v.items) (get_by_text m n)) names
listing prefix m names sorted same = rw same (record {
  rises = listed-rises (is_at_or_below prefix) m.entries (subst (IsStrictlySortedBy string_cmp) (keys_of-map m.entries) sorted);
  all = λ n below found. listed-all (is_at_or_below prefix) n m.entries (test-from_below prefix n below) (some-items (get_by_text m n) found);
  only = λ n there. let found = listed-only (is_at_or_below prefix) n m.entries there in (below-from_test prefix n found.0, items-some (get_by_text m n) found.1);
})

abbrev pub is_beside : List ℕ → List ℕ → Bool
is_beside prefix n = not (is_at_or_below prefix n)

beside-test : (prefix n : List ℕ) → (AtOrBelow prefix n → ⊥) → is_beside prefix n ≡ true
beside-test prefix n beside = elim (cases_Bool (is_at_or_below prefix n)) [
  | inl below ↦ absurd (beside (below-from_test prefix n below))
  | inr other ↦ rw other refl
]

test-beside : (prefix n : List ℕ) → is_beside prefix n ≡ true → AtOrBelow prefix n → ⊥
test-beside prefix n beside below = true≢false (sym beside ∙ ap not (test-from_below prefix n below))

-- the keys beside the prefix
pub beside : (prefix : List ℕ) (m : BTreeMap (String Global) (Vec ℕ Global)) (names : List (List ℕ)) → IsStrictlySortedBy string_cmp (keys m) → names ≡ listed (is_beside prefix) m.entries
    → AreBeside prefix (λ n. option_map (λ v. v.items) (get_by_text m n)) names
beside prefix m names sorted same = rw same (record {
  rises = listed-rises (is_beside prefix) m.entries (subst (IsStrictlySortedBy string_cmp) (keys_of-map m.entries) sorted);
  all = λ n other found. listed-all (is_beside prefix) n m.entries (beside-test prefix n other) (some-items (get_by_text m n) found);
  only = λ n there. test-beside prefix n (listed-only (is_beside prefix) n m.entries there).0;
})

-- ---- the test by `strip_prefix`

abbrev ends_here : List ℕ → Bool
ends_here [] = true
ends_here (b ∷ rest) = b == 47

pub stripped : (prefix name rest : List ℕ) → pointwise nat_eq (take (length prefix) name) prefix ≡ true → rest ≡ drop (length prefix) name → is_at_or_below prefix name ≡ ends_here rest
stripped [] [] rest starts is = rw is refl
stripped [] (b ∷ name) rest starts is = rw is refl
stripped (p ∷ prefix) [] rest starts is = absurd (true≢false (sym starts))
stripped (p ∷ prefix) (b ∷ name) rest starts is =
    let both = and_cases (nat_eq b p) (pointwise nat_eq (take (length prefix) name) prefix) starts in
    rw both.0 (stripped prefix name rest both.1 is)

pub not_stripped : (prefix name : List ℕ) → pointwise nat_eq (take (length prefix) name) prefix ≡ false → is_at_or_below prefix name ≡ false
not_stripped [] name starts = absurd (true≢false starts)
not_stripped (p ∷ prefix) [] starts = refl
not_stripped (p ∷ prefix) (b ∷ name) starts =
    elim (nat_eq b p) as (λ e. (e && pointwise nat_eq (take (length prefix) name) prefix) ≡ false → (e && is_at_or_below prefix name) ≡ false) [
      | true ↦ λ not. not_stripped prefix name not
      | false ↦ λ not. refl
    ] starts

pub ends_here-empty : (rest : List ℕ) → length rest < 1 → ends_here rest ≡ true
ends_here-empty [] short = refl
ends_here-empty (b ∷ rest) short = absurd (omega arith)

pub ends_here-next : (rest : List ℕ) → 1 ≤ length rest → ends_here rest ≡ (get_or rest 0 0 == 47)
ends_here-next [] long = absurd (omega arith)
ends_here-next (b ∷ rest) long = refl

-- ---- the loop over the map

-- one entry more
pub listed-step : (names : List (List ℕ)) (chosen : List ℕ → Bool) (e : String Global × Vec ℕ Global) (es : Entries)
    → (names ++ (if chosen (string_bytes e.0) then string_bytes e.0 ∷ [] else [])) ++ listed chosen es ≡ names ++ listed chosen (e ∷ es)
listed-step names chosen e es =
    elim (chosen (string_bytes e.0)) as (λ b. (names ++ (if b then string_bytes e.0 ∷ [] else [])) ++ listed chosen es ≡ names ++ (if b then string_bytes e.0 ∷ listed chosen es else listed chosen es)) [
      | true ↦ append_assoc names (string_bytes e.0 ∷ []) (listed chosen es)
      | false ↦ ap (λ (l : List (List ℕ)). l ++ listed chosen es) (append-nil names)
    ]

-- a name that was read is its text
pub file_name-is : (text name : List ℕ) → file_name_of text ≡ Ok name → name ≡ text
file_name-is text name read =
    let whole : file_name_of text ≡ Ok text = file_name_of-same text (ap is_ok read) in
    cc

-- the listing of one tree is that of the same tree
pub listing-same : (prefix : List ℕ) (t u : Tree) (r : Result (Vec (List ℕ) Global) NoMemory) → ((n : List ℕ) → t n ≡ u n)
    → IfOk r (λ v. IsListing prefix t v.items) → IfOk r (λ v. IsListing prefix u v.items)
listing-same prefix t u (Err e) same listing = tt
listing-same prefix t u (Ok v) same listing = record {
  rises = listing.rises;
  all = λ n below found. listing.all n below (subst (λ (o : Option (List ℕ)). IsSome o) (sym (same n)) found);
  only = λ n there. ((listing.only n there).0, subst (λ (o : Option (List ℕ)). IsSome o) (same n) (listing.only n there).1);
}
