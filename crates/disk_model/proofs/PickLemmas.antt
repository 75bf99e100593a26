-- The image that a number picks.
use Rattle.std.proofs.Common.{◌≡◌, ◌⊎◌, inl, inr, ℕ, zero, suc, ◌<◌, ◌/◌, ◌%◌, Bool, true, false, true≢false, ◌||◌, List, [], ◌∷◌, ◌++◌, length, get_or, Option, Some, None, Vec, refl, sym, ap, ◌∙◌, subst, arith}
use Rattle.std.specs.Prelude.{if◌then◌else◌, map, is_some, Result, Ok, Err, IfOk, codes}
use Rattle.nx_base.specs.declared.name_err.NoMemory.{NoMemory}
use Rattle.disk_model.specs.Listed.{AreBeside}
use Rattle.std.specs.List.{list_any}
use Rattle.std.specs.declared.alloc.Global.{Global}
use Rattle.std.specs.declared.cmp.Ordering.TheVariants.{Less}
use Rattle.std.specs.Str.{bytes_eq}
use Rattle.std.specs.Ordering.{is_eq}
use Rattle.std.specs.Cmp.Lexicographic.{nat_list_cmp_total}
use Rattle.std.proofs.lemmas.Slice.Eq.{bytes_eq-Decides}
use Rattle.std.proofs.lemmas.Map.Text.{is_eq-slice_cmp}
use Rattle.std.proofs.lemmas.Bool.{cases_Bool}
use Rattle.nx_base.specs.Order.{name_cmp}
use Rattle.disk_model.specs.declared.memory.change.Change.{Change}
use Rattle.disk_model.specs.Disk.{Tree, Lists, Among, IsIn, Rises}
use Rattle.disk_model.specs.Moments.{IsImage}
use Rattle.disk_model.specs.Past.{Files, At, lookup, value_of, run, first_of}
use Rattle.disk_model.specs.Picked.{picked, AreNames, or_else}

among-at : (list : List (Option (List ℕ))) (i : ℕ) → i < length list → Among (get_or list i None) list
among-at [] i lt = absurd (omega arith)
among-at (v ∷ list) zero lt = inl refl
among-at (v ∷ list) (suc i) lt = inr (among-at list i (omega arith))

pub nonempty : (v : Option (List ℕ)) (list : List (Option (List ℕ))) → Among v list → 0 < length list
nonempty v [] there = absurd there
nonempty v (w ∷ list) there = omega arith

same : (n x : List ℕ) → bytes_eq n x ≡ true → n ≡ x
same n x test = (bytes_eq-Decides n x).0 test

differs : (n x : List ℕ) → (n ≡ x → ⊥) → bytes_eq n x ≡ false
differs n x other = elim (cases_Bool (bytes_eq n x)) [ inl is ↦ absurd (other (same n x is)) | inr not ↦ not ]

later : (n x : List ℕ) (xs : List (List ℕ)) → bytes_eq n x ≡ false → IsIn n (x ∷ xs) → IsIn n xs
later n x xs other (inl is) = absurd (true≢false (sym ((bytes_eq-Decides n x).1 is) ∙ other))
later n x xs other (inr there) = there

-- what is picked of a name stands in its list
picked-among : (lists : Lists) (names : List (List ℕ)) (pick : ℕ) (n : List ℕ) → 0 < length (lists n) → IsIn n names → Among (picked lists names pick n) (lists n)
picked-among lists [] pick n some there = absurd there
picked-among lists (x ∷ xs) pick n some there = elim (cases_Bool (bytes_eq n x)) [
  | inl is ↦ rw is (subst (λ (y : List ℕ). Among (get_or (lists y) (pick % length (lists y)) None) (lists n)) (same n x is) (among-at (lists n) (pick % length (lists n)) (omega arith)))
  | inr not ↦ rw not (picked-among lists xs (pick / length (lists x)) n some (later n x xs not there))
]

pub picked-none : (lists : Lists) (names : List (List ℕ)) (pick : ℕ) (n : List ℕ) → (IsIn n names → ⊥) → picked lists names pick n ≡ None
picked-none lists [] pick n absent = refl
picked-none lists (x ∷ xs) pick n absent =
    rw (differs n x (λ is. absent (inl is))) (picked-none lists xs (pick / length (lists x)) n (λ there. absent (inr there)))

in_or_not : (n : List ℕ) (names : List (List ℕ)) → IsIn n names ⊎ (IsIn n names → ⊥)
in_or_not n [] = inr (λ there. there)
in_or_not n (x ∷ xs) = elim (cases_Bool (bytes_eq n x)) [
  | inl is ↦ inl (inl (same n x is))
  | inr not ↦ elim (in_or_not n xs) [ inl there ↦ inl (inr there) | inr absent ↦ inr (λ there. absent (later n x xs not there)) ]
]

pub picked-image : (lists : Lists) (names : List (List ℕ)) (pick : ℕ) (image : Tree) → AreNames lists names → ((n : List ℕ) → 0 < length (lists n))
    → ((n : List ℕ) → image n ≡ picked lists names pick n) → IsImage lists image
picked-image lists names pick image are some is n out = rw (is n) (elim (in_or_not n names) [
  | inl there ↦ picked-among lists names pick n (some n) there
  | inr absent ↦ rw (picked-none lists names pick n absent, are.others n out absent) (inl refl)
])

-- ---- names in order are distinct

above : (x : List ℕ) (xs : List (List ℕ)) → Rises (x ∷ xs) → (n : List ℕ) → IsIn n xs → name_cmp x n ≡ Less
above x [] rises n there = absurd there
above x (y ∷ xs) rises n (inl is) = rw is rises.0
above x (y ∷ xs) rises n (inr there) = nat_list_cmp_total.trans x y n rises.0 (above y xs rises.1 n there)

name_cmp-refl : (x : List ℕ) → name_cmp x x ≡ Less → ⊥
name_cmp-refl x less =
    true≢false (sym ((bytes_eq-Decides x x).1 refl) ∙ sym (is_eq-slice_cmp x x) ∙ ap is_eq less)

pub rises-rest : (x : List ℕ) (xs : List (List ℕ)) → Rises (x ∷ xs) → Rises xs
rises-rest x [] rises = tt
rises-rest x (y ∷ xs) rises = rises.1

-- ---- one name more

pub pick_step : (lists : Lists) (x : List ℕ) (xs : List (List ℕ)) (pick : ℕ) (n : List ℕ) (old new : Option (List ℕ)) → Rises (x ∷ xs)
    → new ≡ or_else old (if bytes_eq n x then get_or (lists x) (pick % length (lists x)) None else None)
    → or_else new (picked lists xs (pick / length (lists x)) n) ≡ or_else old (picked lists (x ∷ xs) pick n)
pick_step lists x xs pick n (Some a) new rises is = rw is refl
pick_step lists x xs pick n None new rises is = elim (cases_Bool (bytes_eq n x)) [
  | inr not ↦ rw (is, not) refl
  | inl here ↦ rw (is, here) (chosen (get_or (lists x) (pick % length (lists x)) None) (picked-none lists xs (pick / length (lists x)) n (λ there. name_cmp-refl x (above x xs rises x (subst (λ (y : List ℕ). IsIn y xs) (same n x here) there)))))
] where
  chosen : (v : Option (List ℕ)) {p : Option (List ℕ)} → p ≡ None → or_else v p ≡ v
  chosen (Some b) none = refl
  chosen None none = none

pub or_else-none : (o : Option (List ℕ)) → or_else o None ≡ o
or_else-none None = refl
or_else-none (Some v) = refl

-- one file more
pub lookup-push : (n : List ℕ) (files : Files) (x : List ℕ) (v : Vec ℕ Global) → lookup n (files ++ (x, v) ∷ []) ≡ or_else (lookup n files) (if bytes_eq n x then Some v.items else None)
lookup-push n [] x v = refl
lookup-push n (f ∷ files) x v =
    elim (bytes_eq n f.0) as (λ b. (if b then Some f.1.items else lookup n (files ++ (x, v) ∷ [])) ≡ or_else (if b then Some f.1.items else lookup n files) (if bytes_eq n x then Some v.items else None)) [
      | true ↦ refl
      | false ↦ lookup-push n files x v
    ]

pub length-map-values : (xs : List (Option (Vec ℕ Global))) → length (map value_of xs) ≡ length xs
length-map-values [] = refl
length-map-values (x ∷ xs) = ap suc (length-map-values xs)

pub get-map-values : (xs : List (Option (Vec ℕ Global))) (i : ℕ) (d : Option (Vec ℕ Global)) → i < length xs → get_or (map value_of xs) i None ≡ value_of (get_or xs i d)
get-map-values [] i d lt = absurd (omega arith)
get-map-values (x ∷ xs) zero d lt = refl
get-map-values (x ∷ xs) (suc i) d lt = get-map-values xs i d (omega arith)

-- ---- names without a file or a change

abbrev pub has_file : List ℕ → Files → Bool
has_file n files = list_any (λ f. bytes_eq n f.0) files

abbrev pub has_change : List ℕ → List Change → Bool
has_change n log = list_any (λ c. bytes_eq n c.name) log

either : (a b : Bool) → (a || b) ≡ false → (a ≡ false) × (b ≡ false)
either true b none = absurd (true≢false none)
either false b none = (refl, none)

no-file : (n : List ℕ) (files : Files) → has_file n files ≡ false → lookup n files ≡ None
no-file n [] none = refl
no-file n (f ∷ files) none = let both = either (bytes_eq n f.0) (has_file n files) none in rw both.0 (no-file n files both.1)

no-change : (n : List ℕ) (log : List Change) (s : At) → has_change n log ≡ false → run n log s ≡ s
no-change n [] s none = refl
no-change n (c ∷ log) s none = let both = either (bytes_eq n c.name) (has_change n log) none in rw both.0 (no-change n log s both.1)

pub nothing-left : (n : List ℕ) (files : Files) (log : List Change) → (has_file n files || has_change n log) ≡ false → (run n log (first_of n files)).1 ≡ None ∷ []
nothing-left n files log none =
    let both = either (has_file n files) (has_change n log) none in
    ap (λ (s : At). s.1) (no-change n log (first_of n files) both.1) ∙ ap (λ (v : Option (List ℕ)). v ∷ []) (no-file n files both.0)

-- the names beside tmp of a map that has each name with a file or a change
pub names-are : (r : Result (Vec (List ℕ) Global) NoMemory) (tree : Tree) (lists : Lists) → ((n : List ℕ) → is_some (tree n) ≡ false → lists n ≡ None ∷ [])
    → IfOk r (λ v. AreBeside (codes "tmp") tree v.items) → IfOk r (λ v. AreNames lists v.items)
names-are (Err e) tree lists nothing beside = tt
names-are (Ok v) tree lists nothing beside = record {
  rises = beside.rises;
  outside = beside.only;
  others = λ n out absent. elim (cases_Bool (is_some (tree n))) [
    | inl there ↦ absurd (absent (beside.all n out there))
    | inr none ↦ nothing n none
  ];
}
