-- The present value of a name is in its list.
use Rattle.std.specs.Prelude.{◌≡◌, ◌<◌, ℕ, Bool, true, false, ◌&&◌, List, [], ◌∷◌, ◌++◌, Option, nat_lt, if◌then◌else◌, refl}
use Rattle.std.specs.Str.{bytes_eq}
use Rattle.std.proofs.Common.{inl, inr, arith, subst, sym}
use Rattle.std.proofs.lemmas.Bool.Decides.{nat_tests}
use Rattle.disk_model.specs.declared.memory.change.Change.{Change}
use Rattle.disk_model.specs.Disk.{Among}
use Rattle.disk_model.specs.Past.{Files, At, value_of, changed, step, run, until, first_of, tree_of, lists_of, all_before}

pub and_cases : (a b : Bool) → (a && b) ≡ true → (a ≡ true) × (b ≡ true)
and_cases true true e = (refl, refl)
and_cases true false e = absurd cc
and_cases false b e = absurd cc

abbrev pub AllBefore : ℕ → List Change → Type 0
AllBefore t [] = Unit {0}
AllBefore t (c ∷ cs) = (c.at < t) × AllBefore t cs

pub from_test : (t : ℕ) (log : List Change) → all_before t log ≡ true → AllBefore t log
from_test t [] is = tt
from_test t (c ∷ cs) is =
    let both = and_cases (nat_lt c.at t) (all_before t cs) is in
    let first : nat_lt c.at t ≡ true = both.0 in
    let lt : c.at < t = grind (arith, nat_tests) in
    (lt, from_test t cs both.1)

pub to_test : (t : ℕ) (log : List Change) → AllBefore t log → all_before t log ≡ true
to_test t [] all = refl
to_test t (c ∷ cs) all =
    let lt : c.at < t = all.0 in
    let rest : all_before t cs ≡ true = to_test t cs all.1 in
    grind (arith, nat_tests)

among_last : (v : Option (List ℕ)) (list : List (Option (List ℕ))) → Among v (list ++ v ∷ [])
among_last v [] = inl refl
among_last v (w ∷ list) = inr (among_last v list)

among_more : (v w : Option (List ℕ)) (list : List (Option (List ℕ))) → Among v list → Among v (list ++ w ∷ [])
among_more v w [] none = absurd none
among_more v w (x ∷ list) (inl is) = inl is
among_more v w (x ∷ list) (inr there) = inr (among_more v w list there)

present_changed : (settles done : Bool) (v : Option (List ℕ)) (s : At) → Among s.0 s.1 → Among (changed settles done v s).0 (changed settles done v s).1
present_changed true true v s there = inl refl
present_changed true false v s there = there
present_changed false true v s there = among_last v s.1
present_changed false false v s there = among_more s.0 v s.1 there

present_step : (n : List ℕ) (c : Change) (s : At) → Among s.0 s.1 → Among (step n c s).0 (step n c s).1
present_step n c s there =
    elim (bytes_eq n c.name) as (λ b. Among (if b then changed c.settles c.done (value_of c.value) s else s).0 (if b then changed c.settles c.done (value_of c.value) s else s).1) [
      | true ↦ present_changed c.settles c.done (value_of c.value) s there
      | false ↦ there
    ]

present_run : (n : List ℕ) (log : List Change) (s : At) → Among s.0 s.1 → Among (run n log s).0 (run n log s).1
present_run n [] s there = there
present_run n (c ∷ cs) s there = present_run n cs (step n c s) (present_step n c s there)

pub until-all : (t : ℕ) (log : List Change) → AllBefore t log → until t log ≡ log
until-all t [] all = refl
until-all t (c ∷ cs) all = let kept : until t cs ≡ cs = until-all t cs all.1 in let before : c.at < t = all.0 in grind (arith, nat_tests)

pub present_of : (files : Files) (log : List Change) (t : ℕ) (n : List ℕ) → all_before t log ≡ true → Among (tree_of files log n) (lists_of files log t n)
present_of files log t n test =
    let all = from_test t log test in
    subst (λ (l : List Change). Among (tree_of files log n) (run n l (first_of n files)).1) (sym (until-all t log all)) (present_run n log (first_of n files) (inl refl))
