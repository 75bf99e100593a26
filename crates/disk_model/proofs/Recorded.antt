-- One more change of a disk in memory.
use Rattle.std.proofs.Common.{◌≡◌, ◌≢◌, inl, inr, ℕ, ◌+◌, ◌<◌, ◌≤◌, ◌^◌, Bool, true, false, not, ◌&&◌, cond, nat_lt, List, [], ◌∷◌, ◌++◌, Option, Result, Ok, Err, refl, sym, ◌∙◌, ap, subst, arith}
use Rattle.std.specs.Str.{bytes_eq}
use Rattle.std.proofs.lemmas.Slice.Eq.{bytes_eq-Decides}
use Rattle.std.proofs.lemmas.Bool.{cases_Bool}
use Rattle.std.proofs.lemmas.Bool.Decides.{nat_tests}
use Rattle.disk_model.specs.declared.memory.change.Change.{Change}
use Rattle.std.specs.Prelude.{OnOk, OnErr}
use Rattle.nx_base.specs.declared.name_err.NoMemory.{NoMemory as OutOfMemory}
use Rattle.disk_model.specs.Disk.{Lists}
use Rattle.disk_model.specs.Moments.{Ticks}
use Rattle.disk_model.specs.Past.{Files, At, value_of, now_of, now_step, changed, all_before, step, run, until, first_of, tree_of, lists_of}
use Rattle.disk_model.specs.PastLaws.{AllBefore, from_test, to_test, until-all}

run-push : (n : List ℕ) (log : List Change) (c : Change) (s : At) → run n (log ++ c ∷ []) s ≡ step n c (run n log s)
run-push n [] c s = refl
run-push n (x ∷ log) c s = run-push n log c (step n x s)

pub before-more : (t u : ℕ) (log : List Change) → t ≤ u → AllBefore t log → AllBefore u log
before-more t u [] le all = tt
before-more t u (c ∷ cs) le all = let at : c.at < t = all.0 in (omega arith, before-more t u cs le all.1)

pub before-push : (t : ℕ) (log : List Change) (c : Change) → c.at < t → AllBefore t log → AllBefore t (log ++ c ∷ [])
before-push t [] c lt all = (lt, tt)
before-push t (x ∷ log) c lt all = (all.0, before-push t log c lt all.1)

until-push : (t : ℕ) (log : List Change) (c : Change) → t ≤ c.at → until t (log ++ c ∷ []) ≡ until t log
until-push t [] c le = grind (arith, nat_tests)
until-push t (x ∷ log) c le = ap (λ (l : List Change). cond (nat_lt x.at t) (x ∷ l) l) (until-push t log c le)

step_other : (n : List ℕ) (c : Change) (s : At) → n ≢ c.name → step n c s ≡ s
step_other n c s other = elim (cases_Bool (bytes_eq n c.name)) [
  | inl same ↦ absurd (other ((bytes_eq-Decides n c.name).0 same))
  | inr not ↦ ap (λ (b : Bool). cond b (changed c.settles c.done (value_of c.value) s) s) not
]

step_same : (n : List ℕ) (c : Change) (s : At) → n ≡ c.name → step n c s ≡ changed c.settles c.done (value_of c.value) s
step_same n c s same = ap (λ (b : Bool). cond b (changed c.settles c.done (value_of c.value) s) s) ((bytes_eq-Decides n c.name).1 same)

module _ (files : Files) (log : List Change) (c : Change) where
  pub tree_at : (n : List ℕ) → n ≡ c.name → tree_of files (log ++ c ∷ []) n ≡ (changed c.settles c.done (value_of c.value) (run n log (first_of n files))).0
  tree_at n same = ap (λ (s : At). s.0) (run-push n log c (first_of n files) ∙ step_same n c (run n log (first_of n files)) same)

  pub tree_rest : (n : List ℕ) → n ≢ c.name → tree_of files (log ++ c ∷ []) n ≡ tree_of files log n
  tree_rest n other = ap (λ (s : At). s.0) (run-push n log c (first_of n files) ∙ step_other n c (run n log (first_of n files)) other)

  -- the lists of this moment
  module _ (t u : ℕ) (all : AllBefore t log) (later : AllBefore u (log ++ c ∷ [])) where
    whole : (n : List ℕ) → lists_of files (log ++ c ∷ []) u n ≡ (step n c (run n log (first_of n files))).1
    whole n = ap (λ (l : List Change). (run n l (first_of n files)).1) (until-all u (log ++ c ∷ []) later) ∙ ap (λ (s : At). s.1) (run-push n log c (first_of n files))

    old : (n : List ℕ) → (run n log (first_of n files)).1 ≡ lists_of files log t n
    old n = ap (λ (l : List Change). (run n l (first_of n files)).1) (sym (until-all t log all))

    pub lists_rest : (n : List ℕ) → n ≢ c.name → lists_of files (log ++ c ∷ []) u n ≡ lists_of files log t n
    lists_rest n other = whole n ∙ ap (λ (s : At). s.1) (step_other n c (run n log (first_of n files)) other) ∙ old n

    pub lists_at : (n : List ℕ) → n ≡ c.name → lists_of files (log ++ c ∷ []) u n ≡ (changed c.settles c.done (value_of c.value) (run n log (first_of n files))).1
    lists_at n same = whole n ∙ ap (λ (s : At). s.1) (step_same n c (run n log (first_of n files)) same)

    pub joined : (n : List ℕ) → n ≡ c.name → c.settles ≡ false → lists_of files (log ++ c ∷ []) u n ≡ lists_of files log t n ++ value_of c.value ∷ []
    joined n same puts = lists_at n same ∙ joins c.settles c.done puts ∙ ap (λ (l : List (Option (List ℕ))). l ++ value_of c.value ∷ []) (old n)
      where
        joins : (settles done : Bool) → settles ≡ false → (changed settles done (value_of c.value) (run n log (first_of n files))).1 ≡ (run n log (first_of n files)).1 ++ value_of c.value ∷ []
        joins true true is = absurd cc
        joins true false is = absurd cc
        joins false true is = refl
        joins false false is = refl

-- the lists of earlier moments
abbrev at_moment : Files → List Change → Lists
at_moment files l n = (run n l (first_of n files)).1

pub ticks_push : (files : Files) (log : List Change) (c : Change) (t : ℕ) → c.at ≡ t → t + 1 < 2 ^ 64 → Ticks t (t + 1) (lists_of files log) (lists_of files (log ++ c ∷ []))
ticks_push files log c t now room = record {
  later = omega arith;
  at_most = omega arith;
  moves = λ _. refl;
  kept = λ k le. ap {B = Lists} (λ (l : List Change). at_moment files l) (until-push k log c (omega (arith, le, now)));
}

pub test-more : (t u : ℕ) (log : List Change) → t ≤ u → all_before t log ≡ true → all_before u log ≡ true
test-more t u log le all = to_test u log (before-more t u log le (from_test t log all))

pub test-push : (t u : ℕ) (log : List Change) (c : Change) → t ≤ u → c.at < u → all_before t log ≡ true → all_before u (log ++ c ∷ []) ≡ true
test-push t u log c le lt all = to_test u (log ++ c ∷ []) (before-push u log c lt (before-more t u log le (from_test t log all)))

-- the change was added, or memory was refused
pub test-added : (t u : ℕ) (log new : List Change) (c : Change) (r : Result (Unit {0}) OutOfMemory) → OnOk r (new ≡ log ++ c ∷ []) → OnErr r (new ≡ log)
    → t ≤ u → c.at < u → all_before t log ≡ true → all_before u new ≡ true
test-added t u log new c (Ok x) added refused le lt all = subst (λ (l : List Change). all_before u l ≡ true) (sym added) (test-push t u log c le lt all)
test-added t u log new c (Err e) added refused le lt all = subst (λ (l : List Change). all_before u l ≡ true) (sym refused) (test-more t u log le all)

now-changed : (same settles done : Bool) (v : Option (List ℕ)) (s : At) → (cond same (changed settles done v s) s).0 ≡ cond (not settles && (done && same)) v s.0
now-changed true true true v s = refl
now-changed true true false v s = refl
now-changed true false true v s = refl
now-changed true false false v s = refl
now-changed false true true v s = refl
now-changed false true false v s = refl
now-changed false false true v s = refl
now-changed false false false v s = refl

now-step : (n : List ℕ) (c : Change) (s : At) → (step n c s).0 ≡ now_step n c s.0
now-step n c s = now-changed (bytes_eq n c.name) c.settles c.done (value_of c.value) s

pub now-run : (n : List ℕ) (log : List Change) (s : At) → (run n log s).0 ≡ now_of n log s.0
now-run n [] s = refl
now-run n (c ∷ cs) s = now-run n cs (step n c s) ∙ ap (λ (v : Option (List ℕ)). now_of n cs v) (now-step n c s)
