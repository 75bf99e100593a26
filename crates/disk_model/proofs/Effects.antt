-- What a noted change does to the tree and the lists, in the words of the trait.
use Rattle.std.proofs.Common.{◌≡◌, inl, inr, ℕ, ◌+◌, ◌<◌, ◌^◌, Bool, true, false, List, [], ◌∷◌, ◌++◌, Option, None, Vec, Result, Ok, Err, refl, sym, ◌∙◌, ap, subst}
use Rattle.std.specs.declared.alloc.Global.{Global}
use Rattle.disk_model.specs.declared.memory.change.Change.{Change}
use Rattle.disk_model.specs.declared.disk_err.DiskErr.{DiskErr}
use Rattle.disk_model.specs.declared.disk_err.DiskErr.TheVariants.{Failed, NoMemory}
use Rattle.disk_model.specs.Disk.{Tree, Lists, After, Same, Rest, Puts, Joins, Settles}
use Rattle.disk_model.specs.Moments.{Ticks}
use Rattle.disk_model.specs.Past.{Files, value_of, changed, run, first_of, tree_of, lists_of, Moves, Noted, all_before}
use Rattle.disk_model.specs.PastLaws.{from_test, until-all}
use Rattle.disk_model.proofs.Names.{same_or_not}
use Rattle.disk_model.proofs.Recorded.{tree_at, tree_rest, lists_rest, lists_at, joined, ticks_push}

abbrev noted : ℕ → List ℕ → Option (Vec ℕ Global) → Bool → Bool → Change
noted t name value done settles = record { at = t; name = name; value = value; done = done; settles = settles }

-- ---- the tree

pub puts_of : {T : Type 0} (result : Result T DiskErr) (files files' : Files) (t : ℕ) (name : List ℕ) (value : Option (Vec ℕ Global)) (log log' : List Change) → files' ≡ files → Noted result t name value false log log' → Puts result name (value_of value) (tree_of files log) (tree_of files' log')
puts_of result files files' t name value log log' same is =
    subst (λ (f : Files). Puts result name (value_of value) (tree_of files log) (tree_of f log')) (sym same) (puts result is)
  where
    put_done : (new : List Change) → new ≡ log ++ noted t name value true false ∷ [] → tree_of files new name ≡ value_of value
    put_done new e = ap (λ (l : List Change). tree_of files l name) e ∙ tree_at files log (noted t name value true false) name refl

    put_not : (new : List Change) → new ≡ log ++ noted t name value false false ∷ [] → tree_of files new name ≡ tree_of files log name
    put_not new e = ap (λ (l : List Change). tree_of files l name) e ∙ tree_at files log (noted t name value false false) name refl

    rest : (done : Bool) (new : List Change) → new ≡ log ++ noted t name value done false ∷ [] → Rest name (tree_of files log) (tree_of files new)
    rest done new e = λ n out other. ap (λ (l : List Change). tree_of files l n) e ∙ tree_rest files log (noted t name value done false) n other

    puts : {S : Type 0} (r : Result S DiskErr) → Noted r t name value false log log' → Puts r name (value_of value) (tree_of files log) (tree_of files log')
    puts (Ok x) e = record { named = put_done log' e; rest = rest true log' e }
    puts (Err Failed) e = record { named = inl (put_not log' e); rest = rest false log' e }
    puts (Err NoMemory) e = record { named = ap (λ (l : List Change). tree_of files l name) e; rest = λ n out other. ap (λ (l : List Change). tree_of files l n) e }

-- where the change settles, it leaves the tree
pub same_tree_of : {T : Type 0} (result : Result T DiskErr) (files files' : Files) (t : ℕ) (name : List ℕ) (log log' : List Change) → files' ≡ files → Noted result t name None true log log' → tree_of files' log' ≡ tree_of files log
same_tree_of result files files' t name log log' same is = ap {B = Tree} (λ (f : Files). tree_of f log') same ∙ tree result is
  where
    kept : (done : Bool) (n : List ℕ) → n ≡ name → tree_of files (log ++ noted t name None done true ∷ []) n ≡ tree_of files log n
    kept true n e = tree_at files log (noted t name None true true) n e
    kept false n e = tree_at files log (noted t name None false true) n e

    each : (done : Bool) (n : List ℕ) → tree_of files (log ++ noted t name None done true ∷ []) n ≡ tree_of files log n
    each done n = elim (same_or_not n name) [ inl e ↦ kept done n e | inr other ↦ tree_rest files log (noted t name None done true) n other ]

    pushed : (done : Bool) → log' ≡ log ++ noted t name None done true ∷ [] → tree_of files log' ≡ tree_of files log
    pushed done e = ap {B = Tree} (λ (l : List Change). tree_of files l) e ∙ (λ i n. each done n i)

    tree : {S : Type 0} (r : Result S DiskErr) → Noted r t name None true log log' → tree_of files log' ≡ tree_of files log
    tree (Ok x) e = pushed true e
    tree (Err Failed) e = pushed false e
    tree (Err NoMemory) e = ap {B = Tree} (λ (l : List Change). tree_of files l) e

-- a change that took no effect leaves the tree
pub kept_tree_of : {T : Type 0} (result : Result T DiskErr) (files files' : Files) (t : ℕ) (name : List ℕ) (value : Option (Vec ℕ Global)) (log log' : List Change) → files' ≡ files → Noted result t name value false log log' → After result (Unit {0}) (tree_of files' log' ≡ tree_of files log) (Unit {0})
kept_tree_of result files files' t name value log log' same is = kept result is
  where
    each : (n : List ℕ) → tree_of files (log ++ noted t name value false false ∷ []) n ≡ tree_of files log n
    each n = elim (same_or_not n name) [ inl e ↦ tree_at files log (noted t name value false false) n e | inr other ↦ tree_rest files log (noted t name value false false) n other ]

    kept : {S : Type 0} (r : Result S DiskErr) → Noted r t name value false log log' → After r (Unit {0}) (tree_of files' log' ≡ tree_of files log) (Unit {0})
    kept (Ok x) e = tt
    kept (Err Failed) e = ap {B = Tree} (λ (f : Files). tree_of f log') same ∙ (ap {B = Tree} (λ (l : List Change). tree_of files l) e ∙ (λ i n. each n i))
    kept (Err NoMemory) e = tt

-- ---- the lists

lists_still : (files : Files) (log : List Change) (t u : ℕ) → all_before t log ≡ true → all_before u log ≡ true → lists_of files log u ≡ lists_of files log t
lists_still files log t u all later =
    ap {B = Lists} (λ (l : List Change) (n : List ℕ). (run n l (first_of n files)).1) (until-all u log (from_test u log later) ∙ sym (until-all t log (from_test t log all)))

-- a call that notes nothing
pub lists_same : (files files' : Files) (log log' : List Change) (t u : ℕ) → files' ≡ files → log' ≡ log → all_before t log ≡ true → all_before u log' ≡ true → lists_of files' log' u ≡ lists_of files log t
lists_same files files' log log' t u same_files same_log all later =
    ap {B = Lists} (λ (f : Files). lists_of f log' u) same_files
    ∙ ap {B = Lists} (λ (l : List Change). lists_of files l u) same_log
    ∙ lists_still files log t u all (subst (λ (l : List Change). all_before u l ≡ true) same_log later)

pub ticks_same : (files files' : Files) (log log' : List Change) (t u : ℕ) → files' ≡ files → log' ≡ log → Moves t u → Ticks t u (lists_of files log) (lists_of files' log')
ticks_same files files' log log' t u same_files same_log moves = record {
  later = moves.later;
  at_most = moves.at_most;
  moves = moves.moves;
  kept = λ k le. ap {B = Lists} (λ (f : Files). lists_of f log' k) same_files ∙ ap {B = Lists} (λ (l : List Change). lists_of files l k) same_log;
}

pub joins_of : {T : Type 0} (result : Result T DiskErr) (files files' : Files) (t u : ℕ) (name : List ℕ) (value : Option (Vec ℕ Global)) (log log' : List Change) → files' ≡ files → Noted result t name value false log log' → all_before t log ≡ true → all_before u log' ≡ true → Joins result name (value_of value) (lists_of files log t) (lists_of files' log' u)
joins_of result files files' t u name value log log' same is all later =
    subst (λ (f : Files). Joins result name (value_of value) (lists_of files log t) (lists_of f log' u)) (sym same) (joins result is)
  where
    named : (done : Bool) → log' ≡ log ++ noted t name value done false ∷ [] → lists_of files log' u name ≡ lists_of files log t name ++ value_of value ∷ []
    named done e =
        ap (λ (l : List Change). lists_of files l u name) e
        ∙ joined files log (noted t name value done false) t u (from_test t log all) (from_test u _ (subst (λ (l : List Change). all_before u l ≡ true) e later)) name refl refl

    rest : (done : Bool) → log' ≡ log ++ noted t name value done false ∷ [] → Rest name (lists_of files log t) (lists_of files log' u)
    rest done e = λ n out other.
        ap (λ (l : List Change). lists_of files l u n) e
        ∙ lists_rest files log (noted t name value done false) t u (from_test t log all) (from_test u _ (subst (λ (l : List Change). all_before u l ≡ true) e later)) n other

    joins : {S : Type 0} (r : Result S DiskErr) → Noted r t name value false log log' → Joins r name (value_of value) (lists_of files log t) (lists_of files log' u)
    joins (Ok x) e = record { named = named true e; rest = rest true e }
    joins (Err Failed) e = record { named = named false e; rest = rest false e }
    joins (Err NoMemory) e =
        let still = lists_same files files log log' t u refl e all later in
        record { named = ap (λ (f : Lists). f name) still; rest = λ n out other. ap (λ (f : Lists). f n) still }

pub ticks_of : {T : Type 0} (result : Result T DiskErr) (files files' : Files) (t u : ℕ) (name : List ℕ) (value : Option (Vec ℕ Global)) (settles : Bool) (log log' : List Change) → files' ≡ files → Noted result t name value settles log log' → After result (t + 1 < 2 ^ 64) (t + 1 < 2 ^ 64) (Unit {0}) → Moves t u → Ticks t u (lists_of files log) (lists_of files' log')
ticks_of result files files' t u name value settles log log' same is room moves =
    subst (λ (f : Files). Ticks t u (lists_of files log) (lists_of f log')) (sym same) (ticks result is room)
  where
    pushed : (done : Bool) → log' ≡ log ++ noted t name value done settles ∷ [] → t + 1 < 2 ^ 64 → Ticks t u (lists_of files log) (lists_of files log')
    pushed done e fits =
        subst (λ (k : ℕ). Ticks t k (lists_of files log) (lists_of files log')) (sym (moves.moves fits))
        (subst (λ (l : List Change). Ticks t (t + 1) (lists_of files log) (lists_of files l)) (sym e) (ticks_push files log (noted t name value done settles) t refl fits))

    ticks : {S : Type 0} (r : Result S DiskErr) → Noted r t name value settles log log' → After r (t + 1 < 2 ^ 64) (t + 1 < 2 ^ 64) (Unit {0}) → Ticks t u (lists_of files log) (lists_of files log')
    ticks (Ok x) e fits = pushed true e fits
    ticks (Err Failed) e fits = pushed false e fits
    ticks (Err NoMemory) e fits = ticks_same files files log log' t u refl e moves

pub settles_of : {T : Type 0} (result : Result T DiskErr) (files files' : Files) (t u : ℕ) (name : List ℕ) (log log' : List Change) → files' ≡ files → Noted result t name None true log log' → all_before t log ≡ true → all_before u log' ≡ true → Settles result name (tree_of files log name) (lists_of files log t) (lists_of files' log' u)
settles_of result files files' t u name log log' same is all later =
    subst (λ (f : Files). Settles result name (tree_of files log name) (lists_of files log t) (lists_of f log' u)) (sym same) (settles result is)
  where
    at : (done : Bool) → log' ≡ log ++ noted t name None done true ∷ [] → lists_of files log' u name ≡ (changed true done None (run name log (first_of name files))).1
    at done e =
        ap (λ (l : List Change). lists_of files l u name) e
        ∙ lists_at files log (noted t name None done true) t u (from_test t log all) (from_test u _ (subst (λ (l : List Change). all_before u l ≡ true) e later)) name refl

    old : (run name log (first_of name files)).1 ≡ lists_of files log t name
    old = ap (λ (l : List Change). (run name l (first_of name files)).1) (sym (until-all t log (from_test t log all)))

    rest : (done : Bool) → log' ≡ log ++ noted t name None done true ∷ [] → Rest name (lists_of files log t) (lists_of files log' u)
    rest done e = λ n out other.
        ap (λ (l : List Change). lists_of files l u n) e
        ∙ lists_rest files log (noted t name None done true) t u (from_test t log all) (from_test u _ (subst (λ (l : List Change). all_before u l ≡ true) e later)) n other

    settles : {S : Type 0} (r : Result S DiskErr) → Noted r t name None true log log' → Settles r name (tree_of files log name) (lists_of files log t) (lists_of files log' u)
    settles (Ok x) e = record { named = at true e; rest = rest true e }
    settles (Err Failed) e = record { named = inl (at false e ∙ old); rest = rest false e }
    settles (Err NoMemory) e =
        let still = lists_same files files log log' t u refl e all later in
        record { named = ap (λ (f : Lists). f name) still; rest = λ n out other. ap (λ (f : Lists). f n) still }

-- a settling that took no effect leaves the lists
pub kept_lists_of : {T : Type 0} (result : Result T DiskErr) (files files' : Files) (t u : ℕ) (name : List ℕ) (log log' : List Change) → files' ≡ files → Noted result t name None true log log' → all_before t log ≡ true → all_before u log' ≡ true → After result (Unit {0}) (lists_of files' log' u ≡ lists_of files log t) (Unit {0})
kept_lists_of result files files' t u name log log' same is all later = kept result is
  where
    each : log' ≡ log ++ noted t name None false true ∷ [] → (n : List ℕ) → lists_of files (log ++ noted t name None false true ∷ []) u n ≡ lists_of files log t n
    each e n =
        let before = from_test t log all in
        let after = from_test u _ (subst (λ (l : List Change). all_before u l ≡ true) e later) in
        elim (same_or_not n name) [
          | inl is_name ↦ lists_at files log (noted t name None false true) t u before after n is_name ∙ ap (λ (l : List Change). (run n l (first_of n files)).1) (sym (until-all t log before))
          | inr other ↦ lists_rest files log (noted t name None false true) t u before after n other
        ]

    kept : {S : Type 0} (r : Result S DiskErr) → Noted r t name None true log log' → After r (Unit {0}) (lists_of files' log' u ≡ lists_of files log t) (Unit {0})
    kept (Ok x) e = tt
    kept (Err Failed) e = ap {B = Lists} (λ (f : Files). lists_of f log' u) same ∙ (ap {B = Lists} (λ (l : List Change). lists_of files l u) e ∙ (λ i n. each e n i))
    kept (Err NoMemory) e = tt

pub same_lists : (old new : Lists) → new ≡ old → Same old new
same_lists old new e = λ n out. ap (λ (f : Lists). f n) e
