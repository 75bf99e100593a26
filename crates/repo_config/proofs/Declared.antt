-- Where no store is refused, each declared repository names a declared store.
use Rattle.std.proofs.Common.{◌≡◌, ◌∙◌, ap, sym, refl, subst, ℕ, List, [], ◌∷◌, Bool, true, false, cond, ◌||◌, fold, find, Option, Some, None, IsSomeAnd}
use Rattle.std.specs.List.{AllByRecursion}
use Rattle.java_props.specs.Kept.{Entries, value_of}
use Rattle.java_props.proofs.MapLaws.{set_gives, set_keeps}
use Rattle.nx_base.specs.Texts.{same_name}
use Rattle.repo_config.specs.declared.config_err.ConfigErr.{ConfigErr}
use Rattle.repo_config.specs.declared.config_err.ConfigErr.TheVariants.{NoStore}
use Rattle.repo_config.specs.declared.form.Subject.TheVariants.{OfStore, OfRepo}
use Rattle.repo_config.specs.declared.form.Word.TheVariants.{Store}
use Rattle.repo_config.specs.Keys.{key_text}
use Rattle.repo_config.specs.Lists.{has_name}
use Rattle.repo_config.specs.Settings.{text_at, declared, store_named}
use Rattle.repo_config.specs.Refusals.{store_refusal, store_keys, test_stores}
use Rattle.repo_config.proofs.Texts.{same_name-itself, same_name-is}
use Rattle.repo_config.proofs.Passed.{passed}
use Rattle.repo_config.proofs.StoreKeys.{with_store}

abbrev store_key : List ℕ → List ℕ
store_key name = key_text OfRepo name Store

-- the key of the repository's store has the repository's text
abbrev Holds : Entries → Entries → List ℕ → Type 0
Holds pairs keys name = value_of (store_key name) keys ≡ Some (text_at pairs (store_key name))

set_at : (pairs keys : Entries) (name : List ℕ) → Holds pairs (with_store pairs keys name) name
set_at pairs keys name = set_gives (store_key name) (text_at pairs (store_key name)) keys

-- a repository's store stays when another's is set, or the same one again
stays : (pairs keys : Entries) (name other : List ℕ) → Holds pairs keys name → Holds pairs (with_store pairs keys other) name
stays pairs keys name other h =
    let case : Bool → Type 0 = λ b. same_name (store_key name) (store_key other) ≡ b → Holds pairs (with_store pairs keys other) name in
    elim (same_name (store_key name) (store_key other)) as case [
      | true ↦ λ e.
          let same = same_name-is (store_key name) (store_key other) e in
          subst (λ (k : List ℕ). value_of k (with_store pairs keys other) ≡ Some (text_at pairs k)) (sym same) (set_at pairs keys other)
      | false ↦ λ e. set_keeps (store_key other) (store_key name) (text_at pairs (store_key other)) keys
          (λ same. absurd (let no : true ≡ false = sym (same_name-itself (store_key name)) ∙ ap (same_name (store_key name)) same ∙ e in cc)) ∙ h
    ] refl

kept : (pairs keys : Entries) (name : List ℕ) (names : List (List ℕ)) → Holds pairs keys name → Holds pairs (fold (with_store pairs) keys names) name
kept pairs keys name [] h = h
kept pairs keys name (other ∷ names) h = kept pairs (with_store pairs keys other) name names (stays pairs keys name other h)

all_held : (pairs keys : Entries) (names : List (List ℕ)) → AllByRecursion (Holds pairs (fold (with_store pairs) keys names)) names
all_held pairs keys [] = tt
all_held pairs keys (name ∷ names) =
    (kept pairs (with_store pairs keys name) name names (set_at pairs keys name), all_held pairs (with_store pairs keys name) names)

all_map : {A : Type 0} (P Q : A → Type 0) → ((x : A) → P x → Q x) → (xs : List A) → AllByRecursion P xs → AllByRecursion Q xs
all_map P Q f [] h = tt
all_map P Q f (x ∷ xs) h = (f x h.0, all_map P Q f xs h.1)

-- the store that has the name, where one has it
found_in : (names : List (List ℕ)) (text : List ℕ) → has_name names text ≡ true → IsSomeAnd (find (λ name. same_name name text) names) (λ name. has_name names name ≡ true)
found_in [] text e = cc
found_in (n ∷ names) text e =
    let case : Bool → Type 0 = λ b. (b || has_name names text) ≡ true → IsSomeAnd (cond b (Some n) (find (λ name. same_name name text) names)) (λ name. (same_name n name || has_name names name) ≡ true) in
    elim (same_name n text) as case [
      | true ↦ λ h. ap (λ b. b || has_name names n) (same_name-itself n)
      | false ↦ λ h. later n names (find (λ name. same_name name text) names) (found_in names text h)
    ] e where
      later : (n : List ℕ) (names : List (List ℕ)) (o : Option (List ℕ)) → IsSomeAnd o (λ name. has_name names name ≡ true) → IsSomeAnd o (λ name. (same_name n name || has_name names name) ≡ true)
      later n names None h = h
      later n names (Some name) h = or_true (same_name n name) (has_name names name) h where
        or_true : (a b : Bool) → b ≡ true → (a || b) ≡ true
        or_true true b e = refl
        or_true false b e = e

accepted : (has : Bool) (why : ConfigErr) → cond has None (Some why) ≡ None → has ≡ true
accepted true why e = refl
accepted false why e = cc

abbrev pub Names : Entries → List ℕ → Type 0
Names pairs name = IsSomeAnd (store_named pairs name) (λ store. has_name (declared OfStore pairs) store ≡ true)

pub all_named : (pairs : Entries) → test_stores pairs ≡ None → AllByRecursion (Names pairs) (declared OfRepo pairs)
all_named pairs none =
    all_map (Holds pairs (store_keys pairs)) (Names pairs)
    (λ name held. found_in (declared OfStore pairs) (text_at pairs (store_key name))
    (accepted (has_name (declared OfStore pairs) (text_at pairs (store_key name))) (NoStore (store_key name))
    (passed (store_refusal pairs) (store_keys pairs) (store_key name) (text_at pairs (store_key name)) none held)))
    (declared OfRepo pairs) (all_held pairs [] (declared OfRepo pairs))
