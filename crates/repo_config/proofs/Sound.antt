-- What every configuration keeps.
use Rattle.std.proofs.Common.{◌≡◌, IsSome, IsSomeAnd, ◌≤◌, ◌&&◌, refl, subst, ℕ, List, [], ◌∷◌, Bool, true, false, cond, fold, Option, Some, None, Result, Ok, Err, unwrap_or, arith, codes}
use Rattle.std.specs.declared.cmp.Ordering.TheVariants.{Less, Equal, Greater}
use Rattle.std.specs.List.{AllByRecursion}
use Rattle.std.specs.Map.{lookup}
use Rattle.std.specs.Option.{option_and_then}
use Rattle.std.specs.Ordering.{match_ordering}
use Rattle.std.specs.Str.Parse.{digits_value}
use Rattle.std.specs.BTreeMap.{insert_entry}
use Rattle.std.proofs.lemmas.Bool.Decides.{nat_tests}
use Rattle.java_props.specs.declared.PropsErr.{PropsErr}
use Rattle.java_props.specs.Kept.{Entries, value_of}
use Rattle.java_props.specs.Reading.{reading}
use Rattle.sha1.specs.Sha1.{sha1}
use Rattle.nx_base.specs.Texts.{name_cmp, same_name}
use Rattle.repo_config.specs.declared.config_err.ConfigErr.{ConfigErr}
use Rattle.repo_config.specs.declared.form.Subject.TheVariants.{OfStore, OfRepo}
use Rattle.repo_config.specs.declared.form.PartKind.{PartKind}
use Rattle.repo_config.specs.declared.form.PartKind.TheVariants.{FileStore, HostedRepo}
use Rattle.repo_model.specs.Config.{is_hosted}
use Rattle.repo_config.specs.Values.{is_decimal, is_between, number_said}
use Rattle.repo_config.specs.Settings.{Settings, settings, repository, repo_kind, kind_of, declared, by_name, text_at}
use Rattle.repo_config.specs.Refusals.{refusal, test_keys, test_missing, test_stores}
use Rattle.repo_config.specs.Reading.{Configures, config_from, unless}
use Rattle.repo_config.specs.Laws.{HasStore, IsSound}
use Rattle.repo_config.specs.Hosted.{IsUsable, AllUsable}
use Rattle.repo_config.proofs.Firsts.{none_left, none_right}
use Rattle.repo_config.proofs.Passed.{names_few, stores_good}
use Rattle.repo_config.proofs.Declared.{all_named}

-- each value of the entries keeps P
abbrev Values : {A : Type 0} → (A → Type 0) → List (List ℕ × A) → Type 0
Values P entries = AllByRecursion (λ e. P e.1) entries

inserted : {A : Type 0} (P : A → Type 0) (entries : List (List ℕ × A)) (name : List ℕ) (x : A) → Values P entries → P x → Values P (insert_entry name_cmp entries name x)
inserted P [] name x h p = (p, tt)
inserted P (e ∷ es) name x h p =
    let rest = inserted P es name x h.1 p in
    elim (name_cmp name e.0) as (λ o. Values P (match_ordering o ((name, x) ∷ e ∷ es) ((e.0, x) ∷ es) (e ∷ insert_entry name_cmp es name x))) [
      | Less ↦ (p, h)
      | Equal ↦ (p, h.1)
      | Greater ↦ (h.0, rest)
    ]

all_inserted : {A : Type 0} (P : A → Type 0) (f : List ℕ → A) (names : List (List ℕ)) (entries : List (List ℕ × A)) → Values P entries → AllByRecursion (λ name. P (f name)) names
    → Values P (fold (λ es name. insert_entry name_cmp es name (f name)) entries names)
all_inserted P f [] entries h all = h
all_inserted P f (name ∷ names) entries h all =
    all_inserted P f names (insert_entry name_cmp entries name (f name)) (inserted P entries name (f name) h all.0) all.1

looked_up : {A : Type 0} (P : A → Type 0) (test : List ℕ → Bool) (entries : List (List ℕ × A)) (x : A) → Values P entries → lookup test entries ≡ Some x → P x
looked_up P test [] x h e = cc
looked_up P test (y ∷ ys) x h e =
    let case : Bool → Type 0 = λ b. cond b (Some y.1) (lookup test ys) ≡ Some x → P x in
    elim (test y.0) as case [
      | true ↦ λ s. subst P (let same : y.1 ≡ x = cc in same) h.0
      | false ↦ λ s. looked_up P test ys x h.1 s
    ] e

abbrev InRange : ℕ → Type 0
InRange n = (1 ≤ n) × (n ≤ 1000000)

between : (n : ℕ) → is_between 1 1000000 n ≡ true → InRange n
between n e = (grind (arith, nat_tests), grind (arith, nat_tests))

by_tests : (a b : Bool) (n : ℕ) → (b ≡ true → InRange n) → InRange (unwrap_or (cond (a && b) (Some n) None) 100000)
by_tests true true n h = h refl
by_tests true false n h = (omega arith, omega arith)
by_tests false b n h = (omega arith, omega arith)

by_text : (o : Option (List ℕ)) → InRange (unwrap_or (option_and_then (number_said 1 1000000) o) 100000)
by_text None = (omega arith, omega arith)
by_text (Some value) = by_tests (is_decimal value) (is_between 1 1000000 (digits_value 10 value)) (digits_value 10 value) (between (digits_value 10 value))

-- of pairs of which nothing is refused, no key is
pub keys_pass : (pairs : Entries) → refusal pairs ≡ None → test_keys pairs ≡ None
keys_pass pairs none = none_left (test_keys pairs) _ none

all_so : {A : Type 0} (P Q : A → Type 0) → ((a : A) → P a → Q a) → (xs : List A) → AllByRecursion P xs → AllByRecursion Q xs
all_so P Q f [] all = tt
all_so P Q f (x ∷ xs) all = (f x all.0, all_so P Q f xs all.1)

is_there : (P : List ℕ → Type 0) (o : Option (List ℕ)) → IsSomeAnd o P → IsSome o
is_there P None is = absurd is
is_there P (Some x) is = refl

each_kind : (kind : PartKind) → is_hosted (repo_kind kind) ≡ true
each_kind FileStore = refl
each_kind HostedRepo = refl

-- then each repository is hosted and has a store
pub all_usable : (pairs : Entries) → refusal pairs ≡ None → AllUsable (by_name (repository pairs) (declared OfRepo pairs))
all_usable pairs none =
    let stores = none_right (test_missing pairs) (test_stores pairs) (none_right (test_keys pairs) _ none) in
    let P : List ℕ → Type 0 = λ name. HasStore (settings [] pairs) (repository pairs name) in
    let Q : List ℕ → Type 0 = λ name. IsUsable (repository pairs name) in
    all_inserted IsUsable (repository pairs) (declared OfRepo pairs) [] tt
    (all_so P Q (λ name has. record { stored = is_there _ (repository pairs name).store has; hosted = each_kind (kind_of OfRepo pairs name) }) (declared OfRepo pairs) (all_named pairs stores))

sound : (digest : List ℕ) (pairs : Entries) → refusal pairs ≡ None → IsSound (settings digest pairs)
sound digest pairs none =
    let keys = none_left (test_keys pairs) _ none in
    let stores = none_right (test_missing pairs) (test_stores pairs) (none_right (test_keys pairs) _ none) in
    record {
      stores = λ name repo e. looked_up (HasStore (settings digest pairs)) (same_name name) (by_name (repository pairs) (declared OfRepo pairs)) repo
          (all_inserted (HasStore (settings digest pairs)) (repository pairs) (declared OfRepo pairs) [] tt (all_named pairs stores)) e;
      journal = by_text (value_of (codes "journal") pairs);
      few = names_few OfStore (text_at pairs (codes "stores")) (stores_good pairs keys);
    }

by_refusal : (o : Option ConfigErr) (given found : Settings) → (o ≡ None → IsSound given) → unless o given ≡ Ok found → IsSound found
by_refusal None given found h e = subst IsSound (let same : given ≡ found = cc in same) (h refl)
by_refusal (Some why) given found h e = cc

by_props : (digest : List ℕ) (r : Result Entries PropsErr) (found : Settings) → config_from digest r ≡ Ok found → IsSound found
by_props digest (Err why) found e = cc
by_props digest (Ok pairs) found e = by_refusal (refusal pairs) (settings digest pairs) found (sound digest pairs) e

pub configured_sound : (bytes : List ℕ) (found : Settings) → Configures bytes found → IsSound found
configured_sound bytes found e = by_props (sha1 bytes) (reading bytes) found e
