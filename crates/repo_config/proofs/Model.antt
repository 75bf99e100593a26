-- What the step finds in a configuration.
use Rattle.std.proofs.Common.{◌≡◌, ◌∙◌, ap, sym, refl, subst, ℕ, List, [], ◌∷◌, Bool, true, false, cond, ◌||◌, fold, map, Option, Some, None, IsSomeAnd, Result, Ok, Err, unwrap_or}
use Rattle.std.specs.declared.cmp.Ordering.TheVariants.{Less, Equal, Greater}
use Rattle.std.specs.BTreeMap.{insert_entry}
use Rattle.std.specs.FinMap as map_of
use Rattle.std.specs.List.{list_any}
use Rattle.std.specs.Map.{lookup}
use Rattle.std.specs.Option.{option_map}
use Rattle.std.specs.Ordering.{is_eq, match_ordering}
use Rattle.java_props.specs.declared.PropsErr.{PropsErr}
use Rattle.java_props.specs.Kept.{Entries}
use Rattle.java_props.specs.Reading.{reading}
use Rattle.sha1.specs.Sha1.{sha1}
use Rattle.nx_base.specs.declared.fill.Fill.TheVariants.{First}
use Rattle.nx_base.specs.declared.member.Member.{Member}
use Rattle.nx_base.specs.Fills.{Group, writable}
use Rattle.nx_base.specs.Given.{given}
use Rattle.nx_base.specs.Texts.{name_cmp, same_name}
use Rattle.repo_model.specs.Config as step
use Rattle.repo_config.specs.declared.config_err.ConfigErr.{ConfigErr}
use Rattle.repo_config.specs.declared.form.Subject.TheVariants.{OfStore}
use Rattle.repo_config.specs.Lists.{has_name}
use Rattle.repo_config.specs.Settings.{Settings, Repository, Store, settings, store, declared, alone, group_at}
use Rattle.repo_config.specs.Refusals.{refusal}
use Rattle.repo_config.specs.Reading.{config_from, unless}
use Rattle.repo_config.specs.Model.{repo_read, groups_read, model_of, takes, ReadsRepos, ReadsGroups, WritesTo, WritesToOne}
use Rattle.repo_config.proofs.Sound.{configured_sound}
use Rattle.repo_config.proofs.Texts.{same_name-itself, same_name-is}

-- the first entry of a name, where each value is read as another
found : {A B : Type 0} (f : A → B) (name : List ℕ) (entries : List (List ℕ × A))
    → map_of.find name_cmp name (map (λ e. (e.0, f e.1)) entries) ≡ option_map f (lookup (same_name name) entries)
found f name [] = refl
found f name (e ∷ es) =
    let rest = found f name es in
    elim (same_name name e.0) as (λ b. cond b (Some (f e.1)) (map_of.find name_cmp name (map (λ e. (e.0, f e.1)) es)) ≡ option_map f (cond b (Some e.1) (lookup (same_name name) es))) [
      | true ↦ refl
      | false ↦ rest
    ]

pub reads_repos : ReadsRepos
reads_repos set name = found repo_read name set.repos

-- no stores
abbrev none : Group
none = record { members = []; fill = First }

-- the group of a store, as the step looks for it
abbrev group_found : Settings → List ℕ → Group
group_found set name = unwrap_or (map_of.find name_cmp name (groups_read set.stores)) none

pub reads_groups : ReadsGroups
reads_groups set repo store named =
    ap (λ (o : Option (List ℕ)). group_found set (unwrap_or o [])) named
    ∙ ap (λ (o : Option Group). unwrap_or o none) (found (λ (s : Store). s.group) store set.stores)

-- the name has what f gives of it
abbrev Has : {A : Type 0} → (List ℕ → A) → List ℕ → List (List ℕ × A) → Type 0
Has f name entries = lookup (same_name name) entries ≡ Some (f name)

-- an entry of another name, or what f gives of this one
in_front : {A : Type 0} (f : List ℕ → A) (name other : List ℕ) (entries : List (List ℕ × A)) → Has f name entries → cond (same_name name other) (Some (f other)) (lookup (same_name name) entries) ≡ Some (f name)
in_front f name other entries h =
    elim (same_name name other) as (λ b. same_name name other ≡ b → cond b (Some (f other)) (lookup (same_name name) entries) ≡ Some (f name)) [
      | true ↦ λ e. ap (λ (n : List ℕ). Some (f n)) (sym (same_name-is name other e))
      | false ↦ λ e. h
    ] refl

-- an entry stays where another is inserted, or the same one again
stays : {A : Type 0} (f : List ℕ → A) (name other : List ℕ) (entries : List (List ℕ × A)) → Has f name entries → Has f name (insert_entry name_cmp entries other (f other))
stays f name other [] h = in_front f name other [] h
stays f name other (e ∷ es) h =
    let after = insert_entry name_cmp es other (f other) in
    elim (name_cmp other e.0) as (λ o. name_cmp other e.0 ≡ o → Has f name (match_ordering o ((other, f other) ∷ e ∷ es) ((e.0, f other) ∷ es) (e ∷ after))) [
      | Less ↦ λ r. in_front f name other (e ∷ es) h
      | Equal ↦ λ r.
          let same = same_name-is other e.0 (ap is_eq r) in
          elim (same_name name e.0) as (λ b. same_name name e.0 ≡ b → cond b (Some e.1) (lookup (same_name name) es) ≡ Some (f name) → cond b (Some (f other)) (lookup (same_name name) es) ≡ Some (f name)) [
            | true ↦ λ s k. ap (λ (n : List ℕ). Some (f n)) (same ∙ sym (same_name-is name e.0 s))
            | false ↦ λ s k. k
          ] refl h
      | Greater ↦ λ r. elim (same_name name e.0) as (λ b. cond b (Some e.1) (lookup (same_name name) es) ≡ Some (f name) → cond b (Some e.1) (lookup (same_name name) after) ≡ Some (f name)) [
        | true ↦ λ k. k
        | false ↦ λ k. stays f name other es k
      ] h
    ] refl

-- the name that is inserted
comes : {A : Type 0} (f : List ℕ → A) (name : List ℕ) (entries : List (List ℕ × A)) → Has f name (insert_entry name_cmp entries name (f name))
comes f name [] = ap (λ b. cond b (Some (f name)) None) (same_name-itself name)
comes f name (e ∷ es) =
    let after = insert_entry name_cmp es name (f name) in
    elim (name_cmp name e.0) as (λ o. name_cmp name e.0 ≡ o → lookup (same_name name) (match_ordering o ((name, f name) ∷ e ∷ es) ((e.0, f name) ∷ es) (e ∷ after)) ≡ Some (f name)) [
      | Less ↦ λ r. ap (λ b. cond b (Some (f name)) (lookup (same_name name) (e ∷ es))) (same_name-itself name)
      | Equal ↦ λ r. ap (λ o. cond (is_eq o) (Some (f name)) (lookup (same_name name) es)) r
      | Greater ↦ λ r. ap (λ o. cond (is_eq o) (Some e.1) (lookup (same_name name) after)) r ∙ comes f name es
    ] refl

kept : {A : Type 0} (f : List ℕ → A) (name : List ℕ) (entries : List (List ℕ × A)) (names : List (List ℕ)) → Has f name entries → Has f name (fold (λ es n. insert_entry name_cmp es n (f n)) entries names)
kept f name entries [] h = h
kept f name entries (n ∷ names) h = kept f name (insert_entry name_cmp entries n (f n)) names (stays f name n entries h)

made : {A : Type 0} (f : List ℕ → A) (name : List ℕ) (entries : List (List ℕ × A)) (names : List (List ℕ)) → has_name names name ≡ true → Has f name (fold (λ es n. insert_entry name_cmp es n (f n)) entries names)
made f name entries [] e = cc
made f name entries (n ∷ names) e =
    let next = insert_entry name_cmp entries n (f n) in
    elim (same_name n name) as (λ b. same_name n name ≡ b → (b || has_name names name) ≡ true → Has f name (fold (λ es n. insert_entry name_cmp es n (f n)) next names)) [
      | true ↦ λ s h. kept f name next names (subst (λ (m : List ℕ). Has f m (insert_entry name_cmp entries n (f n))) (same_name-is n name s) (comes f n entries))
      | false ↦ λ s h. made f name next names h
    ] refl e

-- each file store is a group of itself alone
abbrev Alone : Settings → Type 0
Alone set = (name : List ℕ) → has_name set.file_stores name ≡ true → group_at set name ≡ Some (alone name)

all_alone : (digest : List ℕ) (pairs : Entries) → Alone (settings digest pairs)
all_alone digest pairs name has = ap (option_map (λ (s : Store). s.group)) (made (store pairs) name [] (declared OfStore pairs) has)

by_refusal : (o : Option ConfigErr) (wanted found : Settings) → Alone wanted → unless o wanted ≡ Ok found → Alone found
by_refusal None wanted found h e = subst Alone (let same : wanted ≡ found = cc in same) h
by_refusal (Some why) wanted found h e = cc

by_props : (digest : List ℕ) (r : Result Entries PropsErr) (found : Settings) → config_from digest r ≡ Ok found → Alone found
by_props digest (Err why) found e = cc
by_props digest (Ok pairs) found e = by_refusal (refusal pairs) (settings digest pairs) found (all_alone digest pairs) e

no_more : (b : Bool) → (b || false) ≡ b
no_more true = refl
no_more false = refl

-- the members of the group of its store are those that a repository takes
pub taken_by : (set : Settings) (repo : Repository) (store other : List ℕ) (o : Option Group) → repo.store ≡ Some store → o ≡ group_at set store
    → takes set repo other ≡ list_any (λ m. same_name m.store other) (writable (unwrap_or o none))
taken_by set repo store other o named at =
    ap (λ (o : Option (List ℕ)). given o false (λ name. step.takes (model_of set) (repo_read repo) other)) named
    ∙ ap (λ (g : Group). list_any (λ (m : Member). same_name m.store other) (writable g)) (reads_groups set repo store named ∙ ap (λ (o : Option Group). unwrap_or o none) (sym at))

to_one : (set : Settings) (repo : Repository) (o : Option (List ℕ)) → repo.store ≡ o → Alone set → IsSomeAnd o (λ store. has_name set.file_stores store ≡ true)
    → (store : List ℕ) × WritesTo set repo store
to_one set repo None named all has = absurd has
to_one set repo (Some store) named all has =
    let group = all store has in
    let read = reads_groups set repo store named ∙ ap (λ (o : Option Group). unwrap_or o none) group in
    (store, record { named = named; group = group; found = read; only = λ other. taken_by set repo store other (Some (alone store)) named (sym group) ∙ no_more (same_name store other) })

pub writes_to_one : WritesToOne
writes_to_one bytes set name repo read at =
    to_one set repo repo.store refl (by_props (sha1 bytes) (reading bytes) set read) ((configured_sound bytes set read).stores name repo at)
