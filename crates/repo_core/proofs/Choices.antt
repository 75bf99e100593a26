-- The store that is chosen for an upload is one that its repository may write to.
use Rattle.std.proofs.Common.{◌≡◌, ℕ, zero, suc, length, Bool, true, false, not, ◌||◌, List, [], ◌∷◌, Option, Some, None, unwrap_or, refl, ◌∙◌, ap}
use Rattle.std.specs.FinMap as map
use Rattle.std.specs.List.{list_any, slice_get}
use Rattle.std.specs.Option.{option_map}
use Rattle.std.proofs.lemmas.Map.Text.{is_eq-slice_cmp}
use Rattle.std.proofs.lemmas.Slice.Eq.{bytes_eq-Decides}
use Rattle.nx_base.specs.Given.{given}
use Rattle.nx_base.specs.Order.{same_name, name_cmp}
use Rattle.nx_base.specs.Fills.{writable, turn, chosen}
use Rattle.nx_base.specs.declared.key.Key.{Key}
use Rattle.nx_base.specs.declared.member.Member.{Member}
use Rattle.repo_model.specs.Config.{Config, Repo, repo_of, group_of, write_store}
use Rattle.repo_model.specs.Writing.{bars_put}
use Rattle.repo_core.specs.Puts.{MayGo}
use Rattle.repo_core.specs.Why.{may_put, store_of}

same_itself : (name : List ℕ) → same_name name name ≡ true
same_itself name = is_eq-slice_cmp name name ∙ (bytes_eq-Decides name name).1 refl

some_is : {A : Type 0} (a b : A) → Some a ≡ Some b → a ≡ b
some_is a b e = cc

or_true : (b : Bool) → (b || true) ≡ true
or_true true = refl
or_true false = refl

-- the store of a member is that of some member
is_among : (ms : List Member) (n : ℕ) (store : List ℕ) → option_map (λ (m : Member). m.store) (slice_get ms n) ≡ Some store → list_any (λ m. same_name m.store store) ms ≡ true
is_among [] n store e = cc
is_among (m ∷ ms) zero store e =
    ap (λ (b : Bool). b || list_any (λ m. same_name m.store store) ms)
    (ap (λ (name : List ℕ). same_name name store) (some_is m.store store e) ∙ same_itself store)
is_among (m ∷ ms) (suc n) store e =
    ap (λ (b : Bool). same_name m.store store || b) (is_among ms n store e) ∙ or_true (same_name m.store store)

pub chosen_may_go : (config : Config) (key : Key) (store : List ℕ) (count : ℕ) (repo : Repo) → repo_of config key.repo ≡ Some repo → chosen (group_of config repo) count ≡ Some store → MayGo config key store
chosen_may_go config key store count repo is found = record {
  repo = repo;
  declared = is;
  takes_it = is_among (writable (group_of config repo)) (turn (group_of config repo).fill count (length (writable (group_of config repo)))) store found;
}

-- of a repository that is declared
pub may_put_by : (config : Config) (key : Key) (repo : Repo) → repo_of config key.repo ≡ Some repo → bars_put repo ≡ false → may_put config key ≡ true
may_put_by config key repo some opened = ap (λ (o : Option Repo). given o false (λ (r : Repo). not (bars_put r))) some ∙ ap not opened

pub store_by : (config : Config) (counts : map.FinMap name_cmp ℕ) (key : Key) (repo : Repo) → repo_of config key.repo ≡ Some repo → (store : Option (List ℕ))
    → chosen (group_of config repo) (unwrap_or (map.get counts (write_store repo)) 0) ≡ store → store_of config counts key ≡ store
store_by config counts key repo some store is =
    ap (λ (o : Option Repo). given o None (λ (r : Repo). chosen (group_of config r) (unwrap_or (map.get counts (write_store r)) 0))) some ∙ is
