-- The configuration as the step of the one-thread repository reads it.
use Rattle.std.specs.Prelude.{◌≡◌, ℕ, Bool, false, List, [], map, Some, unwrap_or}
use Rattle.std.specs.Option.{option_map}
use Rattle.nx_base.specs.declared.fill.Fill.TheVariants.{First}
use Rattle.nx_base.specs.Fills.{Group}
use Rattle.nx_base.specs.Given.{given}
use Rattle.nx_base.specs.Texts.{same_name}
use Rattle.repo_model.specs.Config as step
use Rattle.repo_config.specs.Reading.{Configures}
use Rattle.repo_config.specs.Settings.{Settings, Repository, Store, alone, repo_at, group_at}

-- a repository. One without a store writes to the empty text, which is no store's name.
abbrev pub repo_read : Repository → step.Repo
repo_read repo = record {
  kind = repo.kind;
  store = unwrap_or repo.store [];
  policy = repo.policy;
  max_age = repo.max_age;
  not_found = repo.not_found;
  cleanup = repo.cleanup;
}

abbrev pub repos_read : List (List ℕ × Repository) → List (List ℕ × step.Repo)
repos_read repos = map (λ repo. (repo.0, repo_read repo.1)) repos

abbrev pub groups_read : List (List ℕ × Store) → List (List ℕ × Group)
groups_read stores = map (λ store. (store.0, store.1.group)) stores

-- No key sets cleanup policies or the age of deleted blobs yet: there are no policies, and a deleted blob may go at once.
abbrev pub model_of : Settings → step.Config
model_of settings = record {
  repos = repos_read settings.repos;
  groups = groups_read settings.stores;
  policies = [];
  compact_age = 0;
}

-- whether a repository may write to that store
abbrev pub takes : Settings → Repository → List ℕ → Bool
takes settings repo store = given repo.store false (λ name. step.takes (model_of settings) (repo_read repo) store)

-- the step finds just the declared repositories, each with what was set of it
abbrev pub ReadsRepos : Type 0
ReadsRepos = (settings : Settings) (name : List ℕ) → step.repo_of (model_of settings) name ≡ option_map repo_read (repo_at settings name)

-- the stores that a repository writes to are the group of its store, or none where that isn't declared
abbrev pub ReadsGroups : Type 0
ReadsGroups =
    (settings : Settings) (repo : Repository) (store : List ℕ) → repo.store ≡ Some store
    → step.group_of (model_of settings) (repo_read repo) ≡ unwrap_or (group_at settings store) (record { members = []; fill = First })

-- the store of a declared repository is a group of itself alone, and this is the group that the step finds; so the repository
-- may write to its store, and to no other
pub record WritesTo (settings : Settings) (repo : Repository) (store : List ℕ) : Type 0 where
  pub named : repo.store ≡ Some store
  pub group : group_at settings store ≡ Some (alone store)
  pub found : step.group_of (model_of settings) (repo_read repo) ≡ alone store
  pub only : (other : List ℕ) → takes settings repo other ≡ same_name store other

-- in each configuration a declared repository writes to one store
abbrev pub WritesToOne : Type 0
WritesToOne =
    (bytes : List ℕ) (settings : Settings) (name : List ℕ) (repo : Repository) → Configures bytes settings → repo_at settings name ≡ Some repo
    → (store : List ℕ) × WritesTo settings repo store
