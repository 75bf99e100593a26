-- Configurations whose repositories are hosted.
use Rattle.std.specs.Prelude.{◌≡◌, ℕ, List, Some, IsSome, true}
use Rattle.std.specs.List.{AllByRecursion}
use Rattle.repo_model.specs.Config as step
use Rattle.repo_config.specs.Settings.{Settings, Repository}
use Rattle.repo_config.specs.Reading.{Configures}
use Rattle.repo_config.specs.Model.{model_of}

-- each repository that the step finds by a name is hosted
abbrev pub AllHosted : step.Config → Type 0
AllHosted config = (name : List ℕ) (repo : step.Repo) → step.repo_of config name ≡ Some repo → step.is_hosted repo.kind ≡ true

-- a hosted repository with a store
pub record IsUsable (repo : Repository) : Type 0 where
  pub stored : IsSome repo.store
  pub hosted : step.is_hosted repo.kind ≡ true

-- each of these is one
abbrev pub AllUsable : List (List ℕ × Repository) → Type 0
AllUsable repos = AllByRecursion (λ e. IsUsable e.1) repos

-- in each configuration that is read all repositories are hosted
abbrev pub ReadsHosted : Type 0
ReadsHosted = (bytes : List ℕ) (settings : Settings) → Configures bytes settings → AllHosted (model_of settings)
