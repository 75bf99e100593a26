-- What the step reads of the configuration.
use Rattle.std.specs.Prelude.{ℕ, Bool, true, false, List, [], Option, unwrap_or}
use Rattle.std.specs.List.{list_any}
use Rattle.std.specs.FinMap.{find}
use Rattle.nx_base.specs.declared.policy.Policy.{Policy}
use Rattle.nx_base.specs.declared.policy.Policy.TheVariants.{Redeploy, NoRedeploy, ReadOnly}
use Rattle.nx_base.specs.declared.repo_kind.RepoKind.{RepoKind}
use Rattle.nx_base.specs.declared.repo_kind.RepoKind.TheVariants.{Hosted, Proxy}
use Rattle.nx_base.specs.declared.fill.Fill.TheVariants.{First}
use Rattle.nx_base.specs.Order.{name_cmp, same_name}
use Rattle.nx_base.specs.Fills.{Group, writable}
use Rattle.nx_base.specs.Cleanup.{Criteria}

-- a repository: the store or group that it writes to, and its rules. `max_age` and `not_found` are in minutes, `cleanup` names policies.
pub record Repo : Type 0 where
  pub kind : RepoKind
  pub store : List ℕ
  pub policy : Policy
  pub max_age : Option ℕ
  pub not_found : ℕ
  pub cleanup : List (List ℕ)

-- `groups` has each file store too, as a group of one. `compact_age` is in milliseconds.
pub record Config : Type 0 where
  pub repos : List (List ℕ × Repo)
  pub groups : List (List ℕ × Group)
  pub policies : List (List ℕ × Criteria)
  pub compact_age : ℕ

-- the repository of that name, if it is declared
abbrev pub repo_of : Config → List ℕ → Option Repo
repo_of config name = find name_cmp name config.repos

-- the store or group that a repository writes to
abbrev pub write_store : Repo → List ℕ
write_store repo = repo.store

-- the stores that it writes to
abbrev pub group_of : Config → Repo → Group
group_of config repo = unwrap_or (find name_cmp (write_store repo) config.groups) (record { members = []; fill = First })

-- whether a repository may write to that store
abbrev pub takes : Config → Repo → List ℕ → Bool
takes config repo store = list_any (λ m. same_name m.store store) (writable (group_of config repo))

abbrev pub is_hosted : RepoKind → Bool
is_hosted Hosted = true
is_hosted Proxy = false

abbrev pub is_read_only : Policy → Bool
is_read_only Redeploy = false
is_read_only NoRedeploy = false
is_read_only ReadOnly = true

abbrev pub is_no_redeploy : Policy → Bool
is_no_redeploy Redeploy = false
is_no_redeploy NoRedeploy = true
is_no_redeploy ReadOnly = false
