-- Why a call is refused, told or not. What the configuration decides comes first, and no device is asked before; then what the devices
-- answered, in the order of the step. `found` says whether the keeper's last look found a row, and `looked` what the disk's last look at a
-- file found. What bars every call (a full journal, a broken core) is said of all calls at once, so nothing is said of it here.
use Rattle.std.specs.Prelude.{◌≡◌, ◌≢◌, ◌≤◌, ◌<◌, ℕ, Bool, true, false, not, ◌&&◌, List, Option, Some, None, IsSome, unwrap_or}
use Rattle.std.specs.FinMap as map
use Rattle.nx_base.specs.Fills.{chosen}
use Rattle.nx_base.specs.Given.{given}
use Rattle.nx_base.specs.Ids.{id_made}
use Rattle.nx_base.specs.Order.{name_cmp}
use Rattle.nx_base.specs.declared.key.Key.{Key}
use Rattle.nx_base.specs.declared.moment.Moment.{Moment}
use Rattle.nx_base.specs.declared.policy.Policy.{Policy}
use Rattle.nx_base.specs.declared.policy.Policy.TheVariants as policies
use Rattle.repo_model.specs.declared.call.Look.{Look}
use Rattle.repo_model.specs.declared.call.Look.TheVariants as looks
use Rattle.repo_model.specs.declared.reply.Refusal.{Refusal}
use Rattle.repo_model.specs.declared.reply.Refusal.TheVariants as refusal
use Rattle.repo_model.specs.Config.{Config, repo_of, group_of, write_store, is_no_redeploy}
use Rattle.repo_model.specs.Timestamps.{greatest_time, next_timestamp}
use Rattle.repo_model.specs.Writing.{bars_put, bars_delete}

-- whether the key's repository is declared, and clients may delete of it, or may not
abbrev pub may_delete : Config → Key → Bool
may_delete config key = given (repo_of config key.repo) false (λ repo. not (bars_delete repo))

abbrev pub may_not_delete : Config → Key → Bool
may_not_delete config key = given (repo_of config key.repo) false bars_delete

-- whether it is declared, and clients may put into it, or may not
abbrev pub may_put : Config → Key → Bool
may_put config key = given (repo_of config key.repo) false (λ repo. not (bars_put repo))

abbrev pub may_not_put : Config → Key → Bool
may_not_put config key = given (repo_of config key.repo) false bars_put

-- whether what a key of it has may not be replaced
abbrev pub keeps_rows : Config → Key → Bool
keeps_rows config key = given (repo_of config key.repo) false (λ repo. is_no_redeploy repo.policy)

-- the store into which a new upload goes, by the uploads that were begun
abbrev pub store_of : Config → map.FinMap name_cmp ℕ → Key → Option (List ℕ)
store_of config counts key =
    given (repo_of config key.repo) None (λ repo. chosen (group_of config repo) (unwrap_or (map.get counts (write_store repo)) 0))

-- a deletion
abbrev pub WhyNotDeleted : Config → Key → Bool → Refusal → Type 0
WhyNotDeleted config key found refusal.NotFound = (may_delete config key ≡ true) × (found ≡ false)
WhyNotDeleted config key found refusal.UnknownRepo = repo_of config key.repo ≡ None
WhyNotDeleted config key found (refusal.WriteDenied policy) = (policy ≡ policies.ReadOnly) × (may_not_delete config key ≡ true)
WhyNotDeleted config key found refusal.NoWritable = ⊥
WhyNotDeleted config key found (refusal.IdTaken id) = ⊥
WhyNotDeleted config key found refusal.StampsUsed = ⊥
WhyNotDeleted config key found refusal.RemoteFault = ⊥
WhyNotDeleted config key found (refusal.Damaged size length) = (may_delete config key ≡ true) × (found ≡ true) × (length ≡ None)
WhyNotDeleted config key found refusal.DiskFault = (may_delete config key ≡ true) × (found ≡ true)
WhyNotDeleted config key found refusal.KeeperFault = may_delete config key ≡ true
WhyNotDeleted config key found (refusal.Broken cause) = Unit {0}
WhyNotDeleted config key found refusal.JournalFull = Unit {0}
WhyNotDeleted config key found refusal.NoMemory = may_delete config key ≡ true

-- a look at a content. A HEAD asks no disk.
abbrev pub WhyNotGiven : Config → Key → Look → Bool → Option ℕ → Refusal → Type 0
WhyNotGiven config key look found looked refusal.NotFound = IsSome (repo_of config key.repo) × (found ≡ false)
WhyNotGiven config key look found looked refusal.UnknownRepo = repo_of config key.repo ≡ None
WhyNotGiven config key look found looked (refusal.WriteDenied policy) = ⊥
WhyNotGiven config key look found looked refusal.NoWritable = ⊥
WhyNotGiven config key look found looked (refusal.IdTaken id) = ⊥
WhyNotGiven config key look found looked refusal.StampsUsed = ⊥
WhyNotGiven config key look found looked refusal.RemoteFault = ⊥
WhyNotGiven config key look found looked (refusal.Damaged size length) =
    IsSome (repo_of config key.repo) × (found ≡ true) × (look ≡ looks.Get) × (looked ≡ length) × (length ≢ Some size)
WhyNotGiven config key look found looked refusal.DiskFault = IsSome (repo_of config key.repo) × (found ≡ true) × (look ≡ looks.Get)
WhyNotGiven config key look found looked refusal.KeeperFault = IsSome (repo_of config key.repo)
WhyNotGiven config key look found looked (refusal.Broken cause) = Unit {0}
WhyNotGiven config key look found looked refusal.JournalFull = Unit {0}
WhyNotGiven config key look found looked refusal.NoMemory = IsSome (repo_of config key.repo)

-- what the policy makes of the beginning of an upload
abbrev pub WhyNotBegunBy : Config → map.FinMap name_cmp ℕ → Key → Bool → Policy → Type 0
WhyNotBegunBy config counts key found policies.Redeploy = ⊥
WhyNotBegunBy config counts key found policies.NoRedeploy = IsSome (store_of config counts key) × (keeps_rows config key ≡ true) × (found ≡ true)
WhyNotBegunBy config counts key found policies.ReadOnly = may_not_put config key ≡ true

-- the beginning of an upload. The keeper is asked only where the policy keeps what is there.
abbrev pub WhyNotBegun : Config → map.FinMap name_cmp ℕ → Key → Bool → Refusal → Type 0
WhyNotBegun config counts key found refusal.NotFound = ⊥
WhyNotBegun config counts key found refusal.UnknownRepo = repo_of config key.repo ≡ None
WhyNotBegun config counts key found (refusal.WriteDenied policy) = WhyNotBegunBy config counts key found policy
WhyNotBegun config counts key found refusal.NoWritable = (may_put config key ≡ true) × (store_of config counts key ≡ None)
WhyNotBegun config counts key found (refusal.IdTaken id) = ⊥
WhyNotBegun config counts key found refusal.StampsUsed = ⊥
WhyNotBegun config counts key found refusal.RemoteFault = ⊥
WhyNotBegun config counts key found (refusal.Damaged size length) = ⊥
WhyNotBegun config counts key found refusal.DiskFault =
    (may_put config key ≡ true) × IsSome (store_of config counts key) × (keeps_rows config key ≡ true → found ≡ false)
WhyNotBegun config counts key found refusal.KeeperFault =
    (may_put config key ≡ true) × IsSome (store_of config counts key) × (keeps_rows config key ≡ true)
WhyNotBegun config counts key found (refusal.Broken cause) = Unit {0}
WhyNotBegun config counts key found refusal.JournalFull = Unit {0}
WhyNotBegun config counts key found refusal.NoMemory = (may_put config key ≡ true) × IsSome (store_of config counts key)

-- the put of an upload, behind the last timestamp
abbrev pub WhyNotPut : Config → ℕ → Key → Moment → Bool → Option ℕ → Refusal → Type 0
WhyNotPut config last key moment found looked refusal.NotFound = ⊥
WhyNotPut config last key moment found looked refusal.UnknownRepo = ⊥
WhyNotPut config last key moment found looked (refusal.WriteDenied policy) = (policy ≡ policies.NoRedeploy) × (keeps_rows config key ≡ true) × (found ≡ true)
WhyNotPut config last key moment found looked refusal.NoWritable = ⊥
WhyNotPut config last key moment found looked (refusal.IdTaken id) =
    ((keeps_rows config key && found) ≡ false) × (last < greatest_time) × (id ≡ id_made (next_timestamp last moment.now) moment.random) × IsSome looked
WhyNotPut config last key moment found looked refusal.StampsUsed = ((keeps_rows config key && found) ≡ false) × (greatest_time ≤ last)
WhyNotPut config last key moment found looked refusal.RemoteFault = ⊥
WhyNotPut config last key moment found looked (refusal.Damaged size length) = ⊥
WhyNotPut config last key moment found looked refusal.DiskFault = ((keeps_rows config key && found) ≡ false) × (last < greatest_time)
WhyNotPut config last key moment found looked refusal.KeeperFault = Unit {0}
WhyNotPut config last key moment found looked (refusal.Broken cause) = Unit {0}
WhyNotPut config last key moment found looked refusal.JournalFull = Unit {0}
WhyNotPut config last key moment found looked refusal.NoMemory = Unit {0}
