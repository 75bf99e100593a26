-- The opening of a folder.
use Rattle.std.specs.Prelude.{◌≡◌, ◌≤◌, ℕ, List, Option, Some, None}
use Rattle.std.specs.FinMap as map
use Rattle.nx_io.specs.Causes.{Rose}
use Rattle.repo_model.specs.Plain.{config_of}
use Rattle.repo_model.specs.State.{empty_state}
use Rattle.repo_config.specs.declared.config_err.ConfigErr.{ConfigErr}
use Rattle.repo_config.specs.declared.config_err.ConfigErr.TheVariants as refused
use Rattle.repo_config.specs.Model.{model_of}
use Rattle.repo_config.specs.Settings.{Settings}
use Rattle.repo_core.specs.Fresh.{HasNoBlob, fresh_core}
use Rattle.repo_core.specs.Rows.{rows_in}
use Rattle.repo_core.specs.Standing.{Tracks}
use Rattle.repo_core.specs.View.{CoreView}
use Rattle.repo_core.specs.Devices.{Devices}
use Rattle.repo_core.specs.declared.opening.OpenErr.{OpenErr}
use Rattle.repo_core.specs.declared.opening.OpenErr.TheVariants as open_err
use Rattle.nexrepo.specs.declared.opening.Unopened.{Unopened}
use Rattle.nexrepo.specs.declared.status.Status.{Status}
use Rattle.nexrepo.specs.declared.status.Status.TheVariants as status
use Rattle.nexrepo.specs.Configs.{FileGives, IsBadFile}
use Rattle.nexrepo.specs.Statuses.{config_file}

-- the status of a configuration that is refused
abbrev pub refusal_status : ConfigErr → Status
refusal_status (refused.Props e) = status.BadConfig None
refusal_status (refused.UnknownKey key) = status.BadConfig (Some key)
refusal_status (refused.BadValue key) = status.BadConfig (Some key)
refusal_status (refused.DuplicateName key) = status.BadConfig (Some key)
refusal_status (refused.NoStore key) = status.BadConfig (Some key)
refusal_status (refused.NestedGroup key) = status.BadConfig (Some key)
refusal_status (refused.StoreInTwoGroups key) = status.BadConfig (Some key)
refusal_status refused.NoMemory = status.NoMemory

-- the status of a folder that isn't opened though its configuration was read
abbrev pub not_open_status : OpenErr → Status
not_open_status open_err.DiskFault = status.DiskFault
not_open_status open_err.KeeperFault = status.KeeperFault
not_open_status open_err.NoMemory = status.NoMemory

-- why a folder isn't opened: its configuration is bad, the disk failed, or memory was refused
abbrev pub IsOpenRefusal : Type 0 → Option (List ℕ) → ℕ → ℕ → Status → Type 0
IsOpenRefusal told file before now status.Ok = ⊥
IsOpenRefusal told file before now status.Usage = ⊥
IsOpenRefusal told file before now (status.BadConfig key) = told → IsBadFile file key
IsOpenRefusal told file before now status.ReadFault = ⊥
IsOpenRefusal told file before now status.WriteFault = ⊥
IsOpenRefusal told file before now status.InputTooLong = ⊥
IsOpenRefusal told file before now status.DiskFault = Rose before now
IsOpenRefusal told file before now status.KeeperFault = ⊥
IsOpenRefusal told file before now status.Cut = ⊥
IsOpenRefusal told file before now status.DownloadFault = ⊥
IsOpenRefusal told file before now status.NoMemory = Unit {0}

-- A folder wasn't opened, and nothing changed.
pub record IsUnopened {D T : Type 0} (devices : Devices D T) (disk : D) (table : T) (left : Unopened D T) : Type 0 where
  pub why : IsOpenRefusal devices.told (devices.tree disk config_file) (devices.disk_faults disk) (devices.disk_faults left.disk) left.why
  pub files : devices.told → devices.tree left.disk ≡ devices.tree disk
  pub rows : left.table ≡ table

-- A core was made with the settings that the configuration's file gives, and nothing changed. Over devices on which nothing was stored
-- it stands for the repository in which nothing was.
pub record IsOpened {D T : Type 0} (devices : Devices D T) (disk : D) (table : T) (core : CoreView D T) : Type 0 where
  pub settings : Settings
  pub given : devices.told → FileGives (devices.tree disk config_file) settings
  pub fresh : core ≡ fresh_core core.disk table core.config 1 settings.journal
  pub config : config_of core.config ≡ model_of settings
  pub files : devices.told → devices.tree core.disk ≡ devices.tree disk
  pub crash : devices.told → devices.lists core.disk (devices.clock core.disk) ≡ devices.lists disk (devices.clock disk)
  pub later : devices.disk_faults disk ≤ devices.disk_faults core.disk
  pub stands : devices.told → HasNoBlob (devices.tree disk) → rows_in (devices.table table) ≡ map.empty → Tracks devices.tree devices.table core empty_state
