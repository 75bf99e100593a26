-- What the file of the configuration gives.
use Rattle.std.specs.Prelude.{◌≡◌, ℕ, List, Option, Some, None}
use Rattle.repo_config.specs.declared.config_err.ConfigErr.{ConfigErr}
use Rattle.repo_config.specs.Settings.{Settings}
use Rattle.repo_config.specs.Reading.{Configures, IsRefused}
use Rattle.repo_config.specs.Told.{key_told}

-- the file is there, and its text gives these settings
abbrev pub FileGives : Option (List ℕ) → Settings → Type 0
FileGives None settings = ⊥
FileGives (Some text) settings = Configures text settings

-- There is no file, or its text is refused. The key is the one of which the refusal speaks; that of a text which is no properties
-- text, and of no file, speaks of none.
abbrev pub IsBadFile : Option (List ℕ) → Option (List ℕ) → Type 0
IsBadFile None key = key ≡ None
IsBadFile (Some text) key = (why : ConfigErr) × IsRefused text why × (key ≡ key_told why)
