-- The configuration that a text gives, or why it is refused.
use Rattle.std.specs.Prelude.{◌≡◌, ◌⊎◌, ℕ, List, Option, Some, None, Result, Ok, Err}
use Rattle.sha1.specs.Sha1.{sha1}
use Rattle.java_props.specs.declared.PropsErr.{PropsErr}
use Rattle.java_props.specs.Kept.{Entries}
use Rattle.java_props.specs.Reading as props
use Rattle.repo_config.specs.declared.config_err.ConfigErr.{ConfigErr}
use Rattle.repo_config.specs.declared.config_err.ConfigErr.TheVariants.{Props, NoMemory}
use Rattle.repo_config.specs.Settings.{Settings, settings}
use Rattle.repo_config.specs.Refusals.{refusal}

-- the settings, unless something is refused
abbrev pub unless : Option ConfigErr → Settings → Result Settings ConfigErr
unless (Some e) given = Err e
unless None given = Ok given

-- by what the text says as a properties text
abbrev pub config_from : List ℕ → Result Entries PropsErr → Result Settings ConfigErr
config_from digest (Err e) = Err (Props e)
config_from digest (Ok pairs) = unless (refusal pairs) (settings digest pairs)

-- what a text gives
abbrev pub config_of : List ℕ → Result Settings ConfigErr
config_of bytes = config_from (sha1 bytes) (props.reading bytes)

abbrev pub Configures : List ℕ → Settings → Type 0
Configures bytes settings = config_of bytes ≡ Ok settings

abbrev pub IsRefused : List ℕ → ConfigErr → Type 0
IsRefused bytes e = config_of bytes ≡ Err e

-- what a step answers: the refusal that is wanted, or none; memory may be refused at any time
abbrev pub Answers : {A : Type 0} → Option ConfigErr → Result A ConfigErr → Type 0
Answers wanted (Ok x) = wanted ≡ None
Answers wanted (Err e) = (e ≡ NoMemory) ⊎ (wanted ≡ Some e)
