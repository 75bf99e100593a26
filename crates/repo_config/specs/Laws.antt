-- What holds of the definitions.
use Rattle.std.specs.Prelude.{◌≡◌, ◌⊎◌, ◌≤◌, ℕ, List, length, true, Some, IsSomeAnd}
use Rattle.repo_config.specs.declared.config_err.ConfigErr.{ConfigErr}
use Rattle.repo_config.specs.declared.form.Subject.{Subject}
use Rattle.repo_config.specs.declared.form.Subject.TheVariants.{OfStore, OfRepo}
use Rattle.repo_config.specs.declared.form.Word.{Word}
use Rattle.repo_config.specs.Words.{text}
use Rattle.repo_config.specs.Keys.{subject_of, middle_of, tail_of, key_text}
use Rattle.repo_config.specs.Lists.{has_name}
use Rattle.repo_config.specs.Settings.{Settings, Repository, repo_at}
use Rattle.repo_config.specs.Reading.{Configures, IsRefused}

-- each text gives a configuration, or is refused for some reason
abbrev pub SomeMeaning : Type 0
SomeMeaning = (bytes : List ℕ) → ((settings : Settings) × Configures bytes settings) ⊎ ((e : ConfigErr) × IsRefused bytes e)

-- no text does both
abbrev pub NeverBoth : Type 0
NeverBoth = (bytes : List ℕ) (settings : Settings) (e : ConfigErr) → Configures bytes settings → IsRefused bytes e → ⊥

-- a text gives one configuration
abbrev pub OneConfiguration : Type 0
OneConfiguration = (bytes : List ℕ) (settings other : Settings) → Configures bytes settings → Configures bytes other → settings ≡ other

-- a text is refused for one reason
abbrev pub OneRefusal : Type 0
OneRefusal = (bytes : List ℕ) (e other : ConfigErr) → IsRefused bytes e → IsRefused bytes other → e ≡ other

-- the repository has a store, which is a declared file store
abbrev pub HasStore : Settings → Repository → Type 0
HasStore settings repo = IsSomeAnd repo.store (λ store. has_name settings.file_stores store ≡ true)

-- what every configuration keeps
pub record IsSound (settings : Settings) : Type 0 where
  pub stores : (name : List ℕ) (repo : Repository) → repo_at settings name ≡ Some repo → HasStore settings repo
  pub journal : (1 ≤ settings.journal) × (settings.journal ≤ 1000000)
  pub few : length settings.file_stores ≤ 64

abbrev pub AllSound : Type 0
AllSound = (bytes : List ℕ) (settings : Settings) → Configures bytes settings → IsSound settings

-- a key that is made of a subject, a name and a word is taken apart into these
pub record IsParted (subject : Subject) (name : List ℕ) (word : Word) : Type 0 where
  pub prefix : subject_of (key_text subject name word) ≡ Some subject
  pub middle : middle_of (key_text subject name word) ≡ name
  pub last : tail_of (key_text subject name word) ≡ text word

abbrev pub StoreKeysParted : Type 0
StoreKeysParted = (name : List ℕ) (word : Word) → IsParted OfStore name word

abbrev pub RepoKeysParted : Type 0
RepoKeysParted = (name : List ℕ) (word : Word) → IsParted OfRepo name word
