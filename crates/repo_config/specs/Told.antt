-- What refusals tell.
use Rattle.std.specs.Prelude.{◌≡◌, ◌⊎◌, ℕ, List, Option, Some, None}
use Rattle.java_props.specs.Reading.{Refuses}
use Rattle.repo_config.specs.declared.config_err.ConfigErr.{ConfigErr}
use Rattle.repo_config.specs.declared.config_err.ConfigErr.TheVariants.{Props, UnknownKey, BadValue, DuplicateName, NoStore, NestedGroup, StoreInTwoGroups, NoMemory}

-- the key of which a refusal speaks
abbrev pub key_told : ConfigErr → Option (List ℕ)
key_told (Props e) = None
key_told (UnknownKey key) = Some key
key_told (BadValue key) = Some key
key_told (DuplicateName key) = Some key
key_told (NoStore key) = Some key
key_told (NestedGroup key) = Some key
key_told (StoreInTwoGroups key) = Some key
key_told NoMemory = None

-- the refusal that is wanted, or want of memory
abbrev pub Tells : ConfigErr → ConfigErr → Type 0
Tells wanted e = (e ≡ NoMemory) ⊎ (e ≡ wanted)

-- the refusal of a text as a properties text
abbrev pub TellsProps : List ℕ → ConfigErr → Type 0
TellsProps bytes (Props e) = Refuses bytes e
TellsProps bytes (UnknownKey key) = ⊥
TellsProps bytes (BadValue key) = ⊥
TellsProps bytes (DuplicateName key) = ⊥
TellsProps bytes (NoStore key) = ⊥
TellsProps bytes (NestedGroup key) = ⊥
TellsProps bytes (StoreInTwoGroups key) = ⊥
TellsProps bytes NoMemory = ⊥

-- a refusal to which keys lead today: no group is read yet
abbrev pub IsToday : ConfigErr → Type 0
IsToday (Props e) = Unit {0}
IsToday (UnknownKey key) = Unit {0}
IsToday (BadValue key) = Unit {0}
IsToday (DuplicateName key) = Unit {0}
IsToday (NoStore key) = Unit {0}
IsToday (NestedGroup key) = ⊥
IsToday (StoreInTwoGroups key) = ⊥
IsToday NoMemory = Unit {0}
