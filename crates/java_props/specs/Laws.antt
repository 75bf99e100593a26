-- What holds of the definitions.
use Rattle.std.specs.Prelude.{◌<◌, slice_index, ◌≡◌, ◌≢◌, Some, slice_get, ◌≤◌, length, ◌⊎◌, ℕ, List}
use Rattle.java_props.specs.declared.PropsErr.{PropsErr}
use Rattle.java_props.specs.declared.PropsErr.TheVariants.{TooLong, BadEscape, BadSurrogate, TooMany, NoMemory}
use Rattle.java_props.specs.Kept.{Entries, put, value_of, ArePairs, AreTexts}
use Rattle.java_props.specs.Writing.{written}
use Rattle.java_props.specs.Reading.{Reads, Refuses}

-- each text says some pairs, or is refused for some reason
abbrev pub SomeMeaning : Type 0
SomeMeaning = (bytes : List ℕ) → ((pairs : Entries) × Reads bytes pairs) ⊎ ((e : PropsErr) × Refuses bytes e)

-- no text does both
abbrev pub NeverBoth : Type 0
NeverBoth = (bytes : List ℕ) (pairs : Entries) (e : PropsErr) → Reads bytes pairs → Refuses bytes e → ⊥

-- a text says one list of pairs
abbrev pub OneReading : Type 0
OneReading = (bytes : List ℕ) (pairs others : Entries) → Reads bytes pairs → Reads bytes others → pairs ≡ others

-- a text is refused for one reason
abbrev pub OneRefusal : Type 0
OneRefusal = (bytes : List ℕ) (e other : PropsErr) → Refuses bytes e → Refuses bytes other → e ≡ other

-- what is written is read as the pairs that were written
abbrev pub ReadsBack : Type 0
ReadsBack =
    (pairs : Entries) → ArePairs pairs → AreTexts pairs → length (written pairs) ≤ 65536 → Reads (written pairs) pairs

-- a key has the value that was set
abbrev pub SetGives : Type 0
SetGives = (key value : List ℕ) (pairs : Entries) → value_of key (put key value pairs) ≡ Some value

-- every other key has the value that it had
abbrev pub SetKeeps : Type 0
SetKeeps =
    (key other value : List ℕ) (pairs : Entries) → other ≢ key → value_of other (put key value pairs) ≡ value_of other pairs

-- pairs have the value of each key that one of them has
abbrev pub PairsGive : Type 0
PairsGive =
    (pairs : Entries) (at : ℕ) (pair : List ℕ × List ℕ) → ArePairs pairs → slice_get pairs at ≡ Some pair → value_of pair.0 pairs ≡ Some pair.1

-- a backslash stands here
abbrev pub HasBackslash : List ℕ → ℕ → Type 0
HasBackslash bytes at = (at < length bytes) × (slice_index bytes at ≡ 92)

-- what a refusal tells: the length, or the place of a byte of the text; want of memory is none of the text's
abbrev pub PointsInto : List ℕ → PropsErr → Type 0
PointsInto bytes (TooLong n) = (n ≡ length bytes) × (65536 < n)
PointsInto bytes (BadEscape at) = HasBackslash bytes at
PointsInto bytes (BadSurrogate at) = HasBackslash bytes at
PointsInto bytes (TooMany at) = at < length bytes
PointsInto bytes NoMemory = ⊥

-- each refusal of a text of bytes points into it
abbrev pub RefusalsPoint : Type 0
RefusalsPoint = (bytes : List ℕ) (e : PropsErr) → ((i : ℕ) → slice_index bytes i < 256) → Refuses bytes e → PointsInto bytes e
