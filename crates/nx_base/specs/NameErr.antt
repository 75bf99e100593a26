-- What a reader of names answers.
use Rattle.std.specs.Prelude.{◌≡◌, ℕ, ◌+◌, ◌≤◌, Result, Ok, Err, IsOk}
use Rattle.nx_base.specs.declared.name_err.NameErr.{NameErr}
use Rattle.nx_base.specs.declared.name_err.NameErr.TheVariants.{Empty, TooLong, BadByte, BadSegment, NoMemory}

-- the answer is the one that is wanted; only in place of an Ok may memory run out
abbrev pub Gives : {A : Type 0} → Result A NameErr → Result A NameErr → Type 0
Gives wanted (Ok name) = wanted ≡ Ok name
Gives wanted (Err Empty) = wanted ≡ Err Empty
Gives wanted (Err (TooLong length)) = wanted ≡ Err (TooLong length)
Gives wanted (Err (BadByte at)) = wanted ≡ Err (BadByte at)
Gives wanted (Err (BadSegment at)) = wanted ≡ Err (BadSegment at)
Gives wanted (Err NoMemory) = IsOk wanted

-- a refusal of what stands behind that many bytes, with its place in the whole
abbrev pub refusal_behind : ℕ → NameErr → NameErr
refusal_behind prefix Empty = Empty
refusal_behind prefix (TooLong length) = TooLong length
refusal_behind prefix (BadByte at) = BadByte (prefix + at)
refusal_behind prefix (BadSegment at) = BadSegment (prefix + at)
refusal_behind prefix NoMemory = NoMemory

-- the refusal speaks of a text of that length: a place that it names is within the text
abbrev pub SpeaksOf : ℕ → NameErr → Type 0
SpeaksOf length Empty = Unit {0}
SpeaksOf length (TooLong n) = Unit {0}
SpeaksOf length (BadByte at) = at ≤ length
SpeaksOf length (BadSegment at) = at ≤ length
SpeaksOf length NoMemory = ⊥
