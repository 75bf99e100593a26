-- An answer that may be want of memory in place of what is wanted.
use Rattle.std.specs.Prelude.{◌≡◌, ◌⊎◌, Result, Err}
use Rattle.http_heads.specs.declared.head_err.HeadErr.{HeadErr}
use Rattle.http_heads.specs.declared.head_err.HeadErr.TheVariants.{NoMemory}

-- the answer is the one that is wanted, unless memory ran out
abbrev pub GivesOr : {A : Type 0} → Result A HeadErr → Result A HeadErr → Type 0
GivesOr wanted answer = (answer ≡ Err NoMemory) ⊎ (answer ≡ wanted)
