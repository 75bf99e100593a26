-- What was written of an answer.
use Rattle.std.specs.Prelude.{ℕ, List, length, take, Result, Ok, Err}
use Rattle.std.specs.declared.option.Option.{Option}
use Rattle.std.specs.Io.KnownBytes.{Appends}
use Rattle.http_front.specs.Replying.{IsShort}
use Rattle.http_front.specs.declared.unsaid.Unsaid.{Unsaid}
use Rattle.http_front.specs.declared.unsaid.Unsaid.TheVariants.{WriteFault, DownloadFault}

-- all of it, or a prefix of it: where a write failed, not all
abbrev pub Sent : Option (List ℕ) → Option (List ℕ) → List ℕ → Result (Unit {0}) Unsaid → Type 0
Sent taken taken' answer (Ok x) = Appends taken taken' answer
Sent taken taken' answer (Err why) = (count : ℕ) × IsShort why count (length answer) × Appends taken taken' (take count answer)

-- the same of some bytes that meet P
abbrev pub SentSome : (List ℕ → Type 0) → Option (List ℕ) → Option (List ℕ) → Result (Unit {0}) Unsaid → Type 0
SentSome P taken taken' result = (answer : List ℕ) × P answer × Sent taken taken' answer result

-- only writing fails, and no download
abbrev pub OnlyWriteFails : Result (Unit {0}) Unsaid → Type 0
OnlyWriteFails (Ok x) = Unit {0}
OnlyWriteFails (Err WriteFault) = Unit {0}
OnlyWriteFails (Err DownloadFault) = ⊥
