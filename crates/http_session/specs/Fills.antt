-- What a read from a source comes to.
use Rattle.std.specs.Prelude.{◌≡◌, ℕ, ◌+◌, ◌^◌, ◌<◌, ◌≤◌, Bool, true, List, [], ◌++◌, length, Result, Ok, Err}
use Rattle.std.specs.declared.option.Option.{Option}
use Rattle.std.specs.Io.KnownBytes.{Consumes, IsAtEnd}
use Rattle.nx_io.specs.declared.failure.Failed.{Failed}
use Rattle.http_session.specs.declared.filled.Filled.{Filled}
use Rattle.http_session.specs.declared.filled.Filled.TheVariants as filled
use Rattle.http_session.specs.Views.{SessionView}
use Rattle.http_session.specs.Taken.{Past, Took}

-- the bytes that came are held behind those before
pub record Came (left left' : Option (List ℕ)) (old new : SessionView) : Type 0 where
  pub bytes : List ℕ
  pub some : 0 < length bytes
  pub consumed : Consumes left left' bytes
  pub held : new ≡ record old { held = old.held ++ bytes; total = old.total + length bytes }
  pub within : old.total + length bytes ≤ 2 ^ 40
  pub took : (fed : List ℕ) (past : Past) → Took old fed past → Took new (fed ++ bytes) past

-- the input ended
pub record InputEnds (left left' : Option (List ℕ)) (ended : Bool) (old new : SessionView) : Type 0 where
  pub consumed : Consumes left left' []
  pub at_end : IsAtEnd left'
  pub told : ended ≡ true
  pub noted : new ≡ record old { ended = true }
  pub took : (fed : List ℕ) (past : Past) → Took old fed past → Took new fed past

-- the input has more bytes than a session takes
pub record IsOver (left left' : Option (List ℕ)) (old new : SessionView) : Type 0 where
  pub over : List ℕ
  pub some : 0 < length over
  pub consumed : Consumes left left' over
  pub full : old.total ≡ 2 ^ 40
  pub noted : new ≡ record old { longer = true }
  pub took : (fed : List ℕ) (past : Past) → Took old fed past → Took new fed past

-- bytes came, the input ended, or it is longer; where the source failed nothing has changed
abbrev pub Fills : Option (List ℕ) → Option (List ℕ) → Bool → SessionView → SessionView → Result Filled Failed → Type 0
Fills left left' ended old new (Ok filled.Bytes) = Came left left' old new
Fills left left' ended old new (Ok filled.Ended) = InputEnds left left' ended old new
Fills left left' ended old new (Ok filled.Longer) = IsOver left left' old new
Fills left left' ended old new (Err why) = Consumes left left' [] × (new ≡ old)

-- What a read of at most so many bytes comes to: those behind the bytes that were there. None are the end.
abbrev pub ReadsBehind : Option (List ℕ) → Option (List ℕ) → Bool → ℕ → List ℕ → List ℕ → Result ℕ Failed → Type 0
ReadsBehind left left' ended most old new (Ok n) =
    (bytes : List ℕ) × (n ≡ length bytes) × (n ≤ most) × Consumes left left' bytes × (new ≡ old ++ bytes) × (n ≡ 0 → IsAtEnd left' × (ended ≡ true))
ReadsBehind left left' ended most old new (Err why) = Consumes left left' [] × (new ≡ old)

-- the same for a session, which counts them
abbrev pub KeepsBehind : Option (List ℕ) → Option (List ℕ) → Bool → ℕ → SessionView → SessionView → Result ℕ Failed → Type 0
KeepsBehind left left' ended most old new (Ok n) =
    (bytes : List ℕ) × (n ≡ length bytes) × (n ≤ most) × Consumes left left' bytes
    × (new ≡ record old { held = old.held ++ bytes; total = old.total + length bytes }) × (n ≡ 0 → IsAtEnd left' × (ended ≡ true))
KeepsBehind left left' ended most old new (Err why) = Consumes left left' [] × (new ≡ old)
