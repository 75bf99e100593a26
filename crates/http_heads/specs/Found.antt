-- That a text has an answer.
use Rattle.std.specs.Prelude.{◌≢◌, ℕ, List, Result, Err}
use Rattle.http_heads.specs.declared.head.Head.{Head}
use Rattle.http_heads.specs.declared.head_err.HeadErr.{HeadErr}
use Rattle.http_heads.specs.declared.head_err.HeadErr.TheVariants.{NoMemory}
use Rattle.http_heads.specs.Head.{GivesHead}

-- a head, or a refusal that is no want of memory
abbrev pub HasAnswer : List ℕ → Type 0
HasAnswer text = (answer : Result Head HeadErr) × GivesHead text answer × (answer ≢ Err NoMemory)
