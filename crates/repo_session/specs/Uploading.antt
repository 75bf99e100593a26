-- What is said to an upload before its content is read.
use Rattle.std.specs.Prelude.{ℕ, List}
use Rattle.http_heads.specs.declared.head.Head.{Head}
use Rattle.session_history.specs.Phases.{go_on}

-- what is said to an upload that was begun
abbrev pub before_content : Head → List ℕ
before_content head = (go_on head).bytes
