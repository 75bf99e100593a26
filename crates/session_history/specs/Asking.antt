-- What a session asks for at a mark.
use Rattle.std.specs.Prelude.{Option, Some, None}
use Rattle.repo_model.specs.declared.call.Begin.{Begin}
use Rattle.repo_model.specs.declared.call.Kind.TheVariants as kinds
use Rattle.repo_model.specs.declared.call.Look.TheVariants as looks
use Rattle.http_heads.specs.declared.head.Head.{Head}
use Rattle.http_heads.specs.declared.method.Method.{Method}
use Rattle.http_heads.specs.declared.method.Method.TheVariants as methods
use Rattle.session_history.specs.declared.ask.Ask.{Ask}
use Rattle.session_history.specs.declared.ask.Ask.TheVariants as asks
use Rattle.session_history.specs.Marks.{Mark, accepted, content, spoiled}
use Rattle.session_history.specs.Phases.{Phase, between, inside}

-- what begins an upload with that head
abbrev pub begin_of : Head → Begin
begin_of head = record { key = head.key; content_type = head.content_type; kind = kinds.Put }

-- the first call of a request, by its method
abbrev pub ask_of : Head → Method → Ask
ask_of head methods.Get = asks.Look head.key looks.Get
ask_of head methods.Head = asks.Look head.key looks.Head
ask_of head methods.Put = asks.Begin (begin_of head)
ask_of head methods.Delete = asks.Delete head.key

-- at a head its first call; at a content that came whole its put; at one that is refused the end of its upload
abbrev pub ask_at : Phase → Mark → Option Ask
ask_at between (accepted head) = Some (ask_of head head.method)
ask_at (inside head) (content bytes) = Some asks.Commit
ask_at (inside head) (spoiled bytes why) = Some asks.Abort
ask_at phase mark = None
