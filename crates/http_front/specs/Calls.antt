-- Which calls of the repository a request makes.
use Rattle.std.specs.Prelude.{ℕ, ◌&&◌, if◌then◌else◌, List, [], ◌∷◌, length, Option, Some, None}
use Rattle.nx_base.specs.declared.moment.Moment.{Moment}
use Rattle.repo_model.specs.declared.call.Call.{Call}
use Rattle.repo_model.specs.declared.call.Call.TheVariants as call
use Rattle.repo_model.specs.declared.call.Kind.TheVariants as kind
use Rattle.repo_model.specs.declared.call.Look.TheVariants as look
use Rattle.repo_model.specs.declared.call.RemoteSaid.TheVariants as remote
use Rattle.repo_model.specs.declared.entry.Entry.{Entry}
use Rattle.repo_model.specs.declared.reply.Reply.{Reply}
use Rattle.repo_model.specs.declared.reply.Reply.TheVariants as reply
use Rattle.repo_model.specs.History.{is_begin}
use Rattle.http_heads.specs.declared.head.Head.{Head}
use Rattle.http_heads.specs.declared.method.Method.{Method}
use Rattle.http_heads.specs.declared.method.Method.TheVariants as methods
use Rattle.http_requests.specs.Requests.{Item, refused, whole, stopped, cut}
use Rattle.http_front.specs.declared.stop.Stop.{Stop}
use Rattle.http_front.specs.Entries.{begins, goes_on}

-- the call with which an accepted head begins, by its method
abbrev pub first_call : Moment → Head → Method → Call
first_call moment head methods.Get = call.Get head.key look.Get moment remote.NotAsked
first_call moment head methods.Head = call.Get head.key look.Head moment remote.NotAsked
first_call moment head methods.Put = call.Begin (record { key = head.key; content_type = head.content_type; kind = kind.Put })
first_call moment head methods.Delete = call.Delete head.key moment.now

-- the call that puts a content that came whole
abbrev pub put_call : (List ℕ → List ℕ) → Moment → Head → List ℕ → Call
put_call digest moment head content = call.Put head.key head.content_type (length content) (digest content) moment

-- the first call of a request. A refused head makes none.
abbrev pub call_of : Moment → Item → Option Call
call_of moment (refused why bare) = None
call_of moment (whole head content) = Some (first_call moment head head.method)
call_of moment (stopped head content why) = Some (first_call moment head head.method)
call_of moment (cut head content) = Some (first_call moment head head.method)

-- the call that puts the content of a request, where that came whole
abbrev pub put_of : (List ℕ → List ℕ) → Moment → Item → Option Call
put_of digest moment (refused why bare) = None
put_of digest moment (whole head content) = Some (put_call digest moment head content)
put_of digest moment (stopped head content why) = None
put_of digest moment (cut head content) = None

-- the next call of a request behind the entries that it made: its first; then, behind the beginning of an upload whose content
-- came whole, the one that puts it. A stop comes before that.
abbrev pub next_call : (List ℕ → List ℕ) → Moment → Item → Option Stop → List Entry → Option Call
next_call digest moment request stop [] = call_of moment request
next_call digest moment request stop (first ∷ []) = if begins first && goes_on request stop then put_of digest moment request else None
next_call digest moment request stop (first ∷ second ∷ done) = None

-- the store of an upload that a reply begins; else none
abbrev pub store_begun : Reply → List ℕ
store_begun (reply.Begun store) = store
store_begun (reply.Stored asset) = []
store_begun (reply.Found asset) = []
store_begun reply.Gone = []
store_begun reply.Removed = []
store_begun (reply.Reconciled kept) = []
store_begun (reply.Refused r) = []

-- the store into which the first of the entries began an upload; else none
abbrev pub store_in : List Entry → List ℕ
store_in [] = []
store_in (first ∷ entries) = if is_begin first.call then store_begun first.reply else []
