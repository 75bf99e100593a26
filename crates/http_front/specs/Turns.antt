-- The history of a session, request by request.
use Rattle.std.specs.Prelude.{◌≡◌, ℕ, ◌+◌, ◌<◌, ◌≤◌, ◌⊎◌, Bool, true, false, List, [], ◌∷◌, ◌++◌, length, map, flat_map, Option, Some, None}
use Rattle.nx_base.specs.declared.moment.Moment.{Moment}
use Rattle.repo_model.specs.declared.entry.Entry.{Entry}
use Rattle.repo_model.specs.Config.{Config}
use Rattle.repo_model.specs.State.{State}
use Rattle.repo_model.specs.Step.{outcome}
use Rattle.repo_model.specs.History.{Fails}
use Rattle.http_heads.specs.Head.{is_put}
use Rattle.http_requests.specs.Requests.{Item, refused, whole, stopped, cut}
use Rattle.http_front.specs.declared.stop.Stop.{Stop}
use Rattle.http_front.specs.declared.stop.Stop.TheVariants as stops
use Rattle.http_front.specs.Contents.{Contents, with_content}
use Rattle.http_front.specs.Answers.{Answer, last_reply, response_of}
use Rattle.http_front.specs.Entries.{begins}
use Rattle.http_front.specs.Served.{Serves}
use Rattle.http_front.specs.Calls.{next_call, store_in}

-- what a session runs under: which caller of the repository it is, the configuration, the digest of contents (SHA-1), the moments that
-- it draws, one for each request, by number, and how many entries the journal takes
pub record Setting : Type 0 where
  pub caller : ℕ
  pub config : Config
  pub digest : List ℕ → List ℕ
  pub draws : ℕ → Moment
  pub room : ℕ

-- one request, what stopped it beside its entries, and these
pub record Turn : Type 0 where
  pub request : Item
  pub stop : Option Stop
  pub entries : List Entry

-- The entry with that number comes next: by the step, of an upload into that store; or a device or the memory failed. No content is told
-- to be damaged: those that the state's rows name are there.
abbrev pub FollowsAt : Config → ℕ → State → List ℕ → Entry → State → Type 0
FollowsAt config number state store entry new =
    (outcome config state store entry.call ≡ Some (record { reply = entry.reply; new = new }))
    ⊎ Fails number state entry.call entry.reply new

-- behind the entries `done` of a request, the entry with that number is that of its next call, and leads from the state to the new one
pub record IsNextEntry (setting : Setting) (moment : Moment) (request : Item) (stop : Option Stop) (done : List Entry) (number : ℕ) (state : State) (entry : Entry) (new : State) : Type 0 where
  pub asked : next_call setting.digest moment request stop done ≡ Some entry.call
  pub caller : entry.caller ≡ setting.caller
  pub fits : number < setting.room
  pub follows : FollowsAt setting.config number state (store_in done) entry new

-- Behind the entries `done`, these are the entries of the calls of the request, in their order, and lead from the state to the new
-- one. A call is left out only where the journal is full, or where a want of memory stopped the request before it.
abbrev pub Makes : Setting → Moment → Item → Option Stop → List Entry → ℕ → State → List Entry → State → Type 0
Makes setting moment request stop done number state [] new =
    ((next_call setting.digest moment request stop done ≡ None) ⊎ ((setting.room ≤ number) ⊎ (stop ≡ Some stops.NoMemory))) × (new ≡ state)
Makes setting moment request stop done number state (entry ∷ entries) new =
    (mid : State) × IsNextEntry setting moment request stop done number state entry mid
    × Makes setting moment request stop (done ++ entry ∷ []) (number + 1) mid entries new

-- whether a request sends a content
abbrev pub is_upload : Item → Bool
is_upload (refused why bare) = false
is_upload (whole head content) = is_put head.method
is_upload (stopped head content why) = is_put head.method
is_upload (cut head content) = is_put head.method

-- What stops a request stops an upload: want of memory before its first call, or whatever befalls its content, behind a beginning that
-- was accepted and in front of the call that puts it.
abbrev pub MayStop : Item → Option Stop → List Entry → Type 0
MayStop request None entries = Unit {0}
MayStop request (Some stop) [] = (is_upload request ≡ true) × (stop ≡ stops.NoMemory)
MayStop request (Some stop) (first ∷ entries) = (begins first ≡ true) × (entries ≡ [])

-- what came of the content of a request
abbrev pub content_of : Item → List ℕ
content_of (refused why bare) = []
content_of (whole head content) = content
content_of (stopped head content why) = content
content_of (cut head content) = content

-- the contents behind a turn: a content that was stored joins them
abbrev pub contents_after : Turn → Contents → Contents
contents_after turn contents = with_content (last_reply turn.entries) (content_of turn.request) contents

-- the answer of a turn, in front of which stand these contents
abbrev pub turn_answer : Contents → Turn → Answer
turn_answer contents turn = response_of (contents_after turn contents) turn.request turn.stop turn.entries

-- A turn with the n-th moment, whose first entry has that number, leads from the state to the new one. The content that it gives
-- out is there.
pub record IsTurn (setting : Setting) (n number : ℕ) (state : State) (contents : Contents) (turn : Turn) (new : State) : Type 0 where
  pub makes : Makes setting (setting.draws n) turn.request turn.stop [] number state turn.entries new
  pub stops : MayStop turn.request turn.stop turn.entries
  pub served : Serves (contents_after turn contents) (last_reply turn.entries)

-- The turns, one after another, lead from state and contents to the new ones. The session ends after none but the last.
abbrev pub AreTurns : Setting → ℕ → ℕ → State → Contents → List Turn → State → Contents → Type 0
AreTurns setting n number state contents [] new contents' = (new ≡ state) × (contents' ≡ contents)
AreTurns setting n number state contents (turn ∷ turns) new contents' =
    (mid : State) × IsTurn setting n number state contents turn mid
    × (((turn_answer contents turn).ends ≡ false) ⊎ (turns ≡ []))
    × AreTurns setting (n + 1) (number + length turn.entries) mid (contents_after turn contents) turns new contents'

-- the session ends after none of the turns
abbrev pub NoneEnds : Contents → List Turn → Type 0
NoneEnds contents [] = Unit {0}
NoneEnds contents (turn ∷ turns) = ((turn_answer contents turn).ends ≡ false) × NoneEnds (contents_after turn contents) turns

abbrev pub requests_of : List Turn → List Item
requests_of turns = map (λ turn. turn.request) turns

-- one after another
abbrev pub entries_of : List Turn → List Entry
entries_of turns = flat_map (λ turn. turn.entries) turns

abbrev pub stops_of : List Turn → List (Option Stop)
stops_of turns = map (λ turn. turn.stop) turns

-- what is said in the turns, from these contents on
abbrev pub turns_said : Contents → List Turn → List ℕ
turns_said contents [] = []
turns_said contents (turn ∷ turns) = (turn_answer contents turn).bytes ++ turns_said (contents_after turn contents) turns
