-- Worked rows of turns: what some requests make, and how they are answered.
use Rattle.std.specs.Prelude.{◌≡◌, ℕ, ◌≤◌, Bool, true, false, List, [], ◌∷◌, ◌++◌, Some, None}
use Rattle.nx_base.specs.declared.asset.Asset.{Asset}
use Rattle.nx_base.specs.declared.key.Key.{Key}
use Rattle.repo_model.specs.declared.call.Call.{Call}
use Rattle.repo_model.specs.declared.entry.Entry.{Entry}
use Rattle.repo_model.specs.declared.reply.Refusal.{Refusal}
use Rattle.repo_model.specs.declared.reply.Refusal.TheVariants as refusal
use Rattle.repo_model.specs.declared.reply.Reply.{Reply}
use Rattle.repo_model.specs.declared.reply.Reply.TheVariants as reply
use Rattle.repo_model.specs.State.{State}
use Rattle.repo_model.specs.Outcome.{answered}
use Rattle.repo_model.specs.Step.{outcome}
use Rattle.http_heads.specs.declared.framing.Framing.TheVariants as framings
use Rattle.http_heads.specs.declared.head.Head.{Head}
use Rattle.http_heads.specs.declared.head_err.HeadErr.{HeadErr}
use Rattle.http_heads.specs.declared.method.Method.{Method}
use Rattle.http_heads.specs.declared.method.Method.TheVariants as methods
use Rattle.http_heads.specs.Response.{head_of, refused_with, why_head}
use Rattle.http_requests.specs.Requests.{Item, refused, whole, cut}
use Rattle.http_front.specs.declared.stop.Stop.{Stop}
use Rattle.http_front.specs.declared.stop.Stop.TheVariants as stops
use Rattle.http_front.specs.Entries.{begins}
use Rattle.http_front.specs.Contents.{Contents}
use Rattle.http_front.specs.Responses.{why_refused, why_stopped}
use Rattle.http_front.specs.Calls.{first_call, put_call}
use Rattle.http_front.specs.Turns.{Setting, Turn, IsTurn, is_upload, AreTurns, turn_answer, turns_said}

-- the head of a request that doesn't close, with a content of 3 bytes
abbrev pub asking : Method → Key → List ℕ → Head
asking method key content_type =
    record { method = method; key = key; framing = framings.Length 3; content_type = content_type; expects = false; closes = false }

abbrev pub entered : Setting → Call → Reply → Entry
entered setting c said = record { caller = setting.caller; call = c; reply = said }

-- a turn that nothing stopped
abbrev pub turn_of : Item → List Entry → Turn
turn_of request entries = record { request = request; stop = None; entries = entries }

-- the turn leads from state to state with the first moment and the first entry, and is answered so
abbrev pub IsAlone : Setting → State → Contents → Turn → State → List ℕ → Bool → Type 0
IsAlone setting state contents turn new bytes ends =
    IsTurn setting 0 0 state contents turn new × (turn_answer contents turn ≡ record { bytes = bytes; ends = ends })

-- a PUT, and a GET that finds its content: three entries
abbrev pub PutThenGet : Type 0
PutThenGet =
    (setting : Setting) (key : Key) (content_type content store : List ℕ) (stored found : Asset) (state begun put got : State) →
    let sent = asking methods.Put key content_type in
    let asked = asking methods.Get key content_type in
    let begin = first_call (setting.draws 0) sent methods.Put in
    let puts = put_call setting.digest (setting.draws 0) sent content in
    let get = first_call (setting.draws 1) asked methods.Get in
    let first = turn_of (whole sent content) (entered setting begin (reply.Begun store) ∷ entered setting puts (reply.Stored stored) ∷ []) in
    let second = turn_of (whole asked []) (entered setting get (reply.Found found) ∷ []) in
    3 ≤ setting.room → found.blob ≡ stored.blob
    → outcome setting.config state [] begin ≡ answered begun (reply.Begun store)
    → outcome setting.config begun store puts ≡ answered put (reply.Stored stored)
    → outcome setting.config put [] get ≡ answered got (reply.Found found)
    → AreTurns setting 0 0 state [] (first ∷ second ∷ []) got ((stored.blob, content) ∷ [])
    × (turns_said [] (first ∷ second ∷ []) ≡ head_of 201 None (Some 0) false ++ (head_of 200 (Some found.content_type) (Some found.size) false ++ content))

-- a PUT whose beginning is refused: its content isn't read, so the session ends
abbrev pub RefusedPut : Type 0
RefusedPut =
    (setting : Setting) (key : Key) (content_type content : List ℕ) (why : Refusal) (state : State) (contents : Contents) →
    let sent = asking methods.Put key content_type in
    let begin = first_call (setting.draws 0) sent methods.Put in
    1 ≤ setting.room → outcome setting.config state [] begin ≡ answered state (reply.Refused why)
    → IsAlone setting state contents (turn_of (whole sent content) (entered setting begin (reply.Refused why) ∷ [])) state (refused_with false true (why_refused why)) true

-- a PUT in a journal of one entry: its beginning takes it, and its content finds the journal full. The session goes on.
abbrev pub FullPut : Type 0
FullPut =
    (setting : Setting) (key : Key) (content_type content store : List ℕ) (state begun : State) (contents : Contents) →
    let sent = asking methods.Put key content_type in
    let begin = first_call (setting.draws 0) sent methods.Put in
    setting.room ≡ 1 → outcome setting.config state [] begin ≡ answered begun (reply.Begun store)
    → IsAlone setting state contents (turn_of (whole sent content) (entered setting begin (reply.Begun store) ∷ [])) begun (refused_with false false (why_refused refusal.JournalFull)) false

-- a refused head makes no entry
abbrev pub RefusedHead : Type 0
RefusedHead =
    (setting : Setting) (why : HeadErr) (bare : Bool) (state : State) (contents : Contents)
    → IsAlone setting state contents (turn_of (refused why bare) []) state (refused_with bare true (why_head why)) true

-- a PUT whose content is cut stays begun, and nothing is said to it. It's the end of the input that ends the session.
abbrev pub CutPut : Type 0
CutPut =
    (setting : Setting) (key : Key) (content_type content store : List ℕ) (state begun : State) (contents : Contents) →
    let sent = asking methods.Put key content_type in
    let begin = first_call (setting.draws 0) sent methods.Put in
    1 ≤ setting.room → outcome setting.config state [] begin ≡ answered begun (reply.Begun store)
    → IsAlone setting state contents (turn_of (cut sent content) (entered setting begin (reply.Begun store) ∷ [])) begun [] false

-- a PUT that a disk stops behind its beginning: the stop is the answer, however its content comes
abbrev pub StoppedPut : Type 0
StoppedPut =
    (setting : Setting) (key : Key) (content_type content store : List ℕ) (state begun : State) (contents : Contents) →
    let sent = asking methods.Put key content_type in
    let begin = first_call (setting.draws 0) sent methods.Put in
    let turn : Turn = record { request = whole sent content; stop = Some stops.DiskFault; entries = entered setting begin (reply.Begun store) ∷ [] } in
    1 ≤ setting.room → outcome setting.config state [] begin ≡ answered begun (reply.Begun store)
    → IsAlone setting state contents turn begun (refused_with false true (why_stopped stops.DiskFault)) true

-- no request but an upload is stopped: where a content was deleted, or looked at, the reply is the answer
abbrev pub OnlyUploadsStop : Type 0
OnlyUploadsStop =
    (setting : Setting) (n number : ℕ) (state new : State) (contents : Contents) (turn : Turn) (stop : Stop)
    → is_upload turn.request ≡ false → turn.stop ≡ Some stop → IsTurn setting n number state contents turn new → ⊥

-- nor is an upload whose beginning was refused, or whose content was put
abbrev pub OnlyOpenUploadsStop : Type 0
OnlyOpenUploadsStop =
    (setting : Setting) (n number : ℕ) (state new : State) (contents : Contents) (turn : Turn) (stop : Stop) (first : Entry) (entries : List Entry)
    → turn.entries ≡ first ∷ entries → turn.stop ≡ Some stop → IsTurn setting n number state contents turn new → (begins first ≡ true) × (entries ≡ [])

pub record TurnRowsHold : Type 0 where
  pub put_then_get : PutThenGet
  pub refused_put : RefusedPut
  pub full_put : FullPut
  pub refused_head : RefusedHead
  pub cut_put : CutPut
  pub stopped_put : StoppedPut
  pub only_uploads_stop : OnlyUploadsStop
  pub only_open_uploads_stop : OnlyOpenUploadsStop
