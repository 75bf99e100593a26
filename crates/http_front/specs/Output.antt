-- The output of a run: the one-thread repository over a list of requests.
use Rattle.std.specs.Prelude.{ℕ, zero, suc, ◌+◌, Bool, true, false, if◌then◌else◌, nat_le, List, [], ◌∷◌, ◌++◌, length, None, unwrap_or}
use Rattle.nx_base.specs.Given.{given}
use Rattle.nx_base.specs.declared.moment.Moment.{Moment}
use Rattle.repo_model.specs.declared.call.Call.{Call}
use Rattle.repo_model.specs.declared.entry.Entry.{Entry}
use Rattle.repo_model.specs.declared.reply.Refusal.TheVariants as refusal
use Rattle.repo_model.specs.declared.reply.Reply.TheVariants as reply
use Rattle.repo_model.specs.Config.{Config}
use Rattle.repo_model.specs.State.{State}
use Rattle.repo_model.specs.Outcome.{Outcome}
use Rattle.repo_model.specs.Step.{outcome}
use Rattle.http_requests.specs.Requests.{Item}
use Rattle.http_front.specs.Contents.{Contents}
use Rattle.http_front.specs.Answers.{Answer}
use Rattle.http_front.specs.Calls.{next_call, store_in}
use Rattle.http_front.specs.Turns.{Setting, Turn, contents_after, turn_answer}

-- what the repository answers. Where it doesn't answer such a call, want of memory, which changes nothing.
abbrev pub done_by : Config → State → List ℕ → Call → Outcome
done_by config state store c = unwrap_or (outcome config state store c) (record { reply = reply.Refused refusal.NoMemory; new = state })

-- the entry of a call of that caller
abbrev pub entry_of : ℕ → Call → Outcome → Entry
entry_of caller c done = record { caller = caller; call = c; reply = done.reply }

-- the entries that one request made, and the state behind them
pub record Made : Type 0 where
  pub entries : List Entry
  pub new : State

-- an entry, and what was made behind it
abbrev pub with_entry : Entry → Made → Made
with_entry entry made = record { entries = entry ∷ made.entries; new = made.new }

-- at most so many of the calls of a request, behind the entries `done`, each answered, as long as the journal has room
abbrev pub made_in : ℕ → Setting → Moment → Item → List Entry → ℕ → State → Made
made_in zero setting moment request done number state = record { entries = []; new = state }
made_in (suc more) setting moment request done number state =
    let nothing : Made = record { entries = []; new = state } in
    if nat_le setting.room number then nothing
    else given (next_call setting.digest moment request None done) nothing (λ c.
    let answered = done_by setting.config state (store_in done) c in
    let entry = entry_of setting.caller c answered in
    with_entry entry (made_in more setting moment request (done ++ entry ∷ []) (number + 1) answered.new))

-- what a request made. No request makes more than two calls: the beginning of an upload, and what puts its content.
abbrev pub made_by : Setting → Moment → Item → ℕ → State → Made
made_by setting moment request number state = made_in 2 setting moment request [] number state

-- a run: its entries, its bytes, what stands after it, and whether it ended before its requests did
pub record Output : Type 0 where
  pub entries : List Entry
  pub bytes : List ℕ
  pub new : State
  pub contents : Contents
  pub ends : Bool

-- nothing more is said
abbrev pub at_end : Bool → State → Contents → Output
at_end ends state contents = record { entries = []; bytes = []; new = state; contents = contents; ends = ends }

-- entries and an answer, in front of the rest
abbrev pub in_front : List Entry → Answer → Output → Output
in_front entries answer rest =
    record { entries = entries ++ rest.entries; bytes = answer.bytes ++ rest.bytes; new = rest.new; contents = rest.contents; ends = rest.ends }

-- the requests in their order, up to the first whose answer ends the session. Before them n moments were drawn, and `number` entries
-- stand in the journal.
abbrev pub output_of : Setting → ℕ → ℕ → State → Contents → List Item → Output
output_of setting n number state contents [] = at_end false state contents
output_of setting n number state contents (request ∷ requests) =
    let made = made_by setting (setting.draws n) request number state in
    let turn : Turn = record { request = request; stop = None; entries = made.entries } in
    let answer = turn_answer contents turn in
    let new = contents_after turn contents in
    in_front made.entries answer
    (if answer.ends then at_end true made.new new
    else output_of setting (n + 1) (number + length made.entries) made.new new requests)
