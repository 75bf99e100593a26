-- What holds of the turns of a session.
use Rattle.std.specs.Prelude.{◌≡◌, ℕ, ◌+◌, Bool, true, false, List, [], ◌∷◌, ◌++◌, length, None}
use Rattle.repo_model.specs.declared.call.Call.{Call}
use Rattle.repo_model.specs.declared.call.Call.TheVariants as call
use Rattle.repo_model.specs.declared.call.RemoteSaid.TheVariants as remote
use Rattle.repo_model.specs.Config.{Config}
use Rattle.repo_model.specs.State.{State}
use Rattle.repo_model.specs.Step.{outcome}
use Rattle.repo_model.specs.History.{LegalFrom}
use Rattle.http_front.specs.Contents.{Contents}
use Rattle.http_requests.specs.Requests.{Item}
use Rattle.http_front.specs.Answers.{last_reply}
use Rattle.http_front.specs.Said.{said}
use Rattle.http_front.specs.Served.{Serves}
use Rattle.http_front.specs.Turns.{Setting, Turn, IsTurn, AreTurns, NoneEnds, contents_after, turn_answer, requests_of, entries_of, stops_of, turns_said}
use Rattle.http_front.specs.Sound.{AreSound}
use Rattle.http_front.specs.Output.{Output, made_by, output_of}

-- the entries of turns are a history of the repository
abbrev pub TurnsAreLegal : Type 0
TurnsAreLegal =
    (setting : Setting) (n number : ℕ) (state new : State) (contents contents' : Contents) (turns : List Turn)
    → AreTurns setting n number state contents turns new contents'
    → LegalFrom setting.config number state (entries_of turns) new

-- what is said in turns is what is said to their requests by all their entries and the contents at the end
abbrev pub TurnsAreSaid : Type 0
TurnsAreSaid =
    (setting : Setting) (n number : ℕ) (state new : State) (contents contents' : Contents) (turns : List Turn)
    → AreTurns setting n number state contents turns new contents'
    → said (requests_of turns) (entries_of turns) contents' (stops_of turns) ≡ turns_said contents turns

-- a run has these entries and bytes, and these state and contents stand behind it
pub record IsOutput (output : Output) (contents : Contents) (turns : List Turn) (new : State) (contents' : Contents) : Type 0 where
  pub entries : output.entries ≡ entries_of turns
  pub bytes : output.bytes ≡ turns_said contents turns
  pub new_is : output.new ≡ new
  pub contents_are : output.contents ≡ contents'

-- turns in which nothing failed are those of the one-thread repository
abbrev pub SoundTurnsAreOutput : Type 0
SoundTurnsAreOutput =
    (setting : Setting) (n number : ℕ) (state new : State) (contents contents' : Contents) (turns : List Turn)
    → AreTurns setting n number state contents turns new contents' → AreSound turns
    → IsOutput (output_of setting n number state contents (requests_of turns)) contents turns new contents'

-- at each request of a run the content that it gives out is there
abbrev pub AllServed : Setting → ℕ → ℕ → State → Contents → List Item → Type 0
AllServed setting n number state contents [] = Unit {0}
AllServed setting n number state contents (request ∷ requests) =
    let made = made_by setting (setting.draws n) request number state in
    let turn : Turn = record { request = request; stop = None; entries = made.entries } in
    let new = contents_after turn contents in
    Serves new (last_reply turn.entries)
    × ((turn_answer contents turn).ends ≡ false → AllServed setting (n + 1) (number + length made.entries) made.new new requests)

-- a run is that of turns of the first of the requests, and of all unless it ends before
pub record IsOfTurns (output : Output) (setting : Setting) (n number : ℕ) (state : State) (contents : Contents) (requests : List Item) : Type 0 where
  pub turns : List Turn
  pub rest : List Item
  pub parts : requests ≡ requests_of turns ++ rest
  pub all : output.ends ≡ false → rest ≡ []
  pub are : AreTurns setting n number state contents turns output.new output.contents
  pub is : IsOutput output contents turns output.new output.contents

-- what the one-thread repository makes of requests are turns: it answers as a repository may
abbrev pub OutputIsTurns : Type 0
OutputIsTurns =
    (setting : Setting) (n number : ℕ) (state : State) (contents : Contents) (requests : List Item)
    → AllServed setting n number state contents requests
    → IsOfTurns (output_of setting n number state contents requests) setting n number state contents requests

-- one more turn behind turns that don't end the session
abbrev pub TurnsGoOn : Type 0
TurnsGoOn =
    (setting : Setting) (n number : ℕ) (state mid new : State) (contents between : Contents) (turns : List Turn) (turn : Turn)
    → AreTurns setting n number state contents turns mid between → NoneEnds contents turns
    → IsTurn setting (n + length turns) (number + length (entries_of turns)) mid between turn new
    → AreTurns setting n number state contents (turns ++ turn ∷ []) new (contents_after turn between)

-- whether a call ends an upload, which is in a store
abbrev pub ends_upload : Call → Bool
ends_upload (call.Begin begin) = false
ends_upload (call.Put key content_type size sha1 moment) = true
ends_upload (call.Get key look moment remote.NotAsked) = false
ends_upload (call.Get key look moment (remote.Found content_type size sha1)) = true
ends_upload (call.Get key look moment remote.Missing) = false
ends_upload (call.Get key look moment remote.Failed) = false
ends_upload (call.Delete key now) = false
ends_upload (call.Clean key policy now) = false
ends_upload (call.Remove blob now) = false
ends_upload call.Reconcile = false

-- a call that ends no upload has one outcome, whatever the store
abbrev pub OneOutcome : Type 0
OneOutcome =
    (config : Config) (state : State) (c : Call) (store other : List ℕ) → ends_upload c ≡ false
    → outcome config state store c ≡ outcome config state other c
