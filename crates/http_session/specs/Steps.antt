-- What a step of a session says.
use Rattle.std.specs.Prelude.{◌≡◌, ℕ, ◌<◌, ◌≤◌, ◌⊎◌, Bool, true, false, if◌then◌else◌, List, [], length, Some}
use Rattle.http_front.specs.declared.end.End.TheVariants as ends
use Rattle.http_heads.specs.declared.head_err.HeadErr.{HeadErr}
use Rattle.http_requests.specs.Requests.{AreRequests}
use Rattle.session_history.specs.declared.ask.Ask.{Ask}
use Rattle.session_history.specs.declared.ask.Ask.TheVariants as asks
use Rattle.session_history.specs.Marks.{Mark, refused, accepted, content, spoiled, replied, failed, broke}
use Rattle.session_history.specs.Phases.{between, over}
use Rattle.session_history.specs.Asking.{ask_at}
use Rattle.session_history.specs.Histories.{IsHistory}
use Rattle.http_session.specs.declared.step.Step.{Step}
use Rattle.http_session.specs.declared.step.Step.TheVariants as steps
use Rattle.http_session.specs.Views.{SessionView, waiting}
use Rattle.http_session.specs.Taken.{Past, phase_of, with_mark, Took, reads, is_inside}

-- a content that came whole, or is refused, is what was borrowed of it
abbrev pub IsBorrowed : Mark → List ℕ → Type 0
IsBorrowed (content bytes) came = bytes ≡ came
IsBorrowed (spoiled bytes why) came = bytes ≡ came
IsBorrowed (refused why bare) came = came ≡ []
IsBorrowed (accepted head) came = came ≡ []
IsBorrowed (replied r) came = came ≡ []
IsBorrowed (failed why) came = came ≡ []
IsBorrowed (broke why) came = Unit {0}

-- what was asked is asked at the mark that came
pub record AsksAt (fed : List ℕ) (past : Past) (new : SessionView) (ask : Ask) : Type 0 where
  pub mark : Mark
  pub asked : ask_at (phase_of past) mark ≡ Some ask
  pub borrowed : IsBorrowed mark past.came
  pub took : Took new fed (with_mark mark past)

-- Nothing is left to say or to take, and the fed bytes decide nothing more. Bytes come next.
pub record IsStill (fed : List ℕ) (past : Past) (new : SessionView) : Type 0 where
  pub took : Took new fed past
  pub history : IsHistory fed past.marks past.came
  pub reads : reads (phase_of past) ≡ true
  pub quiet : new.out ≡ []
  pub taken : new.borrowed ≡ []

-- there is something to say: at a head that is refused now, or as before
abbrev pub HasToSay : List ℕ → Past → SessionView → Type 0
HasToSay fed past new =
    (0 < length new.out)
    × (Took new fed past ⊎ ((why : HeadErr) × (bare : Bool) × (phase_of past ≡ between) × Took new fed (with_mark (refused why bare) past)))

-- what a step says of the session that was fed these bytes and had this past
abbrev pub Gives : List ℕ → Past → SessionView → Step → Type 0
-- there is room for more
Gives fed past new steps.Need = IsStill fed past new × (new.ended ≡ false) × (new.longer ≡ false) × (waiting new < 32768)
Gives fed past new (steps.Ask ask) = AsksAt fed past new ask
-- a content is handed on where nothing is left to say: behind `100 Continue`, where the request waits for that
Gives fed past new (steps.Body n) = Took new fed past × (is_inside (phase_of past) ≡ true) × (0 < n) × (n ≡ length new.borrowed) × (new.out ≡ [])
Gives fed past new steps.Say = HasToSay fed past new
-- the input ended between requests
Gives fed past new (steps.Done ends.Clean) = IsStill fed past new × (new.ended ≡ true) × (phase_of past ≡ between) × (new.held ≡ [])
-- the input ended inside a content, or inside a head
Gives fed past new (steps.Done ends.Cut) =
    IsStill fed past new × (new.ended ≡ true)
    × ((is_inside (phase_of past) ≡ true) ⊎ ((phase_of past ≡ between) × (0 < length new.held) × AreRequests new.held [] true))
Gives fed past new (steps.Done ends.Closed) = Took new fed past × (phase_of past ≡ over) × (new.out ≡ [])
Gives fed past new (steps.Done ends.InputTooLong) = IsStill fed past new × (new.longer ≡ true)
Gives fed past new (steps.Done ends.NoMemory) = Took new fed past × (phase_of past ≡ between)
Gives fed past new (steps.Done ends.ReadFault) = ⊥
Gives fed past new (steps.Done ends.WriteFault) = ⊥
Gives fed past new (steps.Done ends.DownloadFault) = ⊥

-- whether this is the first call of a request
abbrev pub is_first : Ask → Bool
is_first (asks.Begin begin) = true
is_first asks.Commit = false
is_first asks.Abort = false
is_first (asks.Look key look) = true
is_first (asks.Delete key) = true

-- whether a head is taken with the step
abbrev pub takes_head : Step → Bool
takes_head steps.Need = false
takes_head (steps.Ask ask) = is_first ask
takes_head (steps.Body n) = false
takes_head steps.Say = false
takes_head (steps.Done end) = false

-- A step takes bytes of those that wait, and none come. With a head some are taken.
pub record Progresses (old new : SessionView) (step : Step) : Type 0 where
  pub total : new.total ≡ old.total
  pub ended : new.ended ≡ old.ended
  pub longer : new.longer ≡ old.longer
  pub fewer : waiting new ≤ waiting old
  pub head : takes_head step ≡ true → waiting new < waiting old

-- where the bytes decide nothing: the input is too long, it hasn't ended, or it ended, inside a request or not
abbrev pub wait_step : Bool → Bool → Bool → Step
wait_step longer ended inside =
    if longer then steps.Done ends.InputTooLong
    else if ended then (if inside then steps.Done ends.Cut else steps.Done ends.Clean)
    else steps.Need
