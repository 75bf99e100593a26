-- The requests of a history.
use Rattle.std.specs.Prelude.{◌≡◌, ℕ, IsTrue, Bool, ◌||◌, if◌then◌else◌, List, [], ◌∷◌, ◌++◌, map}
use Rattle.http_heads.specs.declared.head.Head.{Head}
use Rattle.http_front.specs.Asking.{is_empty}
use Rattle.http_requests.specs.Requests as requests
use Rattle.http_requests.specs.Requests.{Item, AreRequests, merged}
use Rattle.session_history.specs.Marks.{Mark, refused, content, spoiled, replied, failed}
use Rattle.http_front.specs.Entries.{is_begun}
use Rattle.session_history.specs.Phases.{Phase, between, asked, beginning, inside, putting, after, after_all}
use Rattle.session_history.specs.Histories.{Spans, IsHistory}

-- the request of a head behind which no content is read, where it has none
abbrev pub alone : Head → Bool → List Item
alone head empty = if empty then requests.whole head [] ∷ [] else []

-- The request that ends at a mark: with its content, or, where none follows its head, with the answer to it. Of an upload that isn't
-- begun no content is read.
abbrev pub ended_at : Phase → Mark → List Item
ended_at between (refused why bare) = requests.refused why bare ∷ []
ended_at (asked head) (replied r) = requests.whole head [] ∷ []
ended_at (asked head) (failed why) = requests.whole head [] ∷ []
ended_at (beginning head) (replied r) = if is_begun r then [] else alone head (is_empty head.framing)
ended_at (beginning head) (failed why) = alone head (is_empty head.framing)
ended_at (inside head) (content bytes) = requests.whole head bytes ∷ []
ended_at (inside head) (spoiled bytes why) = requests.stopped head bytes why ∷ []
ended_at phase mark = []

-- the request in whose content the bytes end
abbrev pub open_in : Phase → List ℕ → List Item
open_in (inside head) came = requests.cut head came ∷ []
open_in phase came = []

-- the requests of marks, of whose last content so much came
abbrev pub requests_in : Phase → List Mark → List ℕ → List Item
requests_in phase [] came = open_in phase came
requests_in phase (mark ∷ marks) came = ended_at phase mark ++ requests_in (after phase mark) marks came

-- The marks tell of all requests: no answer is due, and no answer ended the session before the bytes do. A request that closes, a head
-- and a content that are refused end the bytes' requests. Where the beginning of an upload is refused, its content has to be empty.
abbrev pub TellsAll : Phase → List Mark → Type 0
TellsAll between [] = Unit {0}
TellsAll (inside head) [] = Unit {0}
TellsAll phase [] = ⊥
TellsAll between (refused why bare ∷ marks) = Unit {0}
TellsAll (inside head) (spoiled bytes why ∷ marks) = Unit {0}
TellsAll (asked head) (replied r ∷ []) = Unit {0}
TellsAll (beginning head) (replied r ∷ []) = IsTrue (is_begun r || is_empty head.framing)
TellsAll (putting head) (replied r ∷ []) = Unit {0}
TellsAll phase (mark ∷ marks) = TellsAll (after phase mark) marks

-- the first of the items are these, up to the choice between the two causes of a head that is none
abbrev pub BeginsWith : List Item → List Item → Type 0
BeginsWith items prefix = (more : List Item) × (map merged items ≡ map merged (prefix ++ more))

-- the requests that bytes hold begin with those of each of their histories, whatever the answers
abbrev pub FirstRequests : Type 0
FirstRequests =
    (bytes : List ℕ) (marks : List Mark) (came : List ℕ) → IsHistory bytes marks came
    → (items : List Item) (ends_inside : Bool) → AreRequests bytes items ends_inside → BeginsWith items (requests_in between marks came)

-- a history that tells of all requests has just the requests of the bytes
abbrev pub RequestsOfHistory : Type 0
RequestsOfHistory =
    (bytes : List ℕ) (marks : List Mark) (came : List ℕ) → IsHistory bytes marks came → TellsAll between marks
    → (ends_inside : Bool) × AreRequests bytes (requests_in between marks came) ends_inside

-- Where the session stands between requests behind marks, their text and what follows it have the requests of the marks and then those
-- of what follows.
abbrev pub RequestsGoOn : Type 0
RequestsGoOn =
    (marks : List Mark) (text : List ℕ) → Spans between marks text → after_all between marks ≡ between
    → (more : List ℕ) (items : List Item) (ends_inside : Bool) → AreRequests more items ends_inside
    → AreRequests (text ++ more) (requests_in between marks [] ++ items) ends_inside
