-- What a session did with the bytes that it was fed.
use Rattle.std.specs.Prelude.{◌≡◌, ℕ, ◌^◌, Bool, true, false, List, [], ◌∷◌, ◌++◌, length}
use Rattle.http_front.specs.Asking.{is_head}
use Rattle.http_front.specs.Skips.{IsBlank}
use Rattle.session_history.specs.Marks.{Mark}
use Rattle.session_history.specs.Phases.{Phase, between, asked, beginning, inside, putting, over, after_all, said_in}
use Rattle.session_history.specs.Histories.{Spans}
use Rattle.http_session.specs.declared.body.Body.{Body}
use Rattle.http_session.specs.declared.place.Place.{Place}
use Rattle.http_session.specs.declared.place.Place.TheVariants as places
use Rattle.http_session.specs.Bodies.{IsReading}
use Rattle.http_session.specs.Views.{SessionView}

-- what happened: the marks, what was borrowed and taken of the content that is read, and what was said
pub record Past : Type 0 where
  pub marks : List Mark
  pub came : List ℕ
  pub said : List ℕ

-- nothing happened yet
abbrev pub no_past : Past
no_past = record { marks = []; came = []; said = [] }

abbrev pub phase_of : Past → Phase
phase_of past = after_all between past.marks

-- one mark more
abbrev pub with_mark : Mark → Past → Past
with_mark mark past = record { marks = past.marks ++ mark ∷ []; came = []; said = past.said }

-- In the phase the machine stands at the place. Behind the last mark it took this part: line ends, or a part of the content, which
-- holds so much.
abbrev pub StandsAt : Phase → Place → List ℕ → List ℕ → Type 0
StandsAt between place part came = (place ≡ places.Between) × IsBlank part × (came ≡ [])
StandsAt (asked head) place part came = (place ≡ places.Asked (is_head head.method) head.closes) × (part ≡ []) × (came ≡ [])
StandsAt (beginning head) place part came = (place ≡ places.Beginning head.framing head.expects head.closes) × (part ≡ []) × (came ≡ [])
StandsAt (inside head) place part came = (body : Body) × (place ≡ places.Inside body head.closes) × IsReading head.framing body part came
StandsAt (putting head) place part came = (place ≡ places.Putting head.closes) × (part ≡ []) × (came ≡ [])
StandsAt over place part came = (place ≡ places.Over) × (part ≡ []) × (came ≡ [])

-- Of the fed bytes the session took those of its marks and a part of what comes next; it lends some and holds the rest. What it said,
-- and what there is still to say, is what is said at the marks.
pub record Took (s : SessionView) (fed : List ℕ) (past : Past) : Type 0 where
  pub text : List ℕ
  pub part : List ℕ
  pub parts : fed ≡ text ++ (part ++ (s.borrowed ++ s.held))
  pub spans : Spans between past.marks text
  pub stands : StandsAt (phase_of past) s.place (part ++ s.borrowed) (past.came ++ s.borrowed)
  pub said : said_in between past.marks ≡ past.said ++ s.out
  pub count : s.total ≡ length fed
  pub longer : s.longer ≡ true → length fed ≡ 2 ^ 40

-- whether an answer comes next
abbrev pub awaits : Phase → Bool
awaits between = false
awaits (asked head) = true
awaits (beginning head) = true
awaits (inside head) = false
awaits (putting head) = true
awaits over = false

-- whether bytes come next
abbrev pub reads : Phase → Bool
reads between = true
reads (asked head) = false
reads (beginning head) = false
reads (inside head) = true
reads (putting head) = false
reads over = false

abbrev pub is_inside : Phase → Bool
is_inside between = false
is_inside (asked head) = false
is_inside (beginning head) = false
is_inside (inside head) = true
is_inside (putting head) = false
is_inside over = false
