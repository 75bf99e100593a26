-- What contracts see of a session.
use Rattle.std.specs.Prelude.{◌≡◌, ◌<◌, ℕ, ◌+◌, ◌-◌, ◌^◌, min, Bool, true, false, ◌&&◌, ◌||◌, if◌then◌else◌, List, [], ◌∷◌, length}
use Rattle.http_heads.specs.declared.head.Head.{Head}
use Rattle.http_heads.specs.declared.method.Method.{Method}
use Rattle.http_heads.specs.declared.method.Method.TheVariants as methods
use Rattle.http_front.specs.Responses.{continue}
use Rattle.http_session.specs.declared.place.Place.{Place}
use Rattle.http_session.specs.declared.place.Place.TheVariants as places

-- the bytes that are borrowed, those that are held behind them, where it stands, what there is still to say, how many bytes were fed,
-- whether the input ended, and whether it is longer than a session reads
pub record SessionView : Type 0 where
  pub borrowed : List ℕ
  pub held : List ℕ
  pub place : Place
  pub out : List ℕ
  pub total : ℕ
  pub ended : Bool
  pub longer : Bool

-- how many bytes wait: those that are borrowed and those that are held
abbrev pub waiting : SessionView → ℕ
waiting s = length s.borrowed + length s.held

-- what is borrowed and held is as it was, and what is known of the input: only where it stands and what there is to say may differ
pub record KeepsInput (old new : SessionView) : Type 0 where
  pub borrowed : new.borrowed ≡ old.borrowed
  pub held : new.held ≡ old.held
  pub total : new.total ≡ old.total
  pub ended : new.ended ≡ old.ended
  pub longer : new.longer ≡ old.longer

-- as many bytes wait as did, borrowed or held, and what is known of the input is as it was
pub record KeepsCount (old new : SessionView) : Type 0 where
  pub waits : waiting new ≡ waiting old
  pub total : new.total ≡ old.total
  pub ended : new.ended ≡ old.ended
  pub longer : new.longer ≡ old.longer

-- how many bytes it can be fed
abbrev pub room_in : SessionView → ℕ
room_in s = min (32768 - (length s.borrowed + length s.held)) (2 ^ 40 - s.total)

-- whether it waits for an answer
abbrev pub awaits_at : Place → Bool
awaits_at places.Between = false
awaits_at (places.Asked bare closes) = true
awaits_at (places.Beginning framing expects closes) = true
awaits_at (places.Inside body closes) = false
awaits_at (places.Putting closes) = true
awaits_at places.Over = false

abbrev pub is_reading_at : Place → Bool
is_reading_at places.Between = false
is_reading_at (places.Asked bare closes) = false
is_reading_at (places.Beginning framing expects closes) = false
is_reading_at (places.Inside body closes) = true
is_reading_at (places.Putting closes) = false
is_reading_at places.Over = false

abbrev pub is_nil : List ℕ → Bool
is_nil [] = true
is_nil (b ∷ bytes) = false

-- whether it can be told of a failure: it waits for an answer, or reads a content and has nothing to say
abbrev pub takes_failure : SessionView → Bool
takes_failure s = awaits_at s.place || (is_reading_at s.place && is_nil s.out)

-- where it stands behind a head, by its method
abbrev pub place_of : Head → Method → Place
place_of head methods.Get = places.Asked false head.closes
place_of head methods.Head = places.Asked true head.closes
place_of head methods.Put = places.Beginning head.framing head.expects head.closes
place_of head methods.Delete = places.Asked false head.closes

-- where it stands behind an answer
abbrev pub place_behind : Bool → Place
place_behind ends = if ends then places.Over else places.Between

-- what is said to an upload that was begun
abbrev pub continue_if : Bool → List ℕ
continue_if expects = if expects then continue else []

-- whether it has ended
abbrev pub is_over_at : Place → Bool
is_over_at places.Between = false
is_over_at (places.Asked bare closes) = false
is_over_at (places.Beginning framing expects closes) = false
is_over_at (places.Inside body closes) = false
is_over_at (places.Putting closes) = false
is_over_at places.Over = true

-- whether bytes come next where it stands
abbrev pub reads_at : Place → Bool
reads_at places.Between = true
reads_at (places.Asked bare closes) = false
reads_at (places.Beginning framing expects closes) = false
reads_at (places.Inside body closes) = true
reads_at (places.Putting closes) = false
reads_at places.Over = false

-- It waits for bytes: no answer is due, it hasn't ended, nothing is left to say, no content is borrowed, and the input may go on. There is room.
pub record NeedsBytes (s : SessionView) : Type 0 where
  pub reads : reads_at s.place ≡ true
  pub quiet : s.out ≡ []
  pub taken : s.borrowed ≡ []
  pub going : s.ended ≡ false
  pub short : s.longer ≡ false
  pub room : waiting s < 32768
