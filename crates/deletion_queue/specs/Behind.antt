-- Which of some places comes next.
use Rattle.std.specs.Prelude.{◌≡◌, ◌≢◌, IsTrue, Option, Some, None}
use Rattle.std.specs.declared.cmp.Ordering.TheVariants.{Less}
use Rattle.std.specs.FinSet as set
use Rattle.deletion_queue.specs.declared.place.QueuePlace.{QueuePlace}
use Rattle.deletion_queue.specs.Order.{place_cmp}

-- a place is behind another, if there is one
abbrev pub IsBehind : Option QueuePlace → QueuePlace → Type 0
IsBehind None place = Unit {0}
IsBehind (Some other) place = place_cmp other place ≡ Less

-- the first of the places that are behind another; or none is
abbrev pub IsFirstBehind : set.FinSet place_cmp → Option QueuePlace → Option QueuePlace → Type 0
IsFirstBehind places other None = (place : QueuePlace) → IsTrue (set.contains places place) → ¬ IsBehind other place
IsFirstBehind places other (Some first) =
    IsTrue (set.contains places first) × IsBehind other first
    × ((place : QueuePlace) → IsTrue (set.contains places place) → IsBehind other place → place_cmp place first ≢ Less)
