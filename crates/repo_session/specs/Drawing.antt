-- The moments that a run draws.
use Rattle.std.specs.Prelude.{◌≡◌, ℕ, ◌+◌, ◌-◌, min, List, length, replicate, unwrap_or, slice_get}
use Rattle.nx_base.specs.declared.moment.Moment.{Moment}
use Rattle.repo_session.specs.declared.draws.Draws.{Draws}

-- the n-th moment. The last one repeats; without any it is 1970.
abbrev pub draw_of : List Moment → ℕ → Moment
draw_of moments n = unwrap_or (slice_get moments (min n (length moments - 1))) (record { now = 0; random = replicate 10 0 })

-- n moments were drawn
pub record HasDrawn (draws : Draws) (moments : List Moment) (n : ℕ) : Type 0 where
  pub all : draws.moments.items ≡ moments
  pub next : draws.next ≡ min n (length moments - 1)

-- that moment was drawn, the next one
abbrev pub Drew : Draws → Draws → Moment → Type 0
Drew old new moment = (moments : List Moment) (n : ℕ) → HasDrawn old moments n → (moment ≡ draw_of moments n) × HasDrawn new moments (n + 1)
