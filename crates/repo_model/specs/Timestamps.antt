-- Times and timestamps. Both are below 2 ^ 48, and timestamps rise.
use Rattle.std.specs.Prelude.{ℕ, ◌+◌, ◌-◌, ◌^◌, min, max}

-- the greatest timestamp, and the greatest time
abbrev pub greatest_time : ℕ
greatest_time = 2 ^ 48 - 1

-- a moment as the step takes it: a later one than the greatest time is taken as that time
abbrev pub time_of : ℕ → ℕ
time_of now = min now greatest_time

-- the timestamp of a blob that is made now, after the last timestamp
abbrev pub next_timestamp : ℕ → ℕ → ℕ
next_timestamp last now = max (time_of now) (last + 1)
