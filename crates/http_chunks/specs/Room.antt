-- How far a body can be at each place. A chunk has at least one byte of content, at most 1,024 of size line and two behind its
-- content, so its framing and content have at most 1,027 bytes for each byte of content; behind the chunks come at most a
-- size line and the lines after it.
use Rattle.std.specs.Prelude.{ℕ, ◌+◌}
use Rattle.http_chunks.specs.declared.place.Place.{Place}
use Rattle.http_chunks.specs.declared.place.Place.TheVariants.{Line, Inside, After, Trailer, Done}

-- how much content was announced and hasn't come
abbrev pub left_at : Place → ℕ
left_at Line = 0
left_at (Inside left) = left
left_at After = 0
left_at (Trailer taken) = 0
left_at Done = 0

-- how many bytes of the chunk are still to come
abbrev pub owed_at : Place → ℕ
owed_at Line = 0
owed_at (Inside left) = left + 2
owed_at After = 2
owed_at (Trailer taken) = 0
owed_at Done = 0

-- the most bytes behind the chunks
abbrev pub spare_at : Place → ℕ
spare_at Line = 0
spare_at (Inside left) = 0
spare_at After = 0
spare_at (Trailer taken) = taken + 1024
spare_at Done = 17408

-- how many bytes of lines were taken behind the last size line
abbrev pub taken_at : Place → ℕ
taken_at Line = 0
taken_at (Inside left) = 0
taken_at After = 0
taken_at (Trailer taken) = taken
taken_at Done = 0

-- a chunk's content that is still to come isn't empty
abbrev pub ahead_at : Place → ℕ
ahead_at Line = 1
ahead_at (Inside left) = left
ahead_at After = 1
ahead_at (Trailer taken) = 1
ahead_at Done = 1
