-- The notes of what remotes lack: at most 10,000.
use Rattle.std.specs.Prelude.{ℕ, if◌then◌else◌, nat_lt, nat_le, List, [], ◌∷◌, fold, Option, Some, None}
use Rattle.std.specs.Option.{option_map}
use Rattle.std.specs.FinMap as map
use Rattle.nx_base.specs.Given.{given}
use Rattle.nx_base.specs.Order.{key_cmp}
use Rattle.nx_base.specs.declared.key.Key.{Key}
use Rattle.repo_model.specs.State.{State}

-- when the remote of a proxy last said that it has nothing of a key
abbrev pub Notes : Type 0
Notes = map.FinMap key_cmp ℕ

abbrev pub notes_limit : ℕ
notes_limit = 10000

-- of two notes, in the order of their keys, the older. Of notes of one age it is the one with the lesser key.
abbrev pub older_note : Key × ℕ → Key × ℕ → Key × ℕ
older_note a b = if nat_lt b.1 a.1 then b else a

-- the oldest of the notes
abbrev pub oldest : List (Key × ℕ) → Option (Key × ℕ)
oldest [] = None
oldest (note ∷ rest) = Some (fold older_note note rest)

abbrev pub oldest_key : Notes → Option Key
oldest_key notes = option_map (λ note. note.0) (oldest (map.entries notes))

-- of more notes than the limit the one with the least moment, and then the least key, goes
abbrev pub trimmed : Notes → Notes
trimmed notes = if nat_le (map.len notes) notes_limit then notes else given (oldest_key notes) notes (λ key. map.remove notes key)

-- the remote has nothing of the key
abbrev pub noted : State → Key → ℕ → State
noted state key now = record state { notes = trimmed (map.insert state.notes key now) }
