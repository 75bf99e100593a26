-- How a key's content is deleted: its row goes, and its blob waits in the trash.
use Rattle.std.specs.Prelude.{ℕ, Option}
use Rattle.std.specs.FinMap as map
use Rattle.nx_base.specs.Order.{age_cmp}
use Rattle.nx_base.specs.declared.key.Key.{Key}
use Rattle.nx_base.specs.declared.asset.Asset.{Asset}
use Rattle.repo_model.specs.declared.deletion.Deletion.{Deletion}
use Rattle.repo_model.specs.declared.reply.Reply.TheVariants as reply
use Rattle.repo_model.specs.Outcome.{Outcome, answered}
use Rattle.repo_model.specs.Timestamps.{time_of}
use Rattle.repo_model.specs.State.{State}

-- the trash with the blob of that asset of the key, deleted at that time
abbrev pub discarded : map.FinMap age_cmp Deletion → Key → Asset → ℕ → map.FinMap age_cmp Deletion
discarded trash key asset at = map.insert trash asset.blob (record { at = at; key = key })

-- the row goes, and its blob is deleted
abbrev pub without_row : State → Key → Asset → ℕ → State
without_row state key asset at = record state { rows = map.remove state.rows key; trash = discarded state.trash key asset at }

abbrev pub gone : State → Key → ℕ → Asset → Option Outcome
gone state key now asset = answered (without_row state key asset (time_of now)) reply.Gone
