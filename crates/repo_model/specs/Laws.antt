-- What each step keeps to, whatever the call, and each legal history.
use Rattle.std.specs.Prelude.{◌≡◌, ◌≢◌, ℕ, ◌<◌, ◌≤◌, List, [], ◌∷◌}
use Rattle.nx_base.specs.declared.asset.Asset.{Asset}
use Rattle.repo_model.specs.declared.entry.Entry.{Entry}
use Rattle.repo_model.specs.declared.reply.Refusal.{Refusal}
use Rattle.repo_model.specs.declared.reply.Refusal.TheVariants as refusal
use Rattle.repo_model.specs.declared.reply.Reply.{Reply}
use Rattle.repo_model.specs.declared.reply.Reply.TheVariants as reply
use Rattle.repo_model.specs.State.{State}
use Rattle.repo_model.specs.Outcome.{Outcome}

pub record IsLawful (state : State) (o : Outcome) : Type 0 where
  -- the last timestamp never falls
  pub rising : state.last ≤ o.new.last
  -- what is stored has a timestamp above all that were given
  pub newest : (asset : Asset) → o.reply ≡ reply.Stored asset → (state.last < asset.blob.timestamp) × (o.new.last ≡ asset.blob.timestamp)
  -- no step breaks the repository, or mends it
  pub unbroken : o.new.broken ≡ state.broken
  -- a refusal changes nothing but the notes
  pub refusals : (why : Refusal) → o.reply ≡ reply.Refused why → o.new ≡ record state { notes = o.new.notes }
  -- and no step says that the journal is full
  pub never_full : o.reply ≢ reply.Refused refusal.JournalFull

-- the timestamp of what the reply stored, if it stored anything, and those after it
abbrev pub with_timestamp : Reply → List ℕ → List ℕ
with_timestamp (reply.Begun store) timestamps = timestamps
with_timestamp (reply.Stored asset) timestamps = asset.blob.timestamp ∷ timestamps
with_timestamp (reply.Found asset) timestamps = timestamps
with_timestamp reply.Gone timestamps = timestamps
with_timestamp reply.Removed timestamps = timestamps
with_timestamp (reply.Reconciled kept) timestamps = timestamps
with_timestamp (reply.Refused why) timestamps = timestamps

-- the timestamps of what was put, in the order of the entries
abbrev pub timestamps_of : List Entry → List ℕ
timestamps_of [] = []
timestamps_of (entry ∷ entries) = with_timestamp entry.reply (timestamps_of entries)

-- each number is above the one before it, and the first above `last`
abbrev pub IsRising : ℕ → List ℕ → Type 0
IsRising last [] = Unit {0}
IsRising last (timestamp ∷ timestamps) = (last < timestamp) × IsRising timestamp timestamps

-- no entry says that the journal is full
abbrev pub NoneFull : List Entry → Type 0
NoneFull [] = Unit {0}
NoneFull (entry ∷ entries) = (entry.reply ≢ reply.Refused refusal.JournalFull) × NoneFull entries
