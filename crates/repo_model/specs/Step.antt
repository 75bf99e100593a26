-- What the repository answers to each call, and what it is afterwards. The first case whose condition holds applies.
use Rattle.std.specs.Prelude.{◌≡◌, ℕ, true, false, ◌&&◌, ◌||◌, not, if◌then◌else◌, List, Option, Some, None, Result, Ok, Err}
use Rattle.std.specs.FinMap as map
use Rattle.nx_base.specs.Given.{given}
use Rattle.nx_base.specs.Fills.{chosen}
use Rattle.nx_base.specs.Order.{same_name}
use Rattle.nx_base.specs.declared.key.Key.{Key}
use Rattle.nx_base.specs.declared.blob_ref.BlobRef.{BlobRef}
use Rattle.nx_base.specs.declared.moment.Moment.{Moment}
use Rattle.nx_base.specs.declared.policy.Policy.TheVariants.{NoRedeploy, ReadOnly}
use Rattle.repo_model.specs.declared.call.Begin.{Begin}
use Rattle.repo_model.specs.declared.call.Call.{Call}
use Rattle.repo_model.specs.declared.call.Call.TheVariants as call
use Rattle.repo_model.specs.declared.call.Look.{Look}
use Rattle.repo_model.specs.declared.call.RemoteSaid.{RemoteSaid}
use Rattle.repo_model.specs.declared.call.RemoteSaid.TheVariants as said
use Rattle.repo_model.specs.declared.reply.Refusal.{Refusal}
use Rattle.repo_model.specs.declared.reply.Refusal.TheVariants as refusal
use Rattle.repo_model.specs.declared.reply.Reply.{Reply}
use Rattle.repo_model.specs.declared.reply.Reply.TheVariants as reply
use Rattle.repo_model.specs.declared.upload.Upload.{Upload}
use Rattle.repo_model.specs.Config.{Repo, Config, repo_of, write_store, group_of, takes}
use Rattle.repo_model.specs.State.{State, row_of}
use Rattle.repo_model.specs.Outcome.{Outcome, answered, refused}
use Rattle.repo_model.specs.Timestamps.{time_of}
use Rattle.repo_model.specs.Writing.{is_put, bars_put, bars_delete, keeps_row, count_of, counted}
use Rattle.repo_model.specs.Storing.{Stored, stored}
use Rattle.repo_model.specs.Freshness.{fresh, is_settled}
use Rattle.repo_model.specs.Notes.{noted}
use Rattle.repo_model.specs.Serving.{served}
use Rattle.repo_model.specs.Deleting.{gone}
use Rattle.repo_model.specs.Cleaning.{first_match}
use Rattle.repo_model.specs.Removal.{may_go, without_blob}
use Rattle.repo_model.specs.Reconciling.{reconciled}

-- an upload that may go into that store
abbrev pub begun : Repo → State → Begin → List ℕ → Option Outcome
begun repo state begin store =
    if is_put begin.kind && keeps_row repo state begin.key then refused state (refusal.WriteDenied NoRedeploy)
    else answered (counted state (write_store repo)) (reply.Begun store)

abbrev pub on_begin : Config → State → Begin → Option Outcome
on_begin config state begin =
    given (repo_of config begin.key.repo) (refused state refusal.UnknownRepo) (λ repo.
    if is_put begin.kind && bars_put repo then refused state (refusal.WriteDenied ReadOnly)
    else given (chosen (group_of config repo) (count_of state (write_store repo))) (refused state refusal.NoWritable) (begun repo state begin))

abbrev pub put_reply : State → Result Stored Refusal → Option Outcome
put_reply state (Ok done) = answered done.new (reply.Stored done.asset)
put_reply state (Err why) = refused state why

-- only where the upload went into a store that the repository writes to
abbrev pub on_put : Config → State → List ℕ → Upload → Moment → Option Outcome
on_put config state store upload moment =
    given (repo_of config upload.key.repo) None (λ repo.
    if not (takes config repo store) then None
    else if keeps_row repo state upload.key then refused state (refusal.WriteDenied NoRedeploy)
    else put_reply state (stored state store upload moment false))

-- a look for which no remote was asked, only where it needn't be
abbrev pub unasked : Repo → State → Key → Look → ℕ → Option Outcome
unasked repo state key l now =
    given (row_of state key)
    (if is_settled repo state key (time_of now) then refused state refusal.NotFound else None)
    (λ asset. if is_settled repo state key (time_of now) || fresh asset.verified repo.max_age (time_of now) then served state key l now asset else None)

-- a look for which the remote's content was stored
abbrev pub fetched : State → Key → Look → ℕ → Result Stored Refusal → Option Outcome
fetched state key l now (Ok done) = served done.new key l now done.asset
fetched state key l now (Err why) = refused state why

abbrev pub on_get : Config → State → List ℕ → Key → Look → Moment → RemoteSaid → Option Outcome
on_get config state store key l moment said.NotAsked =
    given (repo_of config key.repo) (refused state refusal.UnknownRepo) (λ repo. unasked repo state key l moment.now)
on_get config state store key l moment (said.Found content_type size sha1) =
    given (repo_of config key.repo) None (λ repo.
    if not (takes config repo store) then None
    else fetched state key l moment.now (stored state store (record { key = key; content_type = content_type; size = size; sha1 = sha1 }) moment true))
on_get config state store key l moment said.Missing =
    given (repo_of config key.repo) (refused state refusal.UnknownRepo) (λ repo.
    given (row_of state key) (answered (noted state key (time_of moment.now)) (reply.Refused refusal.NotFound)) (served state key l moment.now))
on_get config state store key l moment said.Failed =
    given (repo_of config key.repo) (refused state refusal.UnknownRepo) (λ repo.
    given (row_of state key) (refused state refusal.RemoteFault) (served state key l moment.now))

abbrev pub on_delete : Config → State → Key → ℕ → Option Outcome
on_delete config state key now =
    given (repo_of config key.repo) (refused state refusal.UnknownRepo) (λ repo.
    if bars_delete repo then refused state (refusal.WriteDenied ReadOnly)
    else given (row_of state key) (refused state refusal.NotFound) (gone state key now))

-- only where that policy is the first to take the row
abbrev pub on_clean : Config → State → Key → List ℕ → ℕ → Option Outcome
on_clean config state key policy now =
    given (row_of state key) None (λ asset.
    given (first_match config key asset (time_of now)) None (λ first.
    if same_name first policy then gone state key now asset else None))

-- only where the blob was deleted and may be removed
abbrev pub on_remove : Config → State → BlobRef → ℕ → Option Outcome
on_remove config state blob now =
    given (map.get state.trash blob) None (λ deletion.
    if may_go config state blob deletion (time_of now) then answered (without_blob state blob) reply.Removed else None)

abbrev pub on_reconcile : State → Option Outcome
on_reconcile state = answered (reconciled state) (reply.Reconciled (map.len state.rows))

-- the outcome where nothing is broken
abbrev pub sound_outcome : Config → State → List ℕ → Call → Option Outcome
sound_outcome config state store (call.Begin begin) = on_begin config state begin
sound_outcome config state store (call.Put key content_type size sha1 moment) = on_put config state store (record { key = key; content_type = content_type; size = size; sha1 = sha1 }) moment
sound_outcome config state store (call.Get key l moment remote) = on_get config state store key l moment remote
sound_outcome config state store (call.Delete key now) = on_delete config state key now
sound_outcome config state store (call.Clean key policy now) = on_clean config state key policy now
sound_outcome config state store (call.Remove blob now) = on_remove config state blob now
sound_outcome config state store call.Reconcile = on_reconcile state

-- the one outcome of a call, or none where the repository doesn't answer it. The store is that of the upload which a Put or a Found ends.
unfoldable pub outcome : Config → State → List ℕ → Call → Option Outcome
outcome config state store c =
    given state.broken (sound_outcome config state store c) (λ cause. refused state (refusal.Broken cause))

-- from the state the call may be answered so
abbrev pub Step : Config → State → Call → Reply → State → Type 0
Step config state c said new = (store : List ℕ) × (outcome config state store c ≡ Some (record { reply = said; new = new }))
