-- What stands ready before a content becomes that of its key.
use Rattle.std.specs.Prelude.{◌≡◌, ◌⊎◌, ℕ, ◌<◌, ◌≤◌, ◌^◌, List, [], Option, Some, None, IsSome, Result, Ok, Err, codes, length, true, false}
use Rattle.nx_base.specs.declared.asset.Asset.{Asset}
use Rattle.nx_base.specs.declared.blob_ref.BlobRef.{BlobRef}
use Rattle.nx_base.specs.declared.key.Key.{Key}
use Rattle.nx_base.specs.declared.moment.Moment.{Moment}
use Rattle.nx_base.specs.declared.policy.Policy.TheVariants.{NoRedeploy}
use Rattle.nx_base.specs.Ids.{id_made}
use Rattle.repo_model.specs.declared.upload.Upload.{Upload}
use Rattle.repo_model.specs.declared.call.Call.{Call}
use Rattle.repo_model.specs.declared.call.Call.TheVariants as call
use Rattle.repo_model.specs.declared.reply.Reply.TheVariants as reply
use Rattle.repo_model.specs.declared.reply.Fault.TheVariants as fault
use Rattle.repo_model.specs.Config.{Config, Repo, repo_of, takes}
use Rattle.repo_model.specs.State.{State, row_of}
use Rattle.repo_model.specs.Timestamps.{greatest_time, next_timestamp, time_of}
use Rattle.repo_model.specs.Writing.{keeps_row}
use Rattle.repo_model.specs.Deleting.{discarded}
use Rattle.repo_model.specs.Storing.{new_asset, with_asset}
use Rattle.repo_model.specs.Outcome.{answered}
use Rattle.repo_model.specs.Step.{outcome}
use Rattle.sha1.specs.Sha1.{sha1}
use Rattle.disk_model.specs.Disk.{Tree}
use Rattle.disk_model.specs.declared.disk_err.DiskErr.{DiskErr}
use Rattle.asset_keeper.specs.declared.keep_err.KeepErr.{KeepErr}
use Rattle.asset_keeper.specs.declared.change.Change.TheVariants as change
use Rattle.blob_paths.specs.Places.{place_of}
use Rattle.blob_properties.specs.Props.{Props}
use Rattle.blob_properties.specs.Readable.{Readable}
use Rattle.tree_content.specs.Blobs.{IsRef, props_name}
use Rattle.repo_core.specs.declared.marking.Mark.{Mark}
use Rattle.repo_core.specs.declared.staging.NewBlob.{NewBlob}
use Rattle.repo_core.specs.declared.staging.Staged.{Staged}
use Rattle.repo_core.specs.declared.putting.Kept.{Kept}
use Rattle.repo_model.specs.declared.reply.Refusal.{Refusal}
use Rattle.blob_files.specs.declared.ready.Ready.{Ready}
use Rattle.repo_core.specs.declared.denial.Denial.{Denial}
use Rattle.repo_core.specs.declared.denial.Denial.TheVariants as denial
use Rattle.repo_core.specs.declared.own.Own.{Own}
use Rattle.repo_core.specs.Faults.{of_disk, of_keeper}
use Rattle.repo_core.specs.Ends.{DeniesAt}
use Rattle.repo_core.specs.Marks.{Stages}

-- what the properties of a new blob say
abbrev pub props_of : Upload → ℕ → Props
props_of upload timestamp =
    record { key = upload.key; content_type = upload.content_type; size = upload.size; sha1 = upload.sha1; timestamp = timestamp; deleted = None; others = [] }

-- the blob of an upload into a store, made at that moment after the last timestamp
abbrev pub next_ref : List ℕ → ℕ → Moment → BlobRef
next_ref store last moment =
    let timestamp = next_timestamp last moment.now in
    record { store = store; id = id_made timestamp moment.random; timestamp = timestamp }

-- The names are the blob's, the text says its properties, and the change sets the row of its asset.
pub record IsNewBlob (upload : Upload) (blob : BlobRef) (made : NewBlob) : Type 0 where
  pub ref : IsRef blob
  pub place_is : made.files.place ≡ place_of blob
  pub says : Readable made.text.items (props_of upload blob.timestamp)
  pub asset_is : made.asset ≡ new_asset upload blob blob.timestamp
  pub change_is : made.change ≡ change.Set (record { key = upload.key; asset = new_asset upload blob blob.timestamp })

-- the names are those of the asset's blob
pub record IsPlaced (made : NewBlob) : Type 0 where
  pub ref : IsRef made.asset.blob
  pub place_is : made.files.place ≡ place_of made.asset.blob

-- the mark of the blob that the key had, if it had one
abbrev pub StagesOld : {S : Type 0} → (S → List ℕ) → Tree → ℕ → Option Asset → Option (Mark S) → Type 0
StagesOld content tree at None mark = mark ≡ None
StagesOld content tree at (Some old) mark = Stages content tree old.blob (codes "Replaced") at mark

-- the row that a content replaces, if there is one, or why it may not be put
abbrev pub MayReplace : Repo → State → Key → Result (Option Asset) Denial → Type 0
MayReplace repo s key (Ok old) = (row_of s key ≡ old) × (keeps_row repo s key ≡ false)
MayReplace repo s key (Err why) =
    ((why ≡ denial.WriteDenied NoRedeploy) × (keeps_row repo s key ≡ true)) ⊎ ((refusal : KeepErr) × (why ≡ denial.Failed (of_keeper refusal)))

-- the next blob, or there is no timestamp or no memory for it
abbrev pub IsNext : List ℕ → ℕ → Moment → Result BlobRef Denial → Type 0
IsNext store last moment (Ok blob) = (blob ≡ next_ref store last moment) × (last < greatest_time) × (blob.timestamp < 2 ^ 48)
IsNext store last moment (Err why) = ((why ≡ denial.StampsUsed) × (greatest_time ≤ last)) ⊎ (why ≡ denial.Failed fault.Memory)

-- what the core keeps, with the blob of the old row in the trash, if there is one whose mark is staged
abbrev pub with_old : {S : Type 0} → Own → Key → ℕ → Option Asset → Option (Mark S) → Own
with_old own key at None mark = own
with_old own key at (Some old) None = own
with_old own key at (Some old) (Some mark) = record own { trash = discarded own.trash key old at }

-- why a new blob isn't staged: its id is taken, or the disk or the memory failed
abbrev pub NotPut : Type 0 → Tree → BlobRef → Denial → Type 0
NotPut told tree blob why =
    ((why ≡ denial.IdTaken blob.id) × (told → IsSome (tree (props_name blob)))) ⊎ ((refusal : DiskErr) × (why ≡ denial.Failed (of_disk refusal)))

-- the call that puts an upload
abbrev pub put_for : Upload → Moment → Call
put_for upload moment = call.Put upload.key upload.content_type upload.size upload.sha1 moment

-- the size and the digest of these bytes are those of the upload
pub record AreBytes (upload : Upload) (bytes : List ℕ) : Type 0 where
  pub sized : length bytes ≡ upload.size
  pub digested : sha1 bytes ≡ upload.sha1

-- the key's repository is declared, and may write to that store
pub record MayGo (config : Config) (key : Key) (store : List ℕ) : Type 0 where
  pub repo : Repo
  pub declared : repo_of config key.repo ≡ Some repo
  pub takes_it : takes config repo store ≡ true

-- Everything stands ready by which the step of the call is done: the new blob, under names that are free, and the mark of the old one.
pub record IsPrepared {S : Type 0} (content : S → List ℕ) (config : Config) (tree : Tree) (s : State) (store : List ℕ) (upload : Upload) (moment : Moment) (own kept : Own) (staged : Staged S) : Type 0 where
  pub old : Option Asset
  pub row : row_of s upload.key ≡ old
  pub new : IsNewBlob upload (next_ref store s.last moment) staged.new
  pub step : outcome config s store (put_for upload moment)
      ≡ answered (with_asset s upload.key (new_asset upload (next_ref store s.last moment) (next_timestamp s.last moment.now)) (time_of moment.now))
      (reply.Stored (new_asset upload (next_ref store s.last moment) (next_timestamp s.last moment.now)))
  pub free : tree (props_name (next_ref store s.last moment)) ≡ None
  pub mark : StagesOld content tree (time_of moment.now) old staged.mark
  pub trash : kept ≡ with_old own upload.key (time_of moment.now) old staged.mark

-- ready so, or why not
abbrev pub Prepares : {S : Type 0} → (S → List ℕ) → Config → Tree → State → List ℕ → Upload → Moment → Own → Own → Result (Staged S) Denial → Type 0
Prepares content config tree s store upload moment own kept (Ok staged) = IsPrepared content config tree s store upload moment own kept staged
Prepares content config tree s store upload moment own kept (Err why) = DeniesAt config s store (put_for upload moment) why

-- the asset that a put answers
abbrev pub asset_of : Result Kept Refusal → Result Asset Refusal
asset_of (Ok kept) = Ok kept.asset
asset_of (Err why) = Err why

-- the upload that is ready
abbrev pub upload_of : {S : Type 0} → Ready S → Upload
upload_of ready = record { key = ready.begin.key; content_type = ready.begin.content_type; size = ready.size; sha1 = ready.sha1 }
