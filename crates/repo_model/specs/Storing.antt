-- How a content becomes the content of its key.
use Rattle.std.specs.Prelude.{ℕ, Bool, if◌then◌else◌, nat_le, List, None, Result, Ok, Err}
use Rattle.std.specs.FinMap as map
use Rattle.std.specs.FinSet as set
use Rattle.nx_base.specs.Given.{given}
use Rattle.nx_base.specs.Ids.{id_made}
use Rattle.nx_base.specs.declared.key.Key.{Key}
use Rattle.nx_base.specs.declared.asset.Asset.{Asset}
use Rattle.nx_base.specs.declared.blob_ref.BlobRef.{BlobRef}
use Rattle.nx_base.specs.declared.moment.Moment.{Moment}
use Rattle.repo_model.specs.declared.reply.Refusal.{Refusal}
use Rattle.repo_model.specs.declared.reply.Refusal.TheVariants as refusal
use Rattle.repo_model.specs.declared.upload.Upload.{Upload}
use Rattle.repo_model.specs.Spots.{spot_of}
use Rattle.repo_model.specs.Timestamps.{greatest_time, time_of, next_timestamp}
use Rattle.repo_model.specs.State.{State, row_of}
use Rattle.repo_model.specs.Deleting.{discarded}

-- a new asset, and the state that has it
pub record Stored : Type 0 where
  pub asset : Asset
  pub new : State

-- whether a properties file stands where that of the blob would
abbrev pub is_taken : State → BlobRef → Bool
is_taken state blob = set.contains state.taken (spot_of blob)

abbrev pub new_asset : Upload → BlobRef → ℕ → Asset
new_asset upload blob verified =
    record { blob = blob; size = upload.size; sha1 = upload.sha1; content_type = upload.content_type; verified = verified; downloaded = None }

-- the state in which the key has the new asset, and the blob that it had is deleted at that time
abbrev pub with_asset : State → Key → Asset → ℕ → State
with_asset state key asset at =
    record state {
      rows = map.insert state.rows key asset;
      trash = given (row_of state key) state.trash (λ old. discarded state.trash key old at);
      last = asset.blob.timestamp;
      taken = set.insert state.taken (spot_of asset.blob);
    }

-- the content is stored as that blob, unless its name is taken
abbrev pub stored_as : State → Upload → ℕ → BlobRef → ℕ → Result Stored Refusal
stored_as state upload now blob verified =
    if is_taken state blob then Err (refusal.IdTaken blob.id)
    else let asset = new_asset upload blob verified in Ok (record { asset = asset; new = with_asset state upload.key asset (time_of now) })

-- the content is stored in that store under the next timestamp. What a remote has is verified now, and what was put, at its timestamp.
abbrev pub stored : State → List ℕ → Upload → Moment → Bool → Result Stored Refusal
stored state store upload moment is_fetched =
    if nat_le greatest_time state.last then Err refusal.StampsUsed
    else let timestamp = next_timestamp state.last moment.now in
    stored_as state upload moment.now (record { store = store; id = id_made timestamp moment.random; timestamp = timestamp })
    (if is_fetched then time_of moment.now else timestamp)
