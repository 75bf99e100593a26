-- What a put makes of what a core keeps itself.
use Rattle.std.proofs.Common.{◌≡◌, ◌⊎◌, inl, inr, ℕ, List, Option, Some, None, Result, Ok, Err, IfOk, OnOk, ◌∙◌, ap}
use Rattle.nx_base.specs.declared.asset.Asset.{Asset}
use Rattle.nx_base.specs.declared.blob_ref.BlobRef.{BlobRef}
use Rattle.nx_base.specs.declared.key.Key.{Key}
use Rattle.nx_base.specs.declared.moment.Moment.{Moment}
use Rattle.repo_model.specs.declared.upload.Upload.{Upload}
use Rattle.repo_model.specs.Deleting.{discarded}
use Rattle.repo_model.specs.Timestamps.{next_timestamp, time_of}
use Rattle.repo_core.specs.declared.denial.Denial.{Denial}
use Rattle.repo_core.specs.declared.marking.Mark.{Mark}
use Rattle.repo_core.specs.declared.own.Own.{Own}
use Rattle.repo_core.specs.declared.staging.Staged.{Staged}
use Rattle.repo_core.specs.Asks.{Discards}
use Rattle.repo_core.specs.Puts.{IsNewBlob, with_old, next_ref}

trashed : {S : Type 0} (own kept : Own) (key : Key) (moment : Moment) (at : ℕ) (old : Option Asset) (mark : Option (Mark S)) → at ≡ time_of moment.now → kept ≡ with_old own key at old mark
    → (kept ≡ own) ⊎ Discards key moment own kept
trashed own kept key moment at None mark time is = inl is
trashed own kept key moment at (Some old) None time is = inl is
trashed own kept key moment at (Some old) (Some mark) time is = inr (old, is ∙ ap (λ (t : ℕ). record own { trash = discarded own.trash key old t }) time)

-- the trash is as it was, or has the blob that the key had
pub put_trashed : {S : Type 0} (own kept : Own) (key : Key) (moment : Moment) (at : ℕ) (old : Option Asset) (done : Result (Staged S) Denial) → at ≡ time_of moment.now
    → IfOk done (λ staged. kept ≡ with_old own key at old staged.mark) → OnOk done ((kept ≡ own) ⊎ Discards key moment own kept)
put_trashed own kept key moment at old (Ok staged) time is = trashed own kept key moment at old staged.mark time is
put_trashed own kept key moment at old (Err why) time is = tt

-- the new blob has the next timestamp
pub put_timestamped : {S : Type 0} (store : List ℕ) (last : ℕ) (moment : Moment) (upload : Upload) (blob : BlobRef) (done : Result (Staged S) Denial) → blob ≡ next_ref store last moment
    → IfOk done (λ staged. IsNewBlob upload blob staged.new) → IfOk done (λ staged. staged.new.asset.blob.timestamp ≡ next_timestamp last moment.now)
put_timestamped store last moment upload blob (Ok staged) is new = ap (λ (x : Asset). x.blob.timestamp) new.asset_is ∙ ap (λ (b : BlobRef). b.timestamp) is
put_timestamped store last moment upload blob (Err why) is new = tt
