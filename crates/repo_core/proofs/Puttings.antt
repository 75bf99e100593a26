-- The step of a put, by what is found.
use Rattle.std.proofs.Common.{◌≡◌, ◌⊎◌, inl, inr, ⊎_elim, ◌≤◌, ◌<◌, ℕ, Bool, true, false, not, if◌then◌else◌, nat_le, IsSome, IfOk, IfErr, OnOk, List, Option, None, Result, Ok, Err, refl, sym, ◌∙◌, ap, subst, arith, is_some}
use Rattle.nx_base.specs.declared.moment.Moment.{Moment}
use Rattle.nx_base.specs.declared.blob_ref.BlobRef.{BlobRef}
use Rattle.nx_base.specs.declared.asset.Asset.{Asset}
use Rattle.nx_base.specs.declared.policy.Policy.TheVariants.{NoRedeploy}
use Rattle.repo_model.specs.declared.upload.Upload.{Upload}
use Rattle.repo_model.specs.declared.reply.Fault.TheVariants as fault
use Rattle.repo_model.specs.declared.reply.Refusal.TheVariants as refusal
use Rattle.repo_model.specs.declared.reply.Reply.TheVariants as reply
use Rattle.repo_model.specs.Config.{Config}
use Rattle.repo_model.specs.State.{State}
use Rattle.repo_model.specs.Outcome.{answered, refused}
use Rattle.repo_model.specs.Timestamps.{greatest_time, next_timestamp, time_of}
use Rattle.repo_model.specs.Writing.{keeps_row}
use Rattle.repo_model.specs.Storing.{stored, stored_as, is_taken, new_asset, with_asset}
use Rattle.repo_model.specs.Step.{outcome, on_put, put_reply}
use Rattle.disk_model.specs.Disk.{Tree}
use Rattle.disk_model.specs.declared.disk_err.DiskErr.{DiskErr}
use Rattle.tree_content.specs.Blobs.{IsRef, props_name}
use Rattle.repo_core.specs.declared.denial.Denial.{Denial}
use Rattle.repo_core.specs.declared.denial.Denial.TheVariants as denial
use Rattle.repo_core.specs.declared.own.Own.{Own}
use Rattle.repo_core.specs.declared.staging.Staged.{Staged}
use Rattle.repo_core.specs.Agree.{FilesAgree}
use Rattle.repo_core.specs.Faults.{of_disk, of_keeper}
use Rattle.repo_core.specs.Ends.{DeniesAt}
use Rattle.repo_core.specs.Puts.{put_for, next_ref, MayGo, MayReplace, IsNext, NotPut, IsNewBlob, StagesOld, with_old, Prepares}
use Rattle.repo_core.proofs.Maps.{two}
use Rattle.repo_core.proofs.Steps.{sound_is, denies_at, fault_denies_at}

pub none_is_some : {A : Type 0} (o : Option A) → o ≡ None → IsSome o → ⊥
none_is_some o is some = let e : is_some o ≡ false = ap (λ (x : Option _). is_some x) is in cc

at_least : (m n : ℕ) → m ≤ n → nat_le m n ≡ true
at_least m n le = grind (arith, le)

less : (m n : ℕ) → n < m → nat_le m n ≡ false
less m n lt = grind (arith, lt)

module _ (config : Config) (s : State) (store : List ℕ) (upload : Upload) (moment : Moment) (sound : s.broken ≡ None) (may : MayGo config upload.key store) where
  abbrev blob : BlobRef
  blob = next_ref store s.last moment

  asked : outcome config s store (put_for upload moment) ≡ on_put config s store upload moment
  asked = sound_is config s store (put_for upload moment) sound

  declared : on_put config s store upload moment
      ≡ (if keeps_row may.repo s upload.key then refused s (refusal.WriteDenied NoRedeploy) else put_reply s (stored s store upload moment false))
  declared = rw (may.declared, may.takes_it) refl

  pub kept : keeps_row may.repo s upload.key ≡ true → DeniesAt config s store (put_for upload moment) (denial.WriteDenied NoRedeploy)
  kept is = denies_at config s store (put_for upload moment) (denial.WriteDenied NoRedeploy) (asked ∙ declared ∙ rw is refl)

  open_to : keeps_row may.repo s upload.key ≡ false → outcome config s store (put_for upload moment) ≡ put_reply s (stored s store upload moment false)
  open_to is = asked ∙ declared ∙ rw is refl

  pub used_up : keeps_row may.repo s upload.key ≡ false → greatest_time ≤ s.last → DeniesAt config s store (put_for upload moment) denial.StampsUsed
  used_up is full = denies_at config s store (put_for upload moment) denial.StampsUsed
      (open_to is ∙ ap (put_reply s) (ap (λ (b : Bool). if b then Err refusal.StampsUsed else stored_as s upload moment.now blob (next_timestamp s.last moment.now)) (at_least greatest_time s.last full)))

  stored_is : s.last < greatest_time → stored s store upload moment false ≡ stored_as s upload moment.now blob (next_timestamp s.last moment.now)
  stored_is room = ap (λ (b : Bool). if b then Err refusal.StampsUsed else stored_as s upload moment.now blob (next_timestamp s.last moment.now)) (less greatest_time s.last room)

  abbrev asset : Asset
  asset = new_asset upload blob (next_timestamp s.last moment.now)

  as_taken : is_taken s blob ≡ true → stored_as s upload moment.now blob (next_timestamp s.last moment.now) ≡ Err (refusal.IdTaken blob.id)
  as_taken taken = ap (λ (b : Bool). if b then Err (refusal.IdTaken blob.id) else Ok (record { asset = asset; new = with_asset s upload.key asset (time_of moment.now) })) taken

  as_free : is_taken s blob ≡ false → stored_as s upload moment.now blob (next_timestamp s.last moment.now) ≡ Ok (record { asset = asset; new = with_asset s upload.key asset (time_of moment.now) })
  as_free free = ap (λ (b : Bool). if b then Err (refusal.IdTaken blob.id) else Ok (record { asset = asset; new = with_asset s upload.key asset (time_of moment.now) })) free

  pub id_taken : keeps_row may.repo s upload.key ≡ false → s.last < greatest_time → is_taken s blob ≡ true → DeniesAt config s store (put_for upload moment) (denial.IdTaken blob.id)
  id_taken is room taken = denies_at config s store (put_for upload moment) (denial.IdTaken blob.id)
      (open_to is ∙ ap (put_reply s) (stored_is room ∙ as_taken taken))

  pub done : keeps_row may.repo s upload.key ≡ false → s.last < greatest_time → is_taken s blob ≡ false
      → outcome config s store (put_for upload moment) ≡ answered (with_asset s upload.key asset (time_of moment.now)) (reply.Stored asset)
  done is room free = open_to is ∙ ap (put_reply s) (stored_is room ∙ as_free free)

  pub may_not_replace : (why : Denial) → MayReplace may.repo s upload.key (Err why) → DeniesAt config s store (put_for upload moment) why
  may_not_replace why (inl bad) = subst (λ (w : Denial). DeniesAt config s store (put_for upload moment) w) (sym bad.0) (kept bad.1)
  may_not_replace why (inr failed) = subst (λ (w : Denial). DeniesAt config s store (put_for upload moment) w) (sym failed.1) (fault_denies_at config s store (put_for upload moment) (of_keeper failed.0) sound)

  pub no_next : (why : Denial) → keeps_row may.repo s upload.key ≡ false → IsNext store s.last moment (Err why) → DeniesAt config s store (put_for upload moment) why
  no_next why is (inl full) = subst (λ (w : Denial). DeniesAt config s store (put_for upload moment) w) (sym full.0) (used_up is full.1)
  no_next why is (inr failed) = subst (λ (w : Denial). DeniesAt config s store (put_for upload moment) w) (sym failed) (fault_denies_at config s store (put_for upload moment) fault.Memory sound)

  module _ (tree : Tree) (a : FilesAgree config tree s) (ref : IsRef blob) where
    pub not_put : (why : Denial) → keeps_row may.repo s upload.key ≡ false → s.last < greatest_time
        → ((why ≡ denial.IdTaken blob.id) × IsSome (tree (props_name blob))) ⊎ ((refused : DiskErr) × (why ≡ denial.Failed (of_disk refused))) → DeniesAt config s store (put_for upload moment) why
    not_put why is room (inl taken) = subst (λ (w : Denial). DeniesAt config s store (put_for upload moment) w) (sym taken.0) (id_taken is room ((a.taken_is blob ref).1 taken.1))
    not_put why is room (inr failed) = subst (λ (w : Denial). DeniesAt config s store (put_for upload moment) w) (sym failed.1) (fault_denies_at config s store (put_for upload moment) (of_disk failed.0) sound)

    pub is_free : tree (props_name blob) ≡ None → is_taken s blob ≡ false
    is_free free = elim (two (is_taken s blob)) [
      | inl taken ↦ absurd (none_is_some (tree (props_name blob)) free ((a.taken_is blob ref).0 taken))
      | inr not ↦ not
    ]

pub later_timestamp : (last now : ℕ) → last < next_timestamp last now
later_timestamp last now = grind arith

-- what was staged makes the step ready, or is denied
pub prepared : {S : Type 0} (content : S → List ℕ) (config : Config) (tree : Tree) (s : State) (store : List ℕ) (upload : Upload) (moment : Moment) (own kept : Own) (told : Type 0) (tells : told)
    (old : Option Asset) (blob : BlobRef) (last at : ℕ) (a : FilesAgree config tree s) (sound : s.broken ≡ None) (may : MayGo config upload.key store)
    → last ≡ s.last → at ≡ time_of moment.now → MayReplace may.repo s upload.key (Ok old) → IsNext store last moment (Ok blob) → IsRef blob
    → (result : Result (Staged S) Denial) → IfOk result (λ staged. IsNewBlob upload blob staged.new) → OnOk result (tree (props_name blob) ≡ None)
    → IfOk result (λ staged. StagesOld content tree at old staged.mark) → IfOk result (λ staged. kept ≡ with_old own upload.key at old staged.mark) → IfErr result (NotPut told tree blob)
    → Prepares content config tree s store upload moment own kept result
prepared {S} content config tree s store upload moment own kept told tells old blob last at a sound may last_is at_is row next ref (Ok staged) new free mark trash denied =
    let is : blob ≡ next_ref store s.last moment = next.0 ∙ ap (λ (n : ℕ). next_ref store n moment) last_is in
    let here : tree (props_name (next_ref store s.last moment)) ≡ None = subst (λ (b : BlobRef). tree (props_name b) ≡ None) is free in
    let its_ref = subst (λ (b : BlobRef). IsRef b) is ref in
    record {
      old = old;
      row = row.0;
      new = subst (λ (b : BlobRef). IsNewBlob upload b staged.new) is new;
      step = done config s store upload moment sound may row.1 (subst (λ (n : ℕ). n < greatest_time) last_is next.1) (is_free config s store upload moment sound may tree a its_ref here);
      free = here;
      mark = subst (λ (t : ℕ). StagesOld content tree t old staged.mark) at_is mark;
      trash = subst (λ (t : ℕ). kept ≡ with_old own upload.key t old staged.mark) at_is trash;
    }
prepared content config tree s store upload moment own kept told tells old blob last at a sound may last_is at_is row next ref (Err why) new free mark trash denied =
    let is : blob ≡ next_ref store s.last moment = next.0 ∙ ap (λ (n : ℕ). next_ref store n moment) last_is in
    not_put config s store upload moment sound may tree a (subst (λ (b : BlobRef). IsRef b) is ref) why row.1 (subst (λ (n : ℕ). n < greatest_time) last_is next.1)
    (⊎_elim
    (λ taken. inl (subst (λ (b : BlobRef). why ≡ denial.IdTaken b.id) is taken.0, subst (λ (b : BlobRef). IsSome (tree (props_name b))) is (taken.1 tells)))
    (λ failed. inr failed)
    denied)
