-- What a core is asked, as far as that tells one call from another.
use Rattle.std.specs.Prelude.{◌≡◌, ◌⊎◌, ℕ, ◌+◌, ◌%◌, ◌^◌, unwrap_or, List, [], ◌∷◌, Option, Some, None, Result}
use Rattle.std.specs.FinMap as map
use Rattle.nx_base.specs.Order.{key_cmp}
use Rattle.nx_base.specs.declared.asset.Asset.{Asset}
use Rattle.nx_base.specs.declared.key.Key.{Key}
use Rattle.nx_base.specs.declared.moment.Moment.{Moment}
use Rattle.blob_files.specs.declared.ready.Ready.{Ready}
use Rattle.blob_files.specs.declared.upload.Upload.{Upload}
use Rattle.repo_model.specs.declared.call.Begin.{Begin}
use Rattle.repo_model.specs.declared.call.Call.{Call}
use Rattle.repo_model.specs.declared.call.Call.TheVariants as call
use Rattle.repo_model.specs.declared.call.Look.{Look}
use Rattle.repo_model.specs.declared.call.RemoteSaid.TheVariants as remote
use Rattle.repo_model.specs.declared.entry.Entry.{Entry}
use Rattle.repo_model.specs.declared.reply.Refusal.{Refusal}
use Rattle.repo_model.specs.declared.reply.Reply.{Reply}
use Rattle.repo_model.specs.declared.reply.Reply.TheVariants as reply
use Rattle.repo_model.specs.declared.transfer.GotOf.{GotOf}
use Rattle.repo_model.specs.Config.{Config, Repo, repo_of, write_store}
use Rattle.repo_model.specs.Deleting.{discarded}
use Rattle.repo_model.specs.Timestamps.{next_timestamp, time_of}
use Rattle.repo_model.specs.State.{State, row_of}
use Rattle.disk_model.specs.Disk.{Tree}
use Rattle.asset_keeper.specs.Table.{Table, changed}
use Rattle.asset_keeper.specs.declared.change.Change.{Change}
use Rattle.asset_keeper.specs.declared.change.Change.TheVariants as change
use Rattle.tree_content.specs.Blobs.{bytes_name, props_name}
use Rattle.repo_core.specs.declared.own.Own.{Own}
use Rattle.repo_core.specs.Answers.{entry_of}
use Rattle.repo_core.specs.Begun.{begun_in}
use Rattle.repo_core.specs.Devices.{Devices}
use Rattle.repo_core.specs.Looking.{found_in}
use Rattle.repo_core.specs.Parts.{IsQuiet}
use Rattle.repo_core.specs.Puts.{put_for, upload_of, next_ref, MayGo, AreBytes}
use Rattle.repo_core.specs.Standing.{ImageBeforeOrAfter, IsHalfway}

pub record Ask (D A : Type 0) : Type 1 where
  -- which entries the journal gets, where it has room, of this answer
  pub enters : Result A Refusal → List Entry → Type 0
  -- which files a crash during the call may leave
  pub leaves : Config → State → Tree → Type 0
  -- which files and rows it may leave where it is stopped halfway
  pub halfway : Config → State → Tree → map.FinMap key_cmp Asset → Type 0
  -- the names whose files it may change, and the tables that its change of a table leaves
  pub touches : State → List ℕ → Type 0
  pub alters : Table → Table → Type 0
  -- what its step makes of what the core keeps itself
  pub keeps : Own → Own → Type 0
  -- the store of the upload that it ends, if it ends one
  pub store : Option (List ℕ)
  -- what is known of what is handed in, on which its step rests
  pub premise : Type 0
  -- what becomes of the disk where the call does nothing but give up what was handed in
  pub gives_up : D → D → Type 0

-- one entry: the call with its answer
abbrev pub EntersOne : {A : Type 0} → ℕ → Call → (A → Reply) → Result A Refusal → List Entry → Type 0
EntersOne caller c says result entries = entries ≡ entry_of caller c says result ∷ []

-- A call to which nothing is handed. It makes one entry.
abbrev pub asks : {D A : Type 0} → ℕ → Call → (A → Reply) → (State → List ℕ → Type 0) → (Table → Table → Type 0) → (Own → Own → Type 0) → Ask D A
asks caller c says touches alters keeps = record {
  enters = EntersOne caller c says;
  leaves = λ config s. ImageBeforeOrAfter config s [] c;
  halfway = λ config s. IsHalfway config s [] c;
  touches = touches;
  alters = alters;
  keeps = keeps;
  store = None;
  premise = Unit {0};
  gives_up = λ old new. new ≡ old;
}

-- The disk took a sealed file back: nothing can be seen of it, and it counts no fault.
pub record TookBack {D T : Type 0} (on : Devices D T) (old new : D) : Type 0 where
  pub quiet : IsQuiet on old new
  pub faults : on.disk_faults new ≡ on.disk_faults old

-- A call that puts a sealed file, which it gives up where it does nothing. `premise` is what is known of the file and its store.
abbrev pub asks_to_store : {D T A : Type 0} → Devices D T → ℕ → Call → (A → Reply) → (State → List ℕ → Type 0) → (Table → Table → Type 0) → (Own → Own → Type 0) → List ℕ → Type 0 → Ask D A
asks_to_store on caller c says touches alters keeps store premise = record {
  enters = EntersOne caller c says;
  leaves = λ config s. ImageBeforeOrAfter config s store c;
  halfway = λ config s. IsHalfway config s store c;
  touches = touches;
  alters = alters;
  keeps = keeps;
  store = Some store;
  premise = premise;
  gives_up = TookBack on;
}

-- no name, and no table
abbrev pub TouchesNone : State → List ℕ → Type 0
TouchesNone s n = ⊥

abbrev pub AltersNone : Table → Table → Type 0
AltersNone s t = ⊥

-- the properties of the blob that the key's row names
abbrev pub TouchesRow : Key → State → List ℕ → Type 0
TouchesRow key s n = (asset : Asset) × (row_of s key ≡ Some asset) × (n ≡ props_name asset.blob)

-- the files of the new blob too
abbrev pub TouchesNew : List ℕ → Key → Moment → State → List ℕ → Type 0
TouchesNew store key moment s n =
    (n ≡ bytes_name (next_ref store s.last moment)) ⊎ ((n ≡ props_name (next_ref store s.last moment)) ⊎ TouchesRow key s n)

-- the change sets the key's row
abbrev pub Sets : Key → Change → Type 0
Sets key c = (asset : Asset) × (c ≡ change.Set (record { key = key; asset = asset }))

-- the row of the key is set, or goes
abbrev pub SetsRow : Key → Table → Table → Type 0
SetsRow key s t = (asset : Asset) × (t ≡ changed s (change.Set (record { key = key; asset = asset })))

abbrev pub RemovesRow : Key → Table → Table → Type 0
RemovesRow key s t = t ≡ changed s (change.Remove key)

-- nothing is changed
abbrev pub KeepsAll : Own → Own → Type 0
KeepsAll old new = new ≡ old

-- one upload more is counted in the store or group to which the key's repository writes
abbrev pub Counts : Config → Key → Own → Own → Type 0
Counts config key old new =
    (repo : Repo) × (repo_of config key.repo ≡ Some repo)
    × (new ≡ record old { counts = map.insert old.counts (write_store repo) ((unwrap_or (map.get old.counts (write_store repo)) 0 + 1) % 2 ^ 64) })

-- a blob of the key is in the trash, deleted at that time
abbrev pub Discards : Key → Moment → Own → Own → Type 0
Discards key moment old new = (asset : Asset) × (new ≡ record old { trash = discarded old.trash key asset (time_of moment.now) })

-- the next timestamp is the last one, and the blob that the key had, if it had one whose mark could be made, is in the trash
abbrev pub Timestamps : Key → Moment → Own → Own → Type 0
Timestamps key moment old new =
    (kept : Own) × ((kept ≡ old) ⊎ Discards key moment old kept) × (new ≡ record kept { last = next_timestamp old.last moment.now })

-- the beginning of an upload
abbrev pub begins : {D W : Type 0} → Config → ℕ → Begin → Ask D (Upload W)
begins config caller begin = asks caller (call.Begin begin) begun_in TouchesNone AltersNone (Counts config begin.key)

-- the deletion of a key's content
abbrev pub deletes : {D : Type 0} → ℕ → Key → Moment → Ask D (Unit {0})
deletes caller key moment = asks caller (call.Delete key moment.now) (λ _. reply.Gone) (TouchesRow key) (RemovesRow key) (Discards key moment)

-- a look at a key's content, for which no remote was asked
abbrev pub looks_at : {D L : Type 0} → ℕ → Key → Look → Moment → Ask D (GotOf L)
looks_at caller key look moment = asks caller (call.Get key look moment remote.NotAsked) found_in TouchesNone (SetsRow key) KeepsAll

-- The put of an upload that is ready. Its step rests on this: the repository may write to the upload's store, and size and digest are those
-- of the file.
abbrev pub puts : {D T S : Type 0} → Devices D T → (S → List ℕ) → Config → ℕ → Ready S → Moment → Ask D Asset
puts on content config caller ready moment =
    asks_to_store on caller (put_for (upload_of ready) moment) (λ asset. reply.Stored asset) (TouchesNew ready.store ready.begin.key moment) (SetsRow ready.begin.key) (Timestamps ready.begin.key moment) ready.store
    (MayGo config ready.begin.key ready.store × AreBytes (upload_of ready) (content ready.file))
