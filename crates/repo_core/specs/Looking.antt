-- Looks at contents: what is given, why nothing is, and what the caller then holds.
use Rattle.std.specs.Prelude.{◌≡◌, ◌≢◌, ◌⊎◌, ℕ, List, [], length, slice_set, Option, Some, None, Result, Ok, Err}
use Rattle.std.specs.Option.{option_map}
use Rattle.nx_base.specs.declared.key.Key.{Key}
use Rattle.nx_base.specs.declared.asset.Asset.{Asset}
use Rattle.nx_base.specs.declared.moment.Moment.{Moment}
use Rattle.asset_keeper.specs.declared.change.Change.{Change}
use Rattle.asset_keeper.specs.declared.change.Change.TheVariants as change
use Rattle.disk_model.specs.declared.disk_err.DiskErr.{DiskErr}
use Rattle.disk_model.specs.Disk.{Tree}
use Rattle.repo_model.specs.declared.call.Call.TheVariants as call
use Rattle.repo_model.specs.declared.call.Look.{Look}
use Rattle.repo_model.specs.declared.call.RemoteSaid.TheVariants as remote
use Rattle.repo_model.specs.declared.reply.Refusal.{Refusal}
use Rattle.repo_model.specs.declared.reply.Refusal.TheVariants as refusal
use Rattle.repo_model.specs.declared.reply.Reply.{Reply}
use Rattle.repo_model.specs.declared.reply.Reply.TheVariants as reply
use Rattle.repo_model.specs.declared.transfer.GotOf.{GotOf}
use Rattle.repo_model.specs.declared.transfer.GotOf.TheVariants as got
use Rattle.repo_model.specs.Config.{Config}
use Rattle.repo_model.specs.State.{State, row_of}
use Rattle.repo_model.specs.Serving.{downloaded, served}
use Rattle.repo_model.specs.Step.{outcome}
use Rattle.blob_files.specs.declared.download.Download.{Download}
use Rattle.tree_content.specs.Blobs.{bytes_name}
use Rattle.repo_core.specs.declared.denial.Denial.{Denial}
use Rattle.repo_core.specs.declared.denial.Denial.TheVariants as denial
use Rattle.repo_core.specs.declared.given.Given.{Given}
use Rattle.repo_core.specs.declared.given.Opened.{Opened}
use Rattle.repo_core.specs.declared.hold.Hold.{Hold}
use Rattle.repo_core.specs.declared.noting.Note.{Note}
use Rattle.repo_core.specs.declared.stop.Stop.{Stop}
use Rattle.repo_core.specs.declared.stop.Stop.TheVariants as stop
use Rattle.repo_core.specs.Faults.{of_disk}
use Rattle.repo_core.specs.Ends.{Denies}

-- the row that a look finds, or why it finds none
abbrev pub MayGet : Config → State → Key → Look → Moment → Result Asset Denial → Type 0
MayGet config s key l moment (Ok asset) =
    (row_of s key ≡ Some asset) × (outcome config s [] (call.Get key l moment remote.NotAsked) ≡ served s key l moment.now asset)
MayGet config s key l moment (Err why) = Denies config s (call.Get key l moment remote.NotAsked) why

-- Why the bytes of an asset aren't given: the disk or the memory failed; or the last look found no file, or one that hasn't the
-- asset's size, and where files are told, it is so.
abbrev pub NotOpened : Type 0 → Tree → Asset → Option ℕ → Denial → Type 0
NotOpened told tree asset looked why =
    ((failed : DiskErr) × (why ≡ denial.Failed (of_disk failed)))
    ⊎ ((found : Option ℕ) × (why ≡ denial.Damaged asset.size found) × (looked ≡ found) × (found ≢ Some asset.size) × (told → found ≡ option_map length (tree (bytes_name asset.blob))))

-- the row stays as it is, or this change sets its new asset
abbrev pub IsChangeTo : Key → Asset → Asset → Option Change → Type 0
IsChangeTo key old new None = new ≡ old
IsChangeTo key old new (Some c) = c ≡ change.Set (record { key = key; asset = new })

-- a change to the asset with that download, and copies of it
pub record IsNoteOf (key : Key) (old : Asset) (at : ℕ) (note : Note) : Type 0 where
  pub asset_is : note.asset ≡ downloaded old at
  pub copy_is : note.copy ≡ note.asset
  pub blob_is : note.blob ≡ note.asset.blob
  pub change_is : IsChangeTo key old (downloaded old at) note.change

-- P of the denial, if it is one
abbrev pub IfDenied : {A : Type 0} → Result A Stop → (Denial → Type 0) → Type 0
IfDenied (Ok value) P = Unit {0}
IfDenied (Err (stop.Denied why)) P = P why
IfDenied (Err (stop.Broke what)) P = Unit {0}

-- what a look gave, as its caller sees it
abbrev pub got_in : {R : Type 0} → Asset → Option (Opened R) → GotOf (Download R)
got_in asset None = got.Seen asset
got_in asset (Some opened) = got.Hit asset opened.download

abbrev pub got_given : {R : Type 0} → Given R → GotOf (Download R)
got_given given = got_in given.asset given.opened

abbrev pub got_of : {R : Type 0} → Result (Given R) Refusal → Result (GotOf (Download R)) Refusal
got_of (Ok given) = Ok (got_given given)
got_of (Err why) = Err why

-- the reply of it. A repository without a remote asks for no fetch.
abbrev pub found_in : {L : Type 0} → GotOf L → Reply
found_in (got.Hit asset download) = reply.Found asset
found_in (got.Seen asset) = reply.Found asset
found_in (got.NeedFetch key) = reply.Refused refusal.NotFound

-- after a Hit the caller holds its blob, by the entry of that number, and else all holds stay
abbrev pub HoldsAfter : {L : Type 0} → ℕ → ℕ → List (Option Hold) → List (Option Hold) → Result (GotOf L) Refusal → Type 0
HoldsAfter number caller old new (Ok (got.Hit asset download)) = new ≡ slice_set old caller (Some (record { blob = asset.blob; entry = number }))
HoldsAfter number caller old new (Ok (got.Seen asset)) = new ≡ old
HoldsAfter number caller old new (Ok (got.NeedFetch key)) = new ≡ old
HoldsAfter number caller old new (Err why) = new ≡ old
