-- What a look of the core gives out is held.
use Rattle.std.proofs.Common.{◌≡◌, ◌≢◌, inl, inr, ℕ, List, [], ◌∷◌, length, IfOk, IsSome, Option, Some, None, Result, Ok, Err, refl, sym, ◌∙◌, subst, arith}
use Rattle.std.proofs.lemmas.Bool.{cases_lt}
use Rattle.nx_base.specs.declared.key.Key.{Key}
use Rattle.nx_base.specs.declared.asset.Asset.{Asset}
use Rattle.nx_base.specs.declared.blob_ref.BlobRef.{BlobRef}
use Rattle.nx_base.specs.declared.moment.Moment.{Moment}
use Rattle.tree_content.proofs.Blobs.{some_is}
use Rattle.blob_files.specs.declared.download.Download.{Download}
use Rattle.repo_model.specs.declared.call.Call.TheVariants as call
use Rattle.repo_model.specs.declared.call.Look.{Look}
use Rattle.repo_model.specs.declared.call.RemoteSaid.TheVariants as remote
use Rattle.repo_model.specs.declared.reply.Cause.{Cause}
use Rattle.repo_model.specs.declared.reply.Refusal.{Refusal}
use Rattle.repo_model.specs.declared.reply.Refusal.TheVariants as refusal
use Rattle.repo_model.specs.declared.reply.Reply.TheVariants as reply
use Rattle.repo_model.specs.declared.transfer.GotOf.{GotOf}
use Rattle.repo_model.specs.declared.transfer.GotOf.TheVariants as got
use Rattle.repo_model.specs.State.{State}
use Rattle.repo_model.specs.History.{Follows}
use Rattle.repo_model.specs.Plain.{config_of}
use Rattle.http_front.specs.Sound.{IsUndamaged}
use Rattle.http_front.specs.Contents.{Contents}
use Rattle.repo_core.specs.View.{CoreView}
use Rattle.repo_core.specs.Asks.{looks_at, KeepsAll, SetsRow, TouchesNone}
use Rattle.repo_core.specs.Called as core
use Rattle.repo_core.specs.Answers.{IsFull, HasRoom, entry_of}
use Rattle.repo_core.specs.Standing.{Moves}
use Rattle.repo_core.specs.Looking.{found_in}
use Rattle.repo_core.specs.Got.{GotOpened, GotFile, GotContent}
use Rattle.repo_core.specs.Devices.{Devices}
use Rattle.repo_session.specs.Standing.{IsHeld, Stands}
use Rattle.repo_session.specs.Holding.{GivesHeld}
use Rattle.repo_session.proofs.Leading.{leads_of}
use Rattle.repo_session.proofs.CoreCalls.{IsNoRefusal, moves_of}

-- the reply of what was given
pub found_refuses : {L : Type 0} (got : GotOf L) → IsNoRefusal (found_in got)
found_refuses (got.Hit asset download) = (λ e. cc, λ e. cc)
found_refuses (got.Seen asset) = (λ e. cc, λ e. cc)
found_refuses (got.NeedFetch key) = (λ e. cc, λ e. cc)

pub found_stores : {L : Type 0} (got : GotOf L) (made : Asset) → found_in got ≢ reply.Stored made
found_stores (got.Hit asset download) made e = cc
found_stores (got.Seen asset) made e = cc
found_stores (got.NeedFetch key) made e = cc

pub found_whole : {L : Type 0} (got : GotOf L) → IsUndamaged (found_in got)
found_whole (got.Hit asset download) size found e = cc
found_whole (got.Seen asset) size found e = cc
found_whole (got.NeedFetch key) size found e = cc

-- no answer is a refusal too
ok_or_err : {A B : Type 0} (r : Result A B) (a : A) (b : B) → r ≡ Ok a → r ≡ Err b → ⊥
ok_or_err r a b is e = let both : Ok a ≡ Err b = sym is ∙ e in cc

module _ {D T R : Type 0} (devices : Devices D T) (left : R → List ℕ) (size faults : R → ℕ) (old new : CoreView D T) (key : Key) (l : Look) (moment : Moment) (s : State) (contents : Contents) (stands : Stands devices old s contents) where
  abbrev Leads : Result (GotOf (Download R)) Refusal → Type 0
  Leads result = HasRoom old.journal → Moves devices.tree devices.table old new (entry_of 0 (call.Get key l moment remote.NotAsked) found_in result ∷ []) s

  abbrev FullIs : Result (GotOf (Download R)) Refusal → Type 0
  FullIs result = IsFull old.journal → result ≡ Err refusal.JournalFull

  abbrev BrokenIs : Result (GotOf (Download R)) Refusal → Type 0
  BrokenIs result = (cause : Cause) → HasRoom old.journal → old.broken ≡ Some cause → result ≡ Err (refusal.Broken cause)

  -- a look that found an asset was made of a core with room that wasn't broken, so its content is held
  its_content : (gives : GotOf (Download R)) (asset : Asset) → found_in gives ≡ reply.Found asset → FullIs (Ok gives) → BrokenIs (Ok gives) → Leads (Ok gives)
      → IsHeld (devices.tree old.disk) contents asset.blob
  its_content gives asset finds full broken moves =
      let room : HasRoom old.journal = elim (cases_lt (length old.journal.entries) old.journal.room) [
        | inl fits ↦ fits
        | inr none ↦ absurd (ok_or_err (Ok gives) gives refusal.JournalFull refl (full none))
      ] in
      let led = moves room in
      let entry = entry_of 0 (call.Get key l moment remote.NotAsked) found_in (Ok gives) in
      let follows : Follows (config_of old.config) (length old.journal.entries) s entry led.0 =
      subst (λ (x : State). Follows (config_of old.config) (length old.journal.entries) s entry x) (sym led.1.2) led.1.1 in
      let named = (leads_of (config_of old.config) (length old.journal.entries) s entry led.0 tt follows).found asset finds in
      subst (λ (b : BlobRef). IsHeld (devices.tree old.disk) contents b) named.same (stands.held (sound room old.broken refl) named.key named.old named.row)
    where
      sound : HasRoom old.journal → (o : Option Cause) → old.broken ≡ o → old.broken ≡ None
      sound room None is = is
      sound room (Some cause) is = absurd (ok_or_err (Ok gives) gives (refusal.Broken cause) refl (broken cause room is))

  gives_held : (result : Result (GotOf (Download R)) Refusal) → FullIs result → BrokenIs result → Leads result → IfOk result (GotOpened size faults)
      → IfOk result (GotFile left (devices.tree old.disk)) → IfOk result (GotContent left) → IfOk result (GivesHeld left contents)
  gives_held (Ok (got.Hit asset download)) full broken moves opened file content =
      let held = its_content (got.Hit asset download) asset refl full broken moves in
      let sized = content.sized in
      let reads = opened.reads in
      let nothing = opened.nothing in
      record {
        there = held.there;
        bytes = some_is (left download.reader) _ (sym file ∙ held.file);
        whole = omega (arith, sized, reads, nothing);
      }
  gives_held (Ok (got.Seen asset)) full broken moves opened file content = (its_content (got.Seen asset) asset refl full broken moves).there
  gives_held (Ok (got.NeedFetch key)) full broken moves opened file content = tt
  gives_held (Err why) full broken moves opened file content = tt

  -- what a look of the core gave is held
  pub look_gives : (result : Result (GotOf (Download R)) Refusal) → core.Called devices (looks_at 0 key l moment) old new result → devices.told → IsSome (devices.table new.table) → IfOk result (GotOpened size faults)
      → IfOk result (GotFile left (devices.tree old.disk)) → IfOk result (GotContent left) → IfOk result (GivesHeld left contents)
  look_gives result done told some opened file content =
      gives_held result (λ full. (done.full full).0.answer) (λ cause room is. (done.broken cause room is).answer)
      (λ room. moves_of devices old new (call.Get key l moment remote.NotAsked) found_in TouchesNone (SetsRow key) KeepsAll result done told some room s stands.tracks) opened file content
