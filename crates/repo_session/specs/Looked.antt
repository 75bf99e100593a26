-- What a look leaves behind: what it replied, and the content that is open.
use Rattle.std.specs.Prelude.{◌≡◌, ◌⊎◌, ℕ, List, [], Option, Some, None, IsSome, Result, Ok, Err}
use Rattle.nx_base.specs.declared.asset.Asset.{Asset}
use Rattle.nx_base.specs.declared.moment.Moment.{Moment}
use Rattle.blob_files.specs.declared.download.Download.{Download}
use Rattle.repo_model.specs.declared.call.Call.TheVariants as call
use Rattle.repo_model.specs.declared.call.Look.{Look}
use Rattle.repo_model.specs.declared.call.Look.TheVariants as look
use Rattle.repo_model.specs.declared.call.RemoteSaid.TheVariants as remote
use Rattle.repo_model.specs.declared.reply.Refusal.{Refusal}
use Rattle.repo_model.specs.declared.reply.Reply.{Reply}
use Rattle.repo_model.specs.declared.reply.Reply.TheVariants as reply
use Rattle.repo_model.specs.declared.transfer.GotOf.{GotOf}
use Rattle.repo_model.specs.declared.transfer.GotOf.TheVariants as got
use Rattle.repo_model.specs.State.{State}
use Rattle.http_heads.specs.declared.head.Head.{Head}
use Rattle.http_front.specs.Contents.{Contents}
use Rattle.http_front.specs.Served.{Has}
use Rattle.session_history.specs.declared.ask.Ask.TheVariants as asks
use Rattle.session_history.specs.Asking.{ask_of}
use Rattle.repo_core.specs.Devices.{Devices}
use Rattle.repo_session.specs.Standing.{Stands}
use Rattle.repo_session.specs.Called.{Called}
use Rattle.repo_session.specs.Holding.{GivesContent}
use Rattle.repo_session.specs.Drawing.{Drew}
use Rattle.repo_session.specs.Answering.{AnsweringView}

-- what a look opened
abbrev pub opened_by : {R : Type 0} → Result (GotOf (Download R)) Refusal → Option (Download R)
opened_by (Ok (got.Hit asset download)) = Some download
opened_by (Ok (got.Seen asset)) = None
opened_by (Ok (got.NeedFetch key)) = None
opened_by (Err why) = None

-- Behind a GET that found an asset its content is open, and else none is.
abbrev pub Opens : {R : Type 0} → Look → Option (Download R) → Reply → Type 0
Opens look.Get (Some download) said = (asset : Asset) × (said ≡ reply.Found asset)
Opens look.Get None said = (why : Refusal) × (said ≡ reply.Refused why)
Opens look.Head (Some download) said = ⊥
Opens look.Head None said = ((asset : Asset) × (said ≡ reply.Found asset)) ⊎ ((why : Refusal) × (said ≡ reply.Refused why))

-- the content of the asset that was found is there, and where one is open, it is this
abbrev pub ShowsHeld : {R : Type 0} → (R → List ℕ) → Contents → Option (Download R) → Reply → Type 0
ShowsHeld left contents (Some download) (reply.Found asset) = GivesContent left contents asset download
ShowsHeld left contents None (reply.Found asset) = Has contents asset.blob
ShowsHeld left contents found said = Unit {0}

-- The request with that head, a GET or HEAD, was looked up by one moment and replied so. What is open now is the content that it found.
pub record IsLooked {D T W R : Type 0} (devices : Devices D T) (left : R → List ℕ) (old new : AnsweringView D T W R) (head : Head) (said : Reply) : Type 0 where
  pub moment : Moment
  pub drawn : Drew old.draws new.draws moment
  pub kind : Look
  pub asked : ask_of head head.method ≡ asks.Look head.key kind
  pub called : Called devices old.core new.core (call.Get head.key kind moment remote.NotAsked) [] said (λ contents. contents)
  pub opens : Opens kind new.found said
  pub shows : devices.told → IsSome (devices.table new.core.table) → (state : State) (contents : Contents) → Stands devices old.core state contents
      → ShowsHeld left contents new.found said
