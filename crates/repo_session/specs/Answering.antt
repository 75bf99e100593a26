-- What a request makes of a session's repository, and what stands between its head and the end of its content.
use Rattle.std.specs.Prelude.{◌≡◌, ℕ, List, [], Option, Some, None, slice_get, slice_set}
use Rattle.std.specs.Option.{option_map}
use Rattle.nx_base.specs.declared.moment.Moment.{Moment}
use Rattle.blob_files.specs.declared.download.Download.{Download}
use Rattle.blob_files.specs.declared.upload.Upload.{Upload}
use Rattle.blob_files.specs.Uploads.{HasTaken}
use Rattle.repo_model.specs.declared.call.Call.TheVariants as call
use Rattle.repo_model.specs.declared.reply.Reply.TheVariants as reply
use Rattle.repo_model.specs.declared.transfer.UploadErr.{UploadErr}
use Rattle.repo_model.specs.declared.transfer.UploadErr.TheVariants as errors
use Rattle.repo_model.specs.Plain.{config_of}
use Rattle.http_front.specs.Answers.{Answer}
use Rattle.http_front.specs.declared.stop.Stop.{Stop}
use Rattle.http_front.specs.declared.stop.Stop.TheVariants as stops
use Rattle.http_heads.specs.declared.head.Head.{Head}
use Rattle.http_requests.specs.Requests.{Item}
use Rattle.session_history.specs.Asking.{begin_of}
use Rattle.repo_core.specs.View.{CoreView}
use Rattle.repo_core.specs.Puts.{MayGo}
use Rattle.repo_session.specs.declared.draws.Draws.{Draws}
use Rattle.repo_session.specs.declared.open_upload.OpenUpload.{OpenUpload}
use Rattle.repo_core.specs.Devices.{Devices}
use Rattle.repo_session.specs.Drawing.{Drew}
use Rattle.repo_session.specs.Called.{Called}
use Rattle.repo_session.specs.Turned.{Turned}

-- What contracts see of a session: its core, the moments that it draws, the upload whose content is being read, and the content that is
-- open, which is to be given out.
pub record AnsweringView (D T W R : Type 0) : Type 0 where
  pub core : CoreView D T
  pub draws : Draws
  pub upload : Option (Upload W)
  pub found : Option (Download R)

abbrev pub session_view : {D T W R : Type 0} → CoreView D T → Draws → Option (OpenUpload W) → Option (Download R) → AnsweringView D T W R
session_view core draws upload found = record { core = core; draws = draws; upload = option_map (λ o. o.upload) upload; found = found }

-- what the callers of a core hold, once what is open was let go by caller 0
abbrev pub cleared : {A H : Type 0} → Option A → List (Option H) → List (Option H)
cleared None holds = holds
cleared (Some one) holds = slice_set holds 0 None

-- then that holds nothing
abbrev pub IsFree : {A H : Type 0} → Option A → List (Option H) → Type 0
IsFree found holds = slice_get (cleared found holds) 0 ≡ Some None

-- a turn of the request was made, and this is its answer
abbrev pub TurnedTo : {D T : Type 0} → Devices D T → CoreView D T → CoreView D T → Moment → Item → Answer → Type 0
TurnedTo devices old new moment request answer = Turned devices old new moment request answer.bytes answer.ends

-- The request was answered so, by one moment.
pub record Answered {D T W R : Type 0} (devices : Devices D T) (old new : AnsweringView D T W R) (request : Item) (answer : Answer) : Type 0 where
  pub moment : Moment
  pub drawn : Drew old.draws new.draws moment
  pub turned : TurnedTo devices old.core new.core moment request answer

-- between these cores an upload with that head was begun
abbrev pub HasBegun : {D T : Type 0} → Devices D T → CoreView D T → CoreView D T → Head → List ℕ → Type 0
HasBegun devices old new head store = Called devices old new (call.Begin (begin_of head)) [] (reply.Begun store) (λ contents. contents)

-- This upload with that head was begun, between these cores, and this content was taken into it.
pub record IsBegun {D T W : Type 0} (devices : Devices D T) (told : Type 0) (written : W → List ℕ) (old new : CoreView D T) (head : Head) (upload : Upload W) (content : List ℕ) : Type 0 where
  pub store : List ℕ
  pub target : upload.target ≡ Some (record { begin = begin_of head; store = store })
  pub begun : HasBegun devices old new head store
  pub goes : MayGo (config_of new.config) head.key store
  pub taken : devices.told → HasTaken told written upload content

-- An upload is open, and of its content so much was taken.
pub record UploadWaits {D T W R : Type 0} (devices : Devices D T) (told : Type 0) (written : W → List ℕ) (old new : AnsweringView D T W R) (head : Head) (content : List ℕ) : Type 0 where
  pub draws : new.draws ≡ old.draws
  pub upload : Upload W
  pub kept : new.upload ≡ Some upload
  pub begun : IsBegun devices told written old.core new.core head upload content

-- what a failed upload is to the session
abbrev pub stop_for : UploadErr → Stop
stop_for errors.DiskFault = stops.DiskFault
stop_for errors.BodyTooLarge = stops.NoMemory
stop_for errors.Dead = stops.NoMemory
stop_for errors.NoMemory = stops.NoMemory
