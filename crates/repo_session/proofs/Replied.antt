-- What a session's methods make of the answers of its core.
use Rattle.std.proofs.Common.{◌≡◌, inl, ℕ, ◌+◌, ◌-◌, ◌<◌, Bool, List, [], ◌++◌, length, min, replicate, Option, Some, None, Result, Ok, Err, refl, sym, ap, ◌∙◌, subst, arith, append-nil}
use Rattle.std.specs.Prelude.{slice_get, unwrap_or}
use Rattle.std.specs.Option.{option_map}
use Rattle.nx_base.specs.declared.moment.Moment.{Moment}
use Rattle.nx_io.specs.Causes.{Rose}
use Rattle.blob_files.specs.declared.upload.Upload.{Upload}
use Rattle.blob_files.specs.Uploads.{HasTaken, IsFault}
use Rattle.repo_model.specs.declared.entry.Entry.{Entry}
use Rattle.repo_model.specs.declared.reply.Reply.{Reply}
use Rattle.repo_model.specs.declared.transfer.UploadErr.{UploadErr}
use Rattle.repo_model.specs.declared.transfer.UploadErr.TheVariants as errors
use Rattle.http_heads.specs.declared.head.Head.{Head}
use Rattle.http_heads.specs.declared.head_err.HeadErr.{HeadErr}
use Rattle.http_heads.specs.Response.{why_head}
use Rattle.http_requests.specs.Requests.{Item, refused}
use Rattle.http_front.specs.Answers.{Answer, last_refusal, response_of}
use Rattle.session_driver.specs.Replying.{AnswersEach, PutsAs}
use Rattle.repo_core.specs.View.{CoreView}
use Rattle.repo_session.specs.declared.draws.Draws.{Draws}
use Rattle.repo_session.specs.declared.open_upload.OpenUpload.{OpenUpload}
use Rattle.repo_core.specs.Devices.{Devices}
use Rattle.repo_session.specs.Drawing.{Drew}
use Rattle.repo_session.specs.Answering.{AnsweringView, Answered, IsBegun, TurnedTo, UploadWaits}

pub drew : (old new : Draws) (moment : Moment) → slice_get old.moments.items old.next ≡ Some moment → new.moments.items ≡ old.moments.items
    → new.next ≡ min (old.next + 1) (length old.moments.items - 1) → Drew old new moment
drew old new moment value same next = λ moments n h. (
  let here : slice_get moments (min n (length moments - 1)) ≡ Some moment = sym (ap (λ (l : List Moment). slice_get l old.next) h.all ∙ ap (slice_get moments) h.next) ∙ value in
      sym (ap (λ (o : Option Moment). unwrap_or o (record { now = 0; random = replicate 10 0 })) here),
  record { all = same ∙ h.all; next = omega (arith, next, h.next, ap length h.all) },
)

-- a refused head makes no call
pub head_refused : {D T : Type 0} (devices : Devices D T) (core : CoreView D T) (moment : Moment) (why : HeadErr) (bare : Bool)
    → TurnedTo devices core core moment (refused why bare) (last_refusal bare (why_head why))
unfolding response_of
head_refused devices core moment why bare = record {
  stop = None;
  entries = [];
  made = record {
    since = record {
      journal = ap (λ (l : List Entry). record core.journal { entries = l }) (sym (append-nil core.journal.entries));
      config = refl;
      tells = λ is. is;
      disk_later = omega arith;
      keeper_later = omega arith;
      broken = λ cause is. is;
      disk_broke = λ cause was is says. absurd (some_is_none (sym is ∙ was));
      keeper_broke = λ cause was is says. absurd (some_is_none (sym is ∙ was));
      durable = λ told sound is. is;
      others = λ told some state tracks. (state, tracks, λ n out no. refl);
    };
    stops = tt;
    disk = omega arith;
    keeper = omega arith;
    leads = λ told is draws state contents stands. record { next = state; makes = (inl refl, refl); served = tt; stands = stands };
  };
  says = λ told is state contents stands. record { bytes_are = refl; ends_are = refl };
}
  where
    some_is_none : {A : Type 0} {x : A} → Some x ≡ None → ⊥
    some_is_none e = absurd (cc)

-- a turn from a session's core on, by the moment that the session drew
pub answered : {D T W R : Type 0} (devices : Devices D T) (start new : AnsweringView D T W R) (item : Item) (answer : Answer) (moment : Moment)
    → Drew start.draws new.draws moment → TurnedTo devices start.core new.core moment item answer → Answered devices start new item answer
answered devices start new item answer moment drawn turned = record { moment = moment; drawn = drawn; turned = turned }

pub each_answered : {D T W R : Type 0} (devices : Devices D T) (start new : AnsweringView D T W R) (head : Head) (answer : Answer) (moment : Moment)
    → Drew start.draws new.draws moment → AnswersEach (TurnedTo devices start.core new.core moment) head answer → AnswersEach (Answered devices start new) head answer
each_answered devices start new head answer moment drawn turned item of = answered devices start new item answer moment drawn (turned item of)

-- the same of an upload that came whole
pub puts_answered : {D T W R : Type 0} (devices : Devices D T) (start new : AnsweringView D T W R) (head : Head) (item : Item) (moment : Moment) (result : Result Reply UploadErr)
    → Drew start.draws new.draws moment → PutsAs (TurnedTo devices start.core new.core moment item) head result → PutsAs (Answered devices start new item) head result
puts_answered devices start new head item moment (Ok said) drawn turned = answered devices start new item _ moment drawn turned
puts_answered devices start new head item moment (Err why) drawn turned = answered devices start new item _ moment drawn turned

-- what is kept, as it is seen
pub kept_view : {W : Type 0} (kept : Option (OpenUpload W)) (one : OpenUpload W) → kept ≡ Some one → option_map (λ (o : OpenUpload W). o.upload) kept ≡ Some one.upload
kept_view {W} kept one is = ap (option_map (λ (o : OpenUpload W). o.upload)) is

-- The upload that was kept is the one that waits.
pub kept_upload : {D T W R : Type 0} (devices : Devices D T) (told : Type 0) (written : W → List ℕ) (start now : AnsweringView D T W R) (head : Head) (content : List ℕ) (upload : Upload W)
    → (w : UploadWaits devices told written start now head content) → now.upload ≡ Some upload → IsBegun devices told written start.core now.core head upload content
kept_upload {D} {T} {W} {R} devices told written start now head content upload w is =
    subst (λ (u : Upload W). IsBegun devices told written start.core now.core head u content) (same _ _ (sym w.kept ∙ is)) w.begun
  where
    same : (a b : Upload W) → Some a ≡ Some b → a ≡ b
    same a b e = cc

-- what was drawn while an upload waited was drawn since it began
pub drew_since : {D T W R : Type 0} (devices : Devices D T) (told : Type 0) (written : W → List ℕ) (start now : AnsweringView D T W R) (draws : Draws) (head : Head) (content : List ℕ) (moment : Moment)
    → UploadWaits devices told written start now head content → Drew now.draws draws moment → Drew start.draws draws moment
drew_since devices told written start now draws head content moment w drawn = subst (λ (d : Draws). Drew d draws moment) w.draws drawn

-- a part of a file that failed has a count
pub failed_counts : (why : UploadErr) (before now : ℕ) → (IsFault why → Rose before now) → why ≡ errors.DiskFault → 0 < now
failed_counts why before now rose e = risen (rose (subst IsFault (sym e) tt))
  where
    risen : Rose before now → 0 < now
    risen r = grind (arith, r)

-- another part was taken into an upload
pub part_taken : {D T W : Type 0} (devices : Devices D T) (told : Type 0) (written : W → List ℕ) (start now : CoreView D T) (head : Head) (before after : Upload W) (content part : List ℕ)
    → IsBegun devices told written start now head before content → after.target ≡ before.target
    → ((bytes : List ℕ) → HasTaken told written before bytes → HasTaken told written after (bytes ++ part))
    → IsBegun devices told written start now head after (content ++ part)
part_taken devices told written start now head before after content part b target takes = record {
  store = b.store;
  target = target ∙ b.target;
  begun = b.begun;
  goes = b.goes;
  taken = λ is. takes content (b.taken is);
}
