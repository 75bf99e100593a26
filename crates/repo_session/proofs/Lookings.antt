-- Answers to GET and HEAD, from what the core gave.
use Rattle.std.proofs.Common.{◌≡◌, inl, inr, ℕ, Bool, true, false, if◌then◌else◌, List, [], ◌∷◌, ◌++◌, length, take, slice_get, slice_set, Option, Some, None, IsSome, IfOk, Result, Ok, Err, refl, sym, ap, ◌∙◌, subst}
use Rattle.std.proofs.lemmas.List.{append-nil}
use Rattle.std.proofs.Math.Seq.{take-length}
use Rattle.nx_io.specs.Causes.{Rose}
use Rattle.nx_base.specs.declared.key.Key.{Key}
use Rattle.nx_base.specs.declared.moment.Moment.{Moment}
use Rattle.nx_base.specs.declared.asset.Asset.{Asset}
use Rattle.blob_files.specs.declared.download.Download.{Download}
use Rattle.blob_files.specs.Downloads.{to_come, IsWhole}
use Rattle.repo_model.specs.declared.call.Call.{Call}
use Rattle.repo_model.specs.declared.call.Call.TheVariants as call
use Rattle.repo_model.specs.declared.call.Look.{Look}
use Rattle.repo_model.specs.declared.call.Look.TheVariants as look
use Rattle.repo_model.specs.declared.call.RemoteSaid.TheVariants as remote
use Rattle.repo_model.specs.declared.reply.Refusal.{Refusal}
use Rattle.repo_model.specs.declared.reply.Reply.{Reply}
use Rattle.repo_model.specs.declared.reply.Reply.TheVariants as reply
use Rattle.repo_model.specs.declared.transfer.GotOf.{GotOf}
use Rattle.repo_model.specs.declared.transfer.GotOf.TheVariants as got
use Rattle.repo_model.specs.Journal.{JournalView}
use Rattle.repo_model.specs.State.{State}
use Rattle.repo_model.specs.Plain.{config_of}
use Rattle.http_heads.specs.declared.head.Head.{Head}
use Rattle.http_heads.specs.declared.method.Method.{Method}
use Rattle.http_heads.specs.declared.method.Method.TheVariants as methods
use Rattle.http_heads.specs.Head.{is_put}
use Rattle.http_heads.specs.Response.{head_of}
use Rattle.http_requests.specs.Requests.{whole}
use Rattle.http_front.specs.declared.unsaid.Unsaid.{Unsaid}
use Rattle.http_front.specs.declared.unsaid.Unsaid.TheVariants.{DownloadFault}
use Rattle.http_front.specs.Answers.{reply_to}
use Rattle.http_front.specs.Asking.{is_head}
use Rattle.http_front.specs.Calls.{first_call}
use Rattle.http_front.specs.Contents.{Contents, bytes_of, asset_content}
use Rattle.http_front.specs.Replying.{IsAnswered}
use Rattle.http_front.specs.Responses.{replied_with}
use Rattle.session_history.specs.declared.ask.Ask.TheVariants as asks
use Rattle.session_history.specs.Asking.{ask_of}
use Rattle.repo_core.specs.Answers.{reply_of}
use Rattle.repo_core.specs.declared.hold.Hold.{Hold}
use Rattle.repo_core.specs.Got.{IsGotFor}
use Rattle.repo_core.specs.Looking.{found_in, HoldsAfter}
use Rattle.repo_core.specs.View.{CoreView}
use Rattle.repo_session.specs.declared.draws.Draws.{Draws}
use Rattle.repo_core.specs.Devices.{Devices}
use Rattle.repo_session.specs.Drawing.{Drew}
use Rattle.repo_session.specs.Standing.{Stands}
use Rattle.repo_session.specs.Called.{Called}
use Rattle.repo_session.specs.Leads.{IsEntryOf, LeadsBy}
use Rattle.repo_session.specs.Resting.{Rests}
use Rattle.repo_session.specs.Holding.{GivesContent, GivesHeld}
use Rattle.repo_session.specs.Giving.{IsGiven, IsGivenBehind, HasGivenCause}
use Rattle.repo_session.specs.Sending.{Sent, SentSome, OnlyWriteFails}
use Rattle.repo_session.specs.Answering.{AnsweringView, Answered, IsFree}
use Rattle.repo_session.specs.Looked.{IsLooked, Opens, ShowsHeld, opened_by}
use Rattle.repo_session.specs.Turned.{DownloadFails}
use Rattle.repo_session.proofs.Sendings.{answered, answered_by_sink}
use Rattle.repo_session.proofs.TurnsMade.{Gives, rests_since, rose_before, told_before}
use Rattle.repo_session.proofs.TurnsSaid.{turned_of_one}

-- of a whole download all the bytes are to come
whole_to_come : {R : Type 0} (left : R → List ℕ) (download : Download R) → IsWhole left download → to_come left download ≡ left download.reader
whole_to_come left download is = ap (λ (n : ℕ). take n (left download.reader)) (sym is) ∙ take-length (left download.reader)

-- the content that was given out is the asset's
content_is : {R : Type 0} (told : Type 0) (left : R → List ℕ) (contents : Contents) (asset : Asset) (download : Download R) (bytes : List ℕ)
    → told → GivesContent left contents asset download → IsGiven told left download bytes → bytes ≡ bytes_of contents asset.blob
content_is told left contents asset download bytes tells gives given = given tells gives.whole ∙ whole_to_come left download gives.whole ∙ gives.bytes

-- whether a look gives no content
abbrev bare_of : Look → Bool
bare_of look.Get = false
bare_of look.Head = true

-- A request with that head looks at the key.
record Looks (head : Head) (method : Method) (key : Key) (kind : Look) : Type 0 where
  key_is : head.key ≡ key
  bare : is_head method ≡ bare_of kind
  plain : is_put method ≡ false
  first : (moment : Moment) → first_call moment head method ≡ call.Get head.key kind moment remote.NotAsked

looks_by : (head : Head) (method : Method) (key : Key) (kind : Look) → ask_of head method ≡ asks.Look key kind → Looks head method key kind
looks_by head methods.Get key kind e =
    let same : look.Get ≡ kind = cc in
    record { key_is = cc; bare = ap bare_of same; plain = refl; first = λ moment. ap (λ (k : Look). call.Get head.key k moment remote.NotAsked) same }
looks_by head methods.Head key kind e =
    let same : look.Head ≡ kind = cc in
    record { key_is = cc; bare = ap bare_of same; plain = refl; first = λ moment. ap (λ (k : Look). call.Get head.key k moment remote.NotAsked) same }
looks_by head methods.Put key kind e = absurd (cc)
looks_by head methods.Delete key kind e = absurd (cc)

-- what the core gave, as it was replied and opened

opens_got : {R : Type 0} (kind : Look) (result : Result (GotOf (Download R)) Refusal) → IfOk result (IsGotFor kind) → Opens kind (opened_by result) (reply_of found_in result)
opens_got look.Get (Ok (got.Hit asset download)) for = (asset, refl)
opens_got look.Get (Ok (got.Seen asset)) for = absurd for
opens_got look.Get (Ok (got.NeedFetch key)) for = absurd for
opens_got look.Get (Err why) for = (why, refl)
opens_got look.Head (Ok (got.Hit asset download)) for = absurd for
opens_got look.Head (Ok (got.Seen asset)) for = inl (asset, refl)
opens_got look.Head (Ok (got.NeedFetch key)) for = absurd for
opens_got look.Head (Err why) for = inr (why, refl)

shows_got : {R : Type 0} (left : R → List ℕ) (contents : Contents) (result : Result (GotOf (Download R)) Refusal) → IfOk result (GivesHeld left contents)
    → ShowsHeld left contents (opened_by result) (reply_of found_in result)
shows_got left contents (Ok (got.Hit asset download)) gives = gives
shows_got left contents (Ok (got.Seen asset)) gives = gives
shows_got left contents (Ok (got.NeedFetch key)) gives = tt
shows_got left contents (Err why) gives = tt

-- what is set and cleared again is free
free_again : (holds : List (Option Hold)) (hold : Hold) → slice_get holds 0 ≡ Some None → slice_get (slice_set (slice_set holds 0 (Some hold)) 0 None) 0 ≡ Some None
free_again [] hold free = absurd (cc)
free_again (first ∷ holds) hold free = refl

-- so what is open can be let go
pub free_after : {R : Type 0} (number : ℕ) (holds holds' : List (Option Hold)) (result : Result (GotOf (Download R)) Refusal) → slice_get holds 0 ≡ Some None
    → HoldsAfter number 0 holds holds' result → IsFree (opened_by result) holds'
free_after number holds holds' (Ok (got.Hit asset download)) free is =
    subst (λ (l : List (Option Hold)). slice_get (slice_set l 0 None) 0 ≡ Some None) (sym is) (free_again holds (record { blob = asset.blob; entry = number }) free)
free_after number holds holds' (Ok (got.Seen asset)) free is = subst (λ (l : List (Option Hold)). slice_get l 0 ≡ Some None) (sym is) free
free_after number holds holds' (Ok (got.NeedFetch key)) free is = subst (λ (l : List (Option Hold)). slice_get l 0 ≡ Some None) (sym is) free
free_after number holds holds' (Err why) free is = subst (λ (l : List (Option Hold)). slice_get l 0 ≡ Some None) (sym is) free

-- A call of a core to whose disk something was given back before.
pub called_behind : {D T : Type 0} (devices : Devices D T) (old mid new : CoreView D T) (c : Call) (store : List ℕ) (said : Reply) (after : Contents → Contents)
    → Rests devices old mid → Called devices mid new c store said after → Called devices old new c store said after
called_behind {D} {T} devices old mid new c store said after rests called = record {
  entries = called.entries;
  made = subst (λ (j : JournalView). IsEntryOf j.room (length j.entries) c said called.entries) journal called.made;
  since = rests_since devices old mid new called.entries rests called.since;
  cause = record {
    disk = λ e. rose_before _ _ _ rests.later (called.cause.disk e);
    keeper = λ e. subst (λ (t : T). Rose (devices.keeper_faults t) (devices.keeper_faults new.table)) table (called.cause.keeper e);
  };
  leads = λ told is state contents stands.
      let led = called.leads told is state contents (rests.stands told state contents stands) in (
        led.0,
        subst (λ (v : CoreView D T). LeadsBy (config_of v.config) (length v.journal.entries) state store called.entries led.0) rests.same led.1,
        led.2,
      );
}
  where
    journal : mid.journal ≡ old.journal
    journal = ap (λ (v : CoreView D T). v.journal) rests.same

    table : mid.table ≡ old.table
    table = ap (λ (v : CoreView D T). v.table) rests.same

-- A look of a session, behind which open is what it found.
pub looked_up : {D T W R : Type 0} (devices : Devices D T) (left : R → List ℕ) (start new : AnsweringView D T W R) (mid : CoreView D T) (head : Head) (key : Key) (kind : Look) (moment : Moment)
    (result : Result (GotOf (Download R)) Refusal) (said : Reply)
    → ask_of head head.method ≡ asks.Look key kind → Drew start.draws new.draws moment → Rests devices start.core mid
    → Called devices mid new.core (call.Get key kind moment remote.NotAsked) [] (reply_of found_in result) (λ contents. contents)
    → (devices.told → IsSome (devices.table new.core.table) → (state : State) (contents : Contents) → Stands devices mid state contents → IfOk result (GivesHeld left contents))
    → IfOk result (IsGotFor kind) → said ≡ reply_of found_in result → new.found ≡ opened_by result
    → IsLooked devices left start new head said
looked_up {D} {T} {W} {R} devices left start new mid head key kind moment result said asked drawn rests called gives for said_is found_is = record {
  moment = moment;
  drawn = drawn;
  kind = kind;
  asked = asked ∙ ap (λ (k : Key). asks.Look k kind) (sym key_is);
  called = subst (λ (r : Reply). Called devices start.core new.core (call.Get head.key kind moment remote.NotAsked) [] r (λ contents. contents)) (sym said_is)
      (subst (λ (k : Key). Called devices start.core new.core (call.Get k kind moment remote.NotAsked) [] (reply_of found_in result) (λ contents. contents)) (sym key_is)
      (called_behind devices start.core mid new.core _ [] _ _ rests called));
  opens = subst (λ (r : Reply). Opens kind new.found r) (sym said_is) (subst (λ (f : Option (Download R)). Opens kind f (reply_of found_in result)) (sym found_is) (opens_got kind result for));
  shows = λ told is state contents stands.
      subst (λ (r : Reply). ShowsHeld left contents new.found r) (sym said_is)
      (subst (λ (f : Option (Download R)). ShowsHeld left contents f (reply_of found_in result)) (sym found_is)
      (shows_got left contents result (gives told is state contents (rests.stands told state contents stands))));
}
  where
    key_is : head.key ≡ key
    key_is = (looks_by head head.method key kind asked).key_is

-- the bytes that are written behind a look: the prefix, and behind it the content that is open
abbrev Shown : {R : Type 0} → Type 0 → (R → List ℕ) → List ℕ → Option (Download R) → List ℕ → Type 0
Shown told left prefix (Some download) bytes = IsGivenBehind told left prefix download bytes
Shown told left prefix None bytes = bytes ≡ prefix

-- they are the response, and the content that they give is there
abbrev IsResponse : Contents → Head → Reply → List ℕ → Type 0
IsResponse contents head said bytes = Gives said contents × (bytes ≡ replied_with (is_head head.method) head.closes (asset_content contents said) said)

with_content_of : (bare : Bool) (first content held : List ℕ) → bare ≡ false → content ≡ held → (first ++ (if bare then [] else [])) ++ content ≡ first ++ (if bare then [] else held)
with_content_of true first content held e is = absurd (cc)
with_content_of false first content held e is = ap (λ (l : List ℕ). l ++ content) (append-nil first) ∙ ap (λ (l : List ℕ). first ++ l) is

without_content : (bare : Bool) (first held : List ℕ) → bare ≡ true → first ++ (if bare then [] else []) ≡ first ++ (if bare then [] else held)
without_content true first held e = refl
without_content false first held e = absurd (cc)

shown_is : {R : Type 0} (told : Type 0) (left : R → List ℕ) (contents : Contents) (head : Head) (kind : Look) (found : Option (Download R)) (said : Reply) (prefix bytes : List ℕ)
    → told → is_head head.method ≡ bare_of kind → Opens kind found said → ShowsHeld left contents found said → prefix ≡ (reply_to [] head said).bytes → Shown told left prefix found bytes
    → IsResponse contents head said bytes
shown_is {R} told left contents head look.Get (Some download) said prefix bytes tells bare (asset, is) shows prefix_is (content, given, all) =
    let held : GivesContent left contents asset download = subst (λ (r : Reply). ShowsHeld left contents (Some download) r) is shows in
    let first : prefix ≡ (reply_to [] head (reply.Found asset)).bytes = prefix_is ∙ ap (λ (r : Reply). (reply_to [] head r).bytes) is in
    subst (λ (r : Reply). IsResponse contents head r bytes) (sym is) (
      record { keeps = λ content. refl; served = held.there },
      all ∙ ap (λ (l : List ℕ). l ++ content) first
          ∙ with_content_of (is_head head.method) (head_of 200 (Some asset.content_type) (Some asset.size) head.closes) content (bytes_of contents asset.blob) bare
          (content_is told left contents asset download content tells held given),
    )
shown_is {R} told left contents head look.Get None said prefix bytes tells bare (why, is) shows prefix_is all =
    subst (λ (r : Reply). IsResponse contents head r bytes) (sym is)
    (record { keeps = λ content. refl; served = tt }, all ∙ prefix_is ∙ ap (λ (r : Reply). (reply_to [] head r).bytes) is)
shown_is {R} told left contents head look.Head (Some download) said prefix bytes tells bare opens shows prefix_is all = absurd opens
shown_is {R} told left contents head look.Head None said prefix bytes tells bare (inl (asset, is)) shows prefix_is all =
    let held = subst (λ (r : Reply). ShowsHeld left contents None r) is shows in
    subst (λ (r : Reply). IsResponse contents head r bytes) (sym is) (
      record { keeps = λ content. refl; served = held },
      all ∙ prefix_is ∙ ap (λ (r : Reply). (reply_to [] head r).bytes) is
          ∙ without_content (is_head head.method) (head_of 200 (Some asset.content_type) (Some asset.size) head.closes) (bytes_of contents asset.blob) bare,
    )
shown_is {R} told left contents head look.Head None said prefix bytes tells bare (inr (why, is)) shows prefix_is all =
    subst (λ (r : Reply). IsResponse contents head r bytes) (sym is)
    (record { keeps = λ content. refl; served = tt }, all ∙ prefix_is ∙ ap (λ (r : Reply). (reply_to [] head r).bytes) is)

-- what is open has all its bytes
open_is_whole : {R : Type 0} (left : R → List ℕ) (contents : Contents) (kind : Look) (found : Option (Download R)) (download : Download R) (said : Reply)
    → found ≡ Some download → Opens kind found said → ShowsHeld left contents found said → IsWhole left download
open_is_whole {R} left contents look.Get (Some one) download said found (asset, is) shows =
    let held : GivesContent left contents asset one = subst (λ (r : Reply). ShowsHeld left contents (Some one) r) is shows in
    let same : one ≡ download = cc in
    subst (IsWhole left) same held.whole
open_is_whole left contents look.Get None download said found opens shows = absurd (cc)
open_is_whole left contents look.Head (Some one) download said found opens shows = absurd opens
open_is_whole left contents look.Head None download said found opens shows = absurd (cc)

module _ {D T W R : Type 0} (devices : Devices D T) (told : Type 0) (left : R → List ℕ) (start now new : AnsweringView D T W R) (head : Head) (said : Reply) (prefix : List ℕ)
    (tells : devices.told → told) (looked : IsLooked devices left start now head said) (prefix_is : prefix ≡ (reply_to [] head said).bytes) (draws : new.draws ≡ now.draws) (rests : Rests devices now.core new.core) where
  abbrev Is : List ℕ → Type 0
  Is bytes = Answered devices start new (whole head []) (record { bytes = bytes; ends = head.closes })

  -- these bytes are the answer
  looked_answer : (bytes : List ℕ) → Shown told left prefix now.found bytes → Is bytes
  looked_answer bytes shown =
      let looks = looks_by head head.method head.key looked.kind looked.asked in
      record {
        moment = looked.moment;
        drawn = subst (λ (d : Draws). Drew start.draws d looked.moment) (sym draws) looked.drawn;
        turned = turned_of_one devices start.core now.core new.core looked.moment head [] bytes (call.Get head.key looked.kind looked.moment remote.NotAsked) said
            (record { asked = looks.first looked.moment; plain = looks.plain; begins_none = refl }) looked.called rests
            (λ t table state contents stands.
            shown_is told left contents head looked.kind now.found said prefix bytes (tells t) looks.bare looked.opens (looked.shows t table state contents stands) prefix_is shown);
      }

  -- what was open was given out as far as it could be
  pub given_answer : (download : Download R) (taken taken' : Option (List ℕ)) (result : Result (Unit {0}) Unsaid) → now.found ≡ Some download
      → SentSome (IsGivenBehind told left prefix download) taken taken' result → HasGivenCause told left (devices.disk_faults now.core.disk) (devices.disk_faults new.core.disk) download result
      → IsAnswered Is (DownloadFails devices start.core new.core) [] taken taken' result
  given_answer download taken taken' result found sent cause =
      answered Is (DownloadFails devices start.core new.core) taken taken' sent.0 result
      (looked_answer sent.0 (subst (λ (f : Option (Download R)). Shown told left prefix f sent.0) (sym found) sent.1)) sent.2 fails
    where
      fails : result ≡ Err DownloadFault → DownloadFails devices start.core new.core
      fails e t table =
          let before = told_before devices now.core new.core rests table in (
            looked.called.since.tells before,
            λ state contents stands.
                rose_before _ _ _ looked.called.since.disk_later
                (subst (λ (r : Result (Unit {0}) Unsaid). HasGivenCause told left (devices.disk_faults now.core.disk) (devices.disk_faults new.core.disk) download r) e cause
                (tells t) (open_is_whole left contents looked.kind now.found download said found looked.opens (looked.shows t before state contents stands))),
          )

  -- nothing was open
  pub plain_answer : (taken taken' : Option (List ℕ)) (result : Result (Unit {0}) Unsaid) → now.found ≡ None → Sent taken taken' prefix result → OnlyWriteFails result
      → IsAnswered Is (DownloadFails devices start.core new.core) [] taken taken' result
  plain_answer taken taken' result found sent only =
      answered_by_sink Is (DownloadFails devices start.core new.core) taken taken' prefix result
      (looked_answer prefix (subst (λ (f : Option (Download R)). Shown told left prefix f prefix) (sym found) refl)) sent only
