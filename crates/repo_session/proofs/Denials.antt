-- The turn of an upload that wasn't begun.
use Rattle.std.proofs.Common.{◌≡◌, inl, inr, ℕ, true, false, List, [], Some, None, refl, sym, ap, ◌∙◌, arith, append-nil}
use Rattle.nx_base.specs.declared.moment.Moment.{Moment}
use Rattle.repo_model.specs.declared.call.Call.TheVariants as call
use Rattle.repo_model.specs.declared.entry.Entry.{Entry}
use Rattle.repo_model.specs.declared.reply.Refusal.{Refusal}
use Rattle.repo_model.specs.declared.reply.Reply.TheVariants as reply
use Rattle.repo_model.specs.declared.transfer.UploadErr.TheVariants as uploads
use Rattle.http_heads.specs.declared.head.Head.{Head}
use Rattle.http_heads.specs.Head.{is_put}
use Rattle.http_requests.specs.Requests.{Item, refused, whole, stopped, cut}
use Rattle.http_front.specs.Asking.{IsOf}
use Rattle.http_front.specs.declared.stop.Stop.TheVariants as stops
use Rattle.http_front.specs.Answers.{Answer, first_reply, has_begun, begin_refused, last_refusal}
use Rattle.http_front.specs.Turns.{Turn, is_upload, contents_after}
use Rattle.session_history.specs.Asking.{begin_of}
use Rattle.session_history.specs.Saying.{why_upload}
use Rattle.session_driver.specs.Replying.{AnswersEach}
use Rattle.repo_core.specs.View.{CoreView}
use Rattle.repo_core.specs.Devices.{Devices}
use Rattle.repo_session.specs.Leads.{IsEntryOf}
use Rattle.repo_session.specs.Called.{Called}
use Rattle.repo_session.specs.Turned.{TurnMade}
use Rattle.repo_session.specs.Answering.{TurnedTo}
use Rattle.repo_session.proofs.Sayings.{answer_denied, answer_stop_first}
use Rattle.repo_session.proofs.TurnsMade.{turn_of_one, rests_same}
use Rattle.repo_session.proofs.Uploads.{asks_begin}

-- a beginning that was refused began nothing, and the refusal is its reply
none_begun : (room number : ℕ) (head : Head) (why : Refusal) (entries : List Entry) → IsEntryOf room number (call.Begin (begin_of head)) (reply.Refused why) entries
    → (has_begun entries ≡ false) × (first_reply entries ≡ reply.Refused why)
none_begun room number head why entries (inl (fits, is)) = (ap has_begun is, ap first_reply is)
none_begun room number head why entries (inr (at_end, is, says)) = (ap has_begun is, ap first_reply is ∙ sym says)

-- An upload whose beginning was refused is answered with that, whatever its content is.
pub upload_denied : {D T : Type 0} (devices : Devices D T) (old new : CoreView D T) (head : Head) (why : Refusal) (moment : Moment)
    → is_put head.method ≡ true → Called devices old new (call.Begin (begin_of head)) [] (reply.Refused why) (λ contents. contents)
    → AnswersEach (TurnedTo devices old new moment) head (begin_refused head (reply.Refused why))
upload_denied devices old new head why moment put called item of = record {
  stop = None;
  entries = called.entries;
  made = turn_of_one devices old new new moment item (call.Begin (begin_of head)) (reply.Refused why) (asks_begin moment head item of put) refl called (rests_same devices new)
      (λ told is state contents stands. record { keeps = λ content. refl; served = tt });
  says = λ told is state contents stands.
      let none = none_begun _ _ head why called.entries called.made in
      let turn : Turn = record { request = item; stop = None; entries = called.entries } in
      let says = answer_denied (contents_after turn contents) head item called.entries of put none.0 ∙ ap (begin_refused head) none.1 in
      record { bytes_are = ap (λ (a : Answer). a.bytes) (sym says); ends_are = ap (λ (a : Answer). a.ends) (sym says) };
}

-- a request with the head of an upload is one
is_one : (head : Head) (item : Item) → IsOf head item → is_put head.method ≡ true → is_upload item ≡ true
is_one head (refused why bare) of put = absurd of
is_one head (whole asked content) of put = ap (λ (h : Head). is_put h.method) of ∙ put
is_one head (stopped asked content why) of put = ap (λ (h : Head). is_put h.method) of ∙ put
is_one head (cut asked content) of put = ap (λ (h : Head). is_put h.method) of ∙ put

-- Memory was refused before any call.
no_call_turn : {D T : Type 0} (devices : Devices D T) (core : CoreView D T) (item : Item) (moment : Moment) → is_upload item ≡ true
    → TurnMade devices core core moment (record { request = item; stop = Some stops.NoMemory; entries = [] })
no_call_turn devices core item moment upload = record {
  since = record {
    journal = ap (λ (l : List Entry). record core.journal { entries = l }) (sym (append-nil core.journal.entries));
    config = refl;
    tells = λ is. is;
    disk_later = omega arith;
    keeper_later = omega arith;
    broken = λ cause is. is;
    disk_broke = λ cause was is says. absurd (some_is_none (sym is ∙ was));
    keeper_broke = λ cause was is says. absurd (some_is_none (sym is ∙ was));
    durable = λ told sound is. is;
    others = λ told some state tracks. (state, tracks, λ n out no. refl);
  };
  stops = (upload, refl);
  disk = omega arith;
  keeper = omega arith;
  leads = λ told is draws state contents stands. record { next = state; makes = (inr (inr refl), refl); served = tt; stands = stands };
}
  where
    some_is_none : {A : Type 0} {x : A} → Some x ≡ None → ⊥
    some_is_none e = absurd (cc)

-- An upload that was stopped for want of memory before any call is answered so, whatever its content is.
pub upload_not_asked : {D T : Type 0} (devices : Devices D T) (core : CoreView D T) (head : Head) (moment : Moment)
    → is_put head.method ≡ true → AnswersEach (TurnedTo devices core core moment) head (last_refusal false (why_upload uploads.NoMemory))
upload_not_asked devices core head moment put item of = record {
  stop = Some stops.NoMemory;
  entries = [];
  made = no_call_turn devices core item moment (is_one head item of put);
  says = λ told is state contents stands.
      let says = answer_stop_first contents head item stops.NoMemory of put in
      record { bytes_are = ap (λ (a : Answer). a.bytes) (sym says); ends_are = ap (λ (a : Answer). a.ends) (sym says) };
}
