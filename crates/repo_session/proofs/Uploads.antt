-- The turn of an upload that was begun and not put.
use Rattle.std.proofs.Common.{◌≡◌, inl, inr, ℕ, ◌<◌, true, false, List, [], ◌∷◌, length, Option, Some, None, IsSome, refl, sym, ap, ◌∙◌, subst, arith}
use Rattle.sha1.specs.Sha1.{sha1}
use Rattle.nx_io.specs.Causes.{RoseBy}
use Rattle.nx_base.specs.declared.moment.Moment.{Moment}
use Rattle.repo_model.specs.declared.call.Call.TheVariants as call
use Rattle.repo_model.specs.declared.entry.Entry.{Entry}
use Rattle.repo_model.specs.declared.reply.Reply.TheVariants as reply
use Rattle.repo_model.specs.declared.transfer.UploadErr.{UploadErr}
use Rattle.repo_model.specs.declared.transfer.UploadErr.TheVariants as errors
use Rattle.repo_model.specs.State.{State}
use Rattle.disk_model.specs.Disk.{TakesBack}
use Rattle.http_heads.specs.declared.head.Head.{Head}
use Rattle.http_heads.specs.declared.method.Method.{Method}
use Rattle.http_heads.specs.declared.method.Method.TheVariants as methods
use Rattle.http_heads.specs.declared.body_err.BodyErr.{BodyErr}
use Rattle.http_heads.specs.Head.{is_put}
use Rattle.http_heads.specs.Response.{Why, why_body}
use Rattle.http_requests.specs.Requests.{Item, refused, whole, stopped, cut}
use Rattle.http_front.specs.declared.stop.Stop.{Stop}
use Rattle.http_front.specs.Answers.{Answer, last_refusal, silence}
use Rattle.http_front.specs.Asking.{IsOf}
use Rattle.http_front.specs.Calls.{call_of, first_call, next_call}
use Rattle.http_front.specs.Contents.{Contents}
use Rattle.http_front.specs.Entries.{goes_on}
use Rattle.http_front.specs.Responses.{why_stopped}
use Rattle.http_front.specs.Turns.{MayStop}
use Rattle.session_history.specs.Asking.{begin_of}
use Rattle.session_history.specs.Saying.{why_upload}
use Rattle.session_driver.specs.Replying.{AnswersEach, told}
use Rattle.repo_core.specs.View.{CoreView}
use Rattle.repo_core.specs.Devices.{Devices}
use Rattle.repo_session.specs.Standing.{Stands}
use Rattle.repo_session.specs.Leads.{IsEntryOf, LeadsBy}
use Rattle.repo_session.specs.Called.{Since}
use Rattle.repo_session.specs.Resting.{Rests}
use Rattle.repo_session.specs.Answering.{HasBegun, TurnedTo, stop_for}
use Rattle.repo_session.specs.Turned.{setting_of, stop_faults, TurnMade, TurnLeads}
use Rattle.repo_session.proofs.Makings.{said_to, makes_one}
use Rattle.repo_session.proofs.Sayings.{answer_stop, answer_stopped, answer_cut}
use Rattle.repo_session.proofs.TurnsMade.{since_rests, told_before, rose_none}

-- the entry of the beginning
abbrev pub begin_entry : Head → List ℕ → Entry
begin_entry head store = said_to (call.Begin (begin_of head)) (reply.Begun store)

-- an upload that was begun has this entry
pub begun_entries : (room number : ℕ) (head : Head) (store : List ℕ) (entries : List Entry) → IsEntryOf room number (call.Begin (begin_of head)) (reply.Begun store) entries
    → (number < room) × (entries ≡ begin_entry head store ∷ [])
begun_entries room number head store entries (inl (fits, is)) = (fits, is)
begun_entries room number head store entries (inr (at_end, is, says)) = absurd (cc)

put_method : (method : Method) → is_put method ≡ true → method ≡ methods.Put
put_method methods.Get e = absurd (cc)
put_method methods.Head e = absurd (cc)
put_method methods.Put e = refl
put_method methods.Delete e = absurd (cc)

head_begins : (moment : Moment) (asked head : Head) → asked ≡ head → is_put head.method ≡ true → first_call moment asked asked.method ≡ call.Begin (begin_of head)
head_begins moment asked head of e = ap (λ (h : Head). first_call moment h h.method) of ∙ ap (λ (m : Method). first_call moment head m) (put_method head.method e)

-- an upload begins by its first call
pub asks_begin : (moment : Moment) (head : Head) (item : Item) → IsOf head item → is_put head.method ≡ true → call_of moment item ≡ Some (call.Begin (begin_of head))
asks_begin moment head (refused why bare) of e = absurd of
asks_begin moment head (whole asked content) of e = ap Some (head_begins moment asked head of e)
asks_begin moment head (stopped asked content why) of e = ap Some (head_begins moment asked head of e)
asks_begin moment head (cut asked content) of e = ap Some (head_begins moment asked head of e)

-- Behind the beginning no second call is made, as a stop came or the content didn't come whole. Its writer was given back.
pub upload_turn : {D T : Type 0} (devices : Devices D T) (start mid new : CoreView D T) (head : Head) (store : List ℕ) (item : Item) (stop : Option Stop) (moment : Moment)
    → is_put head.method ≡ true → IsOf head item → goes_on item stop ≡ false → HasBegun devices start mid head store → Rests devices mid new
    → RoseBy (stop_faults stop) (devices.disk_faults mid.disk) (devices.disk_faults new.disk)
    → TurnMade devices start new moment (record { request = item; stop = stop; entries = begin_entry head store ∷ [] })
upload_turn {D} {T} devices start mid new head store item stop moment put of ends begun rests rose = record {
  since = since_rests devices start mid new (begin_entry head store ∷ []) since rests;
  stops = begun_stops stop;
  disk = grind (arith, since.disk_later, rose);
  keeper = subst (λ (t : T). RoseBy 0 (devices.keeper_faults start.table) (devices.keeper_faults t)) (sym table) (rose_none _ _ since.keeper_later);
  leads = leads;
}
  where
    begun_stops : (stop : Option Stop) → MayStop item stop (begin_entry head store ∷ [])
    begun_stops None = tt
    begun_stops (Some s) = (refl, refl)

    entry : (length start.journal.entries < start.journal.room) × (begun.entries ≡ begin_entry head store ∷ [])
    entry = begun_entries _ _ head store begun.entries begun.made

    since : Since devices start mid (begin_entry head store ∷ [])
    since = subst (λ (l : List Entry). Since devices start mid l) entry.1 begun.since

    table : new.table ≡ mid.table
    table = ap (λ (v : CoreView D T). v.table) rests.same

    last : next_call sha1 moment item stop (begin_entry head store ∷ []) ≡ None
    last = rw ends refl

    leads : devices.told → IsSome (devices.table new.table) → (draws : ℕ → Moment) (state : State) (contents : Contents) → Stands devices start state contents
        → TurnLeads devices start new moment (record { request = item; stop = stop; entries = begin_entry head store ∷ [] }) draws state contents
    leads told is draws state contents stands =
        let led = begun.leads told (told_before devices mid new rests is) state contents stands in
        record {
          next = led.0;
          makes = makes_one (setting_of start draws) refl moment item stop (length start.journal.entries) state led.0 (call.Begin (begin_of head)) (reply.Begun store) (begin_entry head store ∷ [])
              (asks_begin moment head item of put) last (inl (entry.0, refl))
              (subst (λ (l : List Entry). LeadsBy _ (length start.journal.entries) state [] l led.0) entry.1 led.1);
          served = tt;
          stands = rests.stands told led.0 contents led.2;
        }

-- a failed upload stops by a fault of the disk only where its writer failed, and then the disk's count rose
pub stop_rose : (why : UploadErr) (before now part : ℕ) → (why ≡ errors.DiskFault → 0 < part) → TakesBack before now part → RoseBy (stop_faults (Some (stop_for why))) before now
stop_rose errors.DiskFault before now part faulty takes = takes.faulty (faulty refl)
stop_rose errors.BodyTooLarge before now part faulty takes = rose_none before now takes.later
stop_rose errors.Dead before now part faulty takes = rose_none before now takes.later
stop_rose errors.NoMemory before now part faulty takes = rose_none before now takes.later

-- An upload that was stopped is answered with what stopped it, whatever its content is.
pub upload_stopped : {D T : Type 0} (devices : Devices D T) (start mid new : CoreView D T) (head : Head) (store : List ℕ) (stop : Stop) (moment : Moment)
    → is_put head.method ≡ true → HasBegun devices start mid head store → Rests devices mid new
    → RoseBy (stop_faults (Some stop)) (devices.disk_faults mid.disk) (devices.disk_faults new.disk)
    → AnswersEach (TurnedTo devices start new moment) head (told head (last_refusal false (why_stopped stop)))
upload_stopped devices start mid new head store stop moment put begun rests rose item of = record {
  stop = Some stop;
  entries = begin_entry head store ∷ [];
  made = upload_turn devices start mid new head store item (Some stop) moment put of (no_more item) begun rests rose;
  says = λ told is state contents stands.
      let says = answer_stop contents head item stop (begin_entry head store ∷ []) of put refl in
      record { bytes_are = ap (λ (a : Answer). a.bytes) (sym says); ends_are = ap (λ (a : Answer). a.ends) (sym says) };
}
  where
    no_more : (item : Item) → goes_on item (Some stop) ≡ false
    no_more (refused why bare) = refl
    no_more (whole asked content) = refl
    no_more (stopped asked content why) = refl
    no_more (cut asked content) = refl

-- One whose content was refused is answered with that.
pub upload_refused : {D T : Type 0} (devices : Devices D T) (start mid new : CoreView D T) (head : Head) (store content : List ℕ) (why : BodyErr) (moment : Moment)
    → is_put head.method ≡ true → HasBegun devices start mid head store → Rests devices mid new
    → TurnedTo devices start new moment (stopped head content why) (told head (last_refusal false (why_body why)))
upload_refused devices start mid new head store content why moment put begun rests = record {
  stop = None;
  entries = begin_entry head store ∷ [];
  made = upload_turn devices start mid new head store (stopped head content why) None moment put refl refl begun rests (rose_none _ _ rests.later);
  says = λ told is state contents stands.
      let says = answer_stopped contents head content why (begin_entry head store ∷ []) put refl in
      record { bytes_are = ap (λ (a : Answer). a.bytes) (sym says); ends_are = ap (λ (a : Answer). a.ends) (sym says) };
}

-- To one that was cut nothing more is said.
pub upload_cut : {D T : Type 0} (devices : Devices D T) (start mid new : CoreView D T) (head : Head) (store content : List ℕ) (moment : Moment)
    → is_put head.method ≡ true → HasBegun devices start mid head store → Rests devices mid new
    → TurnedTo devices start new moment (cut head content) (told head silence)
upload_cut devices start mid new head store content moment put begun rests = record {
  stop = None;
  entries = begin_entry head store ∷ [];
  made = upload_turn devices start mid new head store (cut head content) None moment put refl refl begun rests (rose_none _ _ rests.later);
  says = λ told is state contents stands.
      let says = answer_cut contents head content (begin_entry head store ∷ []) put refl in
      record { bytes_are = ap (λ (a : Answer). a.bytes) (sym says); ends_are = ap (λ (a : Answer). a.ends) (sym says) };
}

-- the same, said as the upload's own failure
pub upload_failed : {D T : Type 0} (devices : Devices D T) (start mid new : CoreView D T) (head : Head) (store : List ℕ) (why said : UploadErr) (moment : Moment) (part : ℕ)
    → is_put head.method ≡ true → HasBegun devices start mid head store → Rests devices mid new
    → (why ≡ errors.DiskFault → 0 < part) → TakesBack (devices.disk_faults mid.disk) (devices.disk_faults new.disk) part
    → why_upload said ≡ why_stopped (stop_for why)
    → AnswersEach (TurnedTo devices start new moment) head (told head (last_refusal false (why_upload said)))
upload_failed devices start mid new head store why said moment part put begun rests faulty takes words =
    subst (λ (w : Why). AnswersEach (TurnedTo devices start new moment) head (told head (last_refusal false w))) (sym words)
    (upload_stopped devices start mid new head store (stop_for why) moment put begun rests (stop_rose why _ _ part faulty takes))
