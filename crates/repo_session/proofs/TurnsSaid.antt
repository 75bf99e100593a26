-- What is said in the turn of a request that makes one call.
use Rattle.std.proofs.Common.{◌≡◌, ℕ, Bool, false, ◌&&◌, List, [], Some, None, IsSome, Result, Ok, Err, refl, sym, ap, ◌∙◌}
use Rattle.nx_base.specs.declared.key.Key.{Key}
use Rattle.nx_base.specs.declared.moment.Moment.{Moment}
use Rattle.repo_model.specs.declared.call.Call.{Call}
use Rattle.repo_model.specs.declared.call.Call.TheVariants as call
use Rattle.repo_model.specs.declared.reply.Refusal.{Refusal}
use Rattle.repo_model.specs.declared.reply.Reply.{Reply}
use Rattle.repo_model.specs.declared.reply.Reply.TheVariants as reply
use Rattle.repo_model.specs.History.{is_begin}
use Rattle.repo_model.specs.State.{State}
use Rattle.http_heads.specs.declared.head.Head.{Head}
use Rattle.http_heads.specs.declared.method.Method.{Method}
use Rattle.http_heads.specs.declared.method.Method.TheVariants as methods
use Rattle.http_heads.specs.Head.{is_put}
use Rattle.http_requests.specs.Requests.{whole}
use Rattle.http_front.specs.Asking.{is_head}
use Rattle.http_front.specs.Answers.{Answer, last_reply, reply_to}
use Rattle.http_front.specs.Calls.{first_call}
use Rattle.http_front.specs.Contents.{Contents, with_content, asset_content}
use Rattle.http_front.specs.Entries.{begins, is_begun}
use Rattle.http_front.specs.Responses.{replied_with}
use Rattle.http_front.specs.Turns.{turn_answer}
use Rattle.session_history.specs.declared.ask.Ask.TheVariants as asks
use Rattle.session_history.specs.Asking.{ask_of}
use Rattle.repo_core.specs.Answers.{reply_of}
use Rattle.repo_core.specs.View.{CoreView}
use Rattle.repo_session.specs.Answering.{TurnedTo}
use Rattle.repo_core.specs.Devices.{Devices}
use Rattle.repo_session.specs.Standing.{Stands}
use Rattle.repo_session.specs.Called.{Called}
use Rattle.repo_session.specs.Resting.{Rests}
use Rattle.repo_session.specs.Turned.{Turned, IsAnswer}
use Rattle.repo_session.proofs.Makings.{said_to}
use Rattle.repo_session.proofs.Sayings.{answer_whole}
use Rattle.repo_session.proofs.TurnsMade.{Gives, last_of_call, rests_same, told_before, turn_of_one}

-- A request that makes one call, of which it says what that was answered.
pub record Asks (moment : Moment) (head : Head) (c : Call) : Type 0 where
  pub asked : first_call moment head head.method ≡ c
  pub plain : is_put head.method ≡ false
  pub begins_none : is_begin c ≡ false

pub turned_of_one : {D T : Type 0} (devices : Devices D T) (old mid new : CoreView D T) (moment : Moment) (head : Head) (content bytes : List ℕ) (c : Call) (said : Reply)
    → Asks moment head c → Called devices old mid c [] said (λ contents. contents) → Rests devices mid new
    → (devices.told → IsSome (devices.table mid.table) → (state : State) (contents : Contents) → Stands devices old state contents
    → Gives said contents × (bytes ≡ replied_with (is_head head.method) head.closes (asset_content contents said) said))
    → Turned devices old new moment (whole head content) bytes head.closes
turned_of_one devices old mid new moment head content bytes c said asks called rests gives = record {
  stop = None;
  entries = called.entries;
  made = turn_of_one devices old mid new moment (whole head content) c said (ap (λ x. Some x) asks.asked) one called rests (λ told is state contents stands. (gives told is state contents stands).0);
  says = says;
}
  where
    one : begins (said_to c said) ≡ false
    one = ap (λ (b : Bool). b && is_begun said) asks.begins_none

    says : devices.told → IsSome (devices.table new.table) → (state : State) (contents : Contents) → Stands devices old state contents
        → IsAnswer (turn_answer contents (record { request = whole head content; stop = None; entries = called.entries })) bytes head.closes
    says told is state contents stands =
        let given = gives told (told_before devices mid new rests is) state contents stands in
        let last : last_reply called.entries ≡ said = last_of_call _ _ c said called.entries one called.made in
        let answer : turn_answer contents (record { request = whole head content; stop = None; entries = called.entries }) ≡ reply_to contents head said =
        answer_whole (with_content (last_reply called.entries) content contents) head content called.entries asks.plain
        ∙ ap (λ (r : Reply). reply_to (with_content r content contents) head r) last
        ∙ ap (λ (l : Contents). reply_to l head said) (given.0.keeps content) in
        record { bytes_are = given.1 ∙ sym (ap (λ (a : Answer). a.bytes) answer); ends_are = sym (ap (λ (a : Answer). a.ends) answer) }

-- A request with that head deletes the content of the key.
record Deletes (head : Head) (method : Method) (key : Key) : Type 0 where
  plain : is_put method ≡ false
  first : (moment : Moment) → first_call moment head method ≡ call.Delete key moment.now

deletes_by : (head : Head) (method : Method) (key : Key) → ask_of head method ≡ asks.Delete key → Deletes head method key
deletes_by head methods.Get key e = absurd (cc)
deletes_by head methods.Head key e = absurd (cc)
deletes_by head methods.Put key e = absurd (cc)
deletes_by head methods.Delete key e =
    let same : head.key ≡ key = cc in
    record { plain = refl; first = λ moment. ap (λ (k : Key). call.Delete k moment.now) same }

-- a DELETE
pub turned_deleted : {D T : Type 0} (devices : Devices D T) (old new : CoreView D T) (moment : Moment) (head : Head) (key : Key) (result : Result (Unit {0}) Refusal)
    → ask_of head head.method ≡ asks.Delete key
    → Called devices old new (call.Delete key moment.now) [] (reply_of (λ _. reply.Gone) result) (λ contents. contents)
    → TurnedTo devices old new moment (whole head []) (reply_to [] head (reply_of (λ _. reply.Gone) result))
turned_deleted devices old new moment head key result asked called =
    let by = deletes_by head head.method key asked in
    turned_of_one devices old new new moment head [] _ (call.Delete key moment.now) (reply_of (λ _. reply.Gone) result)
    (record { asked = by.first moment; plain = by.plain; begins_none = refl }) called (rests_same devices new)
    (λ told tells state contents stands. gives_none result contents)
  where
    gives_none : (result : Result (Unit {0}) Refusal) (contents : Contents)
        → Gives (reply_of (λ _. reply.Gone) result) contents
        × ((reply_to [] head (reply_of (λ _. reply.Gone) result)).bytes
        ≡ replied_with (is_head head.method) head.closes (asset_content contents (reply_of (λ _. reply.Gone) result)) (reply_of (λ _. reply.Gone) result))
    gives_none (Ok x) contents = (record { keeps = λ content. refl; served = tt }, refl)
    gives_none (Err why) contents = (record { keeps = λ content. refl; served = tt }, refl)
