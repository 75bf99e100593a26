-- The answer of a turn, by what its calls were answered.
use Rattle.std.proofs.Common.{◌≡◌, inl, inr, ℕ, Bool, true, false, List, [], ◌∷◌, Some, None, refl, sym, ap, ◌∙◌}
use Rattle.repo_model.specs.declared.call.Call.{Call}
use Rattle.repo_model.specs.declared.call.Call.TheVariants as call
use Rattle.repo_model.specs.declared.call.Begin.{Begin}
use Rattle.repo_model.specs.declared.entry.Entry.{Entry}
use Rattle.repo_model.specs.declared.reply.Reply.{Reply}
use Rattle.repo_model.specs.declared.reply.Reply.TheVariants as reply
use Rattle.repo_model.specs.History.{is_begin}
use Rattle.http_heads.specs.declared.head.Head.{Head}
use Rattle.http_heads.specs.declared.method.Method.{Method}
use Rattle.http_heads.specs.declared.method.Method.TheVariants as methods
use Rattle.http_heads.specs.declared.body_err.BodyErr.{BodyErr}
use Rattle.http_heads.specs.Head.{is_put}
use Rattle.http_heads.specs.Response.{why_body}
use Rattle.http_requests.specs.Requests.{Item, refused, whole, stopped, cut}
use Rattle.http_front.specs.declared.stop.Stop.{Stop}
use Rattle.http_front.specs.Asking.{is_head, IsOf}
use Rattle.http_front.specs.Contents.{Contents}
use Rattle.http_front.specs.Responses.{why_stopped}
use Rattle.http_front.specs.Answers.{preceded, last_refusal, last_reply, first_reply, has_begun, reply_to, begin_refused, continued, silence, response_of}
use Rattle.repo_session.specs.Leads.{IsEntryOf}
use Rattle.repo_session.specs.Uploading.{before_content}
use Rattle.repo_session.proofs.Makings.{said_to}

-- the last reply of the entries of one call that begins nothing is its answer
pub last_of_one : (room number : ℕ) (c : Call) (said : Reply) (entries : List Entry) → is_begin c ≡ false → IsEntryOf room number c said entries → last_reply entries ≡ said
last_of_one room number c said entries e (inl (fits, is)) = ap last_reply is ∙ rw e refl
last_of_one room number c said entries e (inr (at_end, is, says)) = ap last_reply is ∙ sym says

-- the same preceded the beginning of an upload
pub last_of_two : (room number : ℕ) (b : Begin) (store : List ℕ) (c : Call) (said : Reply) (entries : List Entry) → is_begin c ≡ false → IsEntryOf room number c said entries
    → last_reply (said_to (call.Begin b) (reply.Begun store) ∷ entries) ≡ said
last_of_two room number b store c said entries e (inl (fits, is)) = ap (λ (l : List Entry). last_reply (said_to (call.Begin b) (reply.Begun store) ∷ l)) is ∙ rw e refl
last_of_two room number b store c said entries e (inr (at_end, is, says)) = ap (λ (l : List Entry). last_reply (said_to (call.Begin b) (reply.Begun store) ∷ l)) is ∙ sym says

-- of another request than an upload
pub answer_whole : (contents : Contents) (head : Head) (content : List ℕ) (entries : List Entry) → is_put head.method ≡ false
    → response_of contents (whole head content) None entries ≡ reply_to contents head (last_reply entries)
unfolding response_of
answer_whole contents head content entries e = rw e refl

-- an upload is no HEAD
pub put_is_no_head : (method : Method) → is_put method ≡ true → is_head method ≡ false
put_is_no_head methods.Get e = refl
put_is_no_head methods.Head e = absurd (cc)
put_is_no_head methods.Put e = refl
put_is_no_head methods.Delete e = refl

-- of an upload whose beginning was refused, whatever its content is
pub answer_denied : (contents : Contents) (head : Head) (item : Item) (entries : List Entry) → IsOf head item → is_put head.method ≡ true → has_begun entries ≡ false
    → response_of contents item None entries ≡ begin_refused head (first_reply entries)
unfolding response_of
answer_denied contents head (refused why bare) entries of e h = absurd of
answer_denied contents head (whole asked content) entries of e h =
    let p : is_put asked.method ≡ true = ap (λ (x : Head). is_put x.method) of ∙ e in
    rw (p, h) (ap (λ (x : Head). begin_refused x (first_reply entries)) of)
answer_denied contents head (stopped asked content why) entries of e h = rw h (ap (λ (x : Head). begin_refused x (first_reply entries)) of)
answer_denied contents head (cut asked content) entries of e h = rw h (ap (λ (x : Head). begin_refused x (first_reply entries)) of)

-- what was said before
pub said_before_content : (head : Head) (entries : List Entry) → is_put head.method ≡ true → has_begun entries ≡ true → continued head entries ≡ before_content head
said_before_content head entries e h = rw (e, h) refl

-- of an upload that was stopped, whatever its content is
pub answer_stop : (contents : Contents) (head : Head) (item : Item) (stop : Stop) (entries : List Entry) → IsOf head item → is_put head.method ≡ true → has_begun entries ≡ true
    → response_of contents item (Some stop) entries ≡ preceded (before_content head) (last_refusal false (why_stopped stop))
unfolding response_of
answer_stop contents head (refused why bare) stop entries of e h = absurd of
answer_stop contents head (whole asked content) stop entries of e h =
    ap (λ (x : Head). preceded (continued x entries) (last_refusal (is_head x.method) (why_stopped stop))) of
    ∙ ap (λ (b : Bool). preceded (continued head entries) (last_refusal b (why_stopped stop))) (put_is_no_head head.method e)
    ∙ ap (λ (l : List ℕ). preceded l (last_refusal false (why_stopped stop))) (said_before_content head entries e h)
answer_stop contents head (stopped asked content why) stop entries of e h =
    ap (λ (x : Head). preceded (continued x entries) (last_refusal (is_head x.method) (why_stopped stop))) of
    ∙ ap (λ (b : Bool). preceded (continued head entries) (last_refusal b (why_stopped stop))) (put_is_no_head head.method e)
    ∙ ap (λ (l : List ℕ). preceded l (last_refusal false (why_stopped stop))) (said_before_content head entries e h)
answer_stop contents head (cut asked content) stop entries of e h =
    ap (λ (x : Head). preceded (continued x entries) (last_refusal (is_head x.method) (why_stopped stop))) of
    ∙ ap (λ (b : Bool). preceded (continued head entries) (last_refusal b (why_stopped stop))) (put_is_no_head head.method e)
    ∙ ap (λ (l : List ℕ). preceded l (last_refusal false (why_stopped stop))) (said_before_content head entries e h)

nothing_before : (asked head : Head) (stop : Stop) → asked ≡ head → is_put head.method ≡ true
    → preceded (continued asked []) (last_refusal (is_head asked.method) (why_stopped stop)) ≡ last_refusal false (why_stopped stop)
nothing_before asked head stop of e =
    let p : is_put asked.method ≡ true = ap (λ (x : Head). is_put x.method) of ∙ e in
    rw (p, put_is_no_head asked.method p) refl

-- of one that was stopped before any call
pub answer_stop_first : (contents : Contents) (head : Head) (item : Item) (stop : Stop) → IsOf head item → is_put head.method ≡ true
    → response_of contents item (Some stop) [] ≡ last_refusal false (why_stopped stop)
unfolding response_of
answer_stop_first contents head (refused why bare) stop of e = absurd of
answer_stop_first contents head (whole asked content) stop of e = nothing_before asked head stop of e
answer_stop_first contents head (stopped asked content why) stop of e = nothing_before asked head stop of e
answer_stop_first contents head (cut asked content) stop of e = nothing_before asked head stop of e

-- of one whose content was refused
pub answer_stopped : (contents : Contents) (head : Head) (content : List ℕ) (why : BodyErr) (entries : List Entry) → is_put head.method ≡ true → has_begun entries ≡ true
    → response_of contents (stopped head content why) None entries ≡ preceded (before_content head) (last_refusal false (why_body why))
unfolding response_of
answer_stopped contents head content why entries e h = rw (h, e, put_is_no_head head.method e) refl

-- of one that was cut
pub answer_cut : (contents : Contents) (head : Head) (content : List ℕ) (entries : List Entry) → is_put head.method ≡ true → has_begun entries ≡ true
    → response_of contents (cut head content) None entries ≡ preceded (before_content head) silence
unfolding response_of
answer_cut contents head content entries e h = rw (h, e) refl

-- of one that came whole
pub answer_put : (contents : Contents) (head : Head) (content : List ℕ) (entries : List Entry) → is_put head.method ≡ true → has_begun entries ≡ true
    → response_of contents (whole head content) None entries ≡ preceded (before_content head) (reply_to contents head (last_reply entries))
unfolding response_of
answer_put contents head content entries e h = rw (e, h) refl
