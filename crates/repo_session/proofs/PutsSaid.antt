-- What is said to an upload that came whole.
use Rattle.std.proofs.Common.{◌≡◌, Bool, true, List, ℕ, None, Result, Ok, Err, sym, ap, ◌∙◌}
use Rattle.nx_base.specs.declared.moment.Moment.{Moment}
use Rattle.repo_model.specs.declared.reply.Refusal.{Refusal}
use Rattle.repo_model.specs.declared.reply.Reply.{Reply}
use Rattle.http_heads.specs.declared.head.Head.{Head}
use Rattle.http_heads.specs.Head.{is_put}
use Rattle.http_heads.specs.Response.{refused_with}
use Rattle.http_requests.specs.Requests.{whole}
use Rattle.http_front.specs.Answers.{Answer, preceded, reply_to, last_reply}
use Rattle.http_front.specs.Contents.{Contents}
use Rattle.http_front.specs.Responses.{why_refused}
use Rattle.http_front.specs.Turns.{Turn, contents_after}
use Rattle.session_history.specs.Phases.{put_reply}
use Rattle.session_driver.specs.Replying.{told}
use Rattle.repo_core.specs.View.{CoreView}
use Rattle.repo_core.specs.Devices.{Devices}
use Rattle.repo_session.specs.Uploading.{before_content}
use Rattle.repo_session.specs.Answering.{TurnedTo}
use Rattle.repo_session.specs.Putting.{IsPut, IsPutReply}
use Rattle.repo_session.proofs.Sayings.{answer_put, put_is_no_head}

-- the answer of a put is that of each such reply
reply_to_put : (contents : Contents) (head : Head) (result : Result (Unit {0}) Refusal) (last said : Reply) → is_put head.method ≡ true → IsPutReply result last → IsPutReply result said
    → reply_to contents head last ≡ put_reply head said
reply_to_put contents head (Ok x) last said put (asset, is) (made, same) = ap (reply_to contents head) is ∙ sym (ap (put_reply head) same)
reply_to_put contents head (Err why) last said put is same =
    ap (reply_to contents head) is
    ∙ ap (λ (b : Bool). answer_with (refused_with b head.closes (why_refused why)) head.closes) (put_is_no_head head.method put)
    ∙ sym (ap (put_reply head) same)
  where
    answer_with : List ℕ → Bool → Answer
    answer_with bytes ends = record { bytes = bytes; ends = ends }

-- It was put, or that was refused, and this is the answer.
pub turned_put : {D T : Type 0} (devices : Devices D T) (start new : CoreView D T) (moment : Moment) (head : Head) (content : List ℕ) (result : Result (Unit {0}) Refusal) (said : Reply)
    → is_put head.method ≡ true → IsPutReply result said → IsPut devices start new moment head content result
    → TurnedTo devices start new moment (whole head content) (told head (put_reply head said))
turned_put devices start new moment head content result said put answers is = record {
  stop = None;
  entries = is.entries;
  made = is.made;
  says = λ told tells state contents stands.
      let turn : Turn = record { request = whole head content; stop = None; entries = is.entries } in
      let says = answer_put (contents_after turn contents) head content is.entries put is.begun
      ∙ ap (preceded (before_content head)) (reply_to_put (contents_after turn contents) head result (last_reply is.entries) said put is.said answers) in
      record { bytes_are = ap (λ (a : Answer). a.bytes) (sym says); ends_are = ap (λ (a : Answer). a.ends) (sym says) };
}
