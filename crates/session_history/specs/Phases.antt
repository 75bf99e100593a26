-- Where a session stands after its marks, and what it says at each of them.
use Rattle.std.specs.Prelude.{ℕ, Bool, true, false, if◌then◌else◌, List, [], ◌∷◌, ◌++◌}
use Rattle.repo_model.specs.declared.reply.Reply.{Reply}
use Rattle.repo_model.specs.declared.reply.Reply.TheVariants as reply
use Rattle.http_heads.specs.declared.head.Head.{Head}
use Rattle.http_heads.specs.Head.{is_put}
use Rattle.http_heads.specs.Response.{why_head, why_body}
use Rattle.http_front.specs.Asking.{is_head}
use Rattle.http_front.specs.Entries.{is_begun}
use Rattle.http_front.specs.Answers.{Answer, last_refusal, reply_to, begin_refused}
use Rattle.http_front.specs.Responses.{replied_with, continue}
use Rattle.session_history.specs.Marks.{Mark, refused, accepted, content, spoiled, replied, failed, broke}
use Rattle.session_history.specs.Saying.{why_upload}

-- Between requests; the repository was asked for a content or to delete one; it was asked to begin an upload; its content is read;
-- the repository was asked to put it; the session has ended.
pub data Phase : Type 0 where
  between : Phase
  asked : Head → Phase
  beginning : Head → Phase
  inside : Head → Phase
  putting : Head → Phase
  over : Phase

-- nothing is said, and the session goes on
abbrev pub quiet : Answer
quiet = record { bytes = []; ends = false }

-- an upload was begun: where the request waits for it, `100 Continue`
abbrev pub go_on : Head → Answer
go_on head = record { bytes = if head.expects then continue else []; ends = false }

-- the response of the reply to a put
abbrev pub put_reply : Head → Reply → Answer
put_reply head r = record { bytes = replied_with false head.closes [] r; ends = head.closes }

-- What is said at a mark, and whether the session ends after it. Of the response to a GET it is the head: the content is said by
-- whoever has it.
abbrev pub answer_at : Phase → Mark → Answer
answer_at between (refused why bare) = last_refusal bare (why_head why)
answer_at (asked head) (replied r) = reply_to [] head r
answer_at (asked head) (failed why) = last_refusal (is_head head.method) (why_upload why)
answer_at (beginning head) (replied r) = if is_begun r then go_on head else begin_refused head r
answer_at (beginning head) (failed why) = last_refusal false (why_upload why)
answer_at (inside head) (spoiled bytes why) = last_refusal false (why_body why)
answer_at (inside head) (broke why) = last_refusal false (why_upload why)
answer_at (putting head) (replied r) = put_reply head r
answer_at (putting head) (failed why) = last_refusal false (why_upload why)
answer_at phase mark = quiet

-- behind an answer the session ends, or stands between requests
abbrev pub behind : Answer → Phase
behind answer = if answer.ends then over else between

-- where the session stands after a mark
abbrev pub after : Phase → Mark → Phase
after between (accepted head) = if is_put head.method then beginning head else asked head
after (beginning head) (replied r) = if is_begun r then inside head else behind (begin_refused head r)
after (inside head) (content bytes) = putting head
after phase mark = behind (answer_at phase mark)

-- after several, one after another
abbrev pub after_all : Phase → List Mark → Phase
after_all phase [] = phase
after_all phase (mark ∷ marks) = after_all (after phase mark) marks

-- what is said at marks, one after another
abbrev pub said_in : Phase → List Mark → List ℕ
said_in phase [] = []
said_in phase (mark ∷ marks) = (answer_at phase mark).bytes ++ said_in (after phase mark) marks
