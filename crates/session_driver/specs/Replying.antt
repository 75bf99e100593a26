-- What a repository answers to the requests of a session.
use Rattle.std.specs.Prelude.{◌≡◌, true, false, Result, Ok, Err}
use Rattle.repo_model.specs.declared.reply.Reply.{Reply}
use Rattle.repo_model.specs.declared.transfer.UploadErr.{UploadErr}
use Rattle.http_heads.specs.declared.head.Head.{Head}
use Rattle.http_requests.specs.Requests.{Item}
use Rattle.http_front.specs.Asking.{IsOf}
use Rattle.http_front.specs.Answers.{Answer, preceded, begin_refused, last_refusal}
use Rattle.http_front.specs.Entries.{is_begun}
use Rattle.session_history.specs.Phases.{go_on, put_reply}
use Rattle.session_history.specs.Saying.{why_upload}

-- it is the answer to each request with that head, whatever its content is
abbrev pub AnswersEach : (Item → Answer → Type 0) → Head → Answer → Type 0
AnswersEach Is head answer = (item : Item) → IsOf head item → Is item answer

-- the answer to an upload that was begun: preceded what it was told then
abbrev pub told : Head → Answer → Answer
told head answer = preceded (go_on head).bytes answer

-- what became of the beginning of an upload: its content comes next; or this is the answer, whatever its content is
abbrev pub BeginsAs : (Item → Answer → Type 0) → Type 0 → Head → Result Reply UploadErr → Type 0
BeginsAs Is Begun head (Ok r) = (is_begun r ≡ true → Begun) × (is_begun r ≡ false → AnswersEach Is head (begin_refused head r))
BeginsAs Is Begun head (Err why) = AnswersEach Is head (last_refusal false (why_upload why))

-- what became of a part of its content: it was taken; or the upload failed, and this is the answer, whatever its content is
abbrev pub TakesAs : (Item → Answer → Type 0) → Type 0 → Head → Result (Unit {0}) UploadErr → Type 0
TakesAs Is Taken head (Ok x) = Taken
TakesAs Is Taken head (Err why) = AnswersEach Is head (told head (last_refusal false (why_upload why)))

-- what became of an upload whose content came whole: it was put, or that was refused; or it failed
abbrev pub PutsAs : (Answer → Type 0) → Head → Result Reply UploadErr → Type 0
PutsAs Is head (Ok r) = Is (told head (put_reply head r))
PutsAs Is head (Err why) = Is (told head (last_refusal false (why_upload why)))
