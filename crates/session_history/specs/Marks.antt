-- What happens in a session, as marks: each is something that came, or an answer that the session was given.
use Rattle.std.specs.Prelude.{ℕ, Bool, true, false, List}
use Rattle.std.specs.List.{filter}
use Rattle.repo_model.specs.declared.reply.Reply.{Reply}
use Rattle.repo_model.specs.declared.transfer.UploadErr.{UploadErr}
use Rattle.http_heads.specs.declared.head.Head.{Head}
use Rattle.http_heads.specs.declared.head_err.HeadErr.{HeadErr}
use Rattle.http_heads.specs.declared.body_err.BodyErr.{BodyErr}
use Rattle.http_requests.specs.Heads.{merged_cause}

-- A head that is refused, whose bytes begin with `HEAD ` or not; a head that is accepted; a content that came whole; one that is
-- refused behind so much of it. And the answers: a reply of the repository; a failure in the place of a reply; a failure of an
-- upload while its content comes.
pub data Mark : Type 0 where
  refused : HeadErr → Bool → Mark
  accepted : Head → Mark
  content : List ℕ → Mark
  spoiled : List ℕ → BodyErr → Mark
  replied : Reply → Mark
  failed : UploadErr → Mark
  broke : UploadErr → Mark

-- whether the session was given it
abbrev pub is_answer : Mark → Bool
is_answer (refused why bare) = false
is_answer (accepted head) = false
is_answer (content bytes) = false
is_answer (spoiled bytes why) = false
is_answer (replied reply) = true
is_answer (failed why) = true
is_answer (broke why) = true

-- the answers among marks
abbrev pub answers_in : List Mark → List Mark
answers_in marks = filter is_answer marks

-- the mark, with one name for the two causes of a head that is none
abbrev pub merged_mark : Mark → Mark
merged_mark (refused why bare) = refused (merged_cause why) bare
merged_mark (accepted head) = accepted head
merged_mark (content bytes) = content bytes
merged_mark (spoiled bytes why) = spoiled bytes why
merged_mark (replied reply) = replied reply
merged_mark (failed why) = failed why
merged_mark (broke why) = broke why
