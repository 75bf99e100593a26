-- The marks that a stream of bytes makes, with the answers that the session was given.
use Rattle.std.specs.Prelude.{◌≡◌, ℕ, Bool, List, [], ◌∷◌, ◌++◌, map}
use Rattle.http_heads.specs.Cut.{drop_blank}
use Rattle.http_chunks.specs.Reading as readings
use Rattle.http_requests.specs.Heads.{Accepts, IsRefused}
use Rattle.http_requests.specs.Bodies.{HoldsBody}
use Rattle.http_requests.specs.Requests.{AreRequests, stop_of}
use Rattle.session_history.specs.Marks.{Mark, refused, accepted, content, spoiled, replied, failed, broke, answers_in, merged_mark}
use Rattle.session_history.specs.Phases.{Phase, between, asked, beginning, inside, putting, over, after, after_all}

-- The text is that of the mark, whatever follows it. An answer has no text; where an upload broke, what was read of its content.
abbrev pub IsTextOf : Phase → Mark → List ℕ → Type 0
IsTextOf between (accepted head) text = (more : List ℕ) → Accepts (drop_blank (text ++ more)) head more
IsTextOf between (refused why bare) text = (more : List ℕ) → IsRefused (drop_blank (text ++ more)) why bare
IsTextOf (asked head) (replied r) text = text ≡ []
IsTextOf (asked head) (failed why) text = text ≡ []
IsTextOf (beginning head) (replied r) text = text ≡ []
IsTextOf (beginning head) (failed why) text = text ≡ []
IsTextOf (inside head) (content bytes) text = (more : List ℕ) → HoldsBody head.framing (text ++ more) (readings.whole bytes more)
IsTextOf (inside head) (spoiled bytes why) text = (more : List ℕ) → HoldsBody head.framing (text ++ more) (stop_of bytes why)
IsTextOf (inside head) (broke why) text = Unit {0}
IsTextOf (putting head) (replied r) text = text ≡ []
IsTextOf (putting head) (failed why) text = text ≡ []
IsTextOf phase mark text = ⊥

-- the text is that of the marks, one after another
abbrev pub Spans : Phase → List Mark → List ℕ → Type 0
Spans phase [] text = text ≡ []
Spans phase (mark ∷ marks) text =
    (prefix : List ℕ) × (rest : List ℕ) × (text ≡ prefix ++ rest) × IsTextOf phase mark prefix × Spans (after phase mark) marks rest

-- Nothing comes next of the bytes: no head stands in them, or the content isn't whole, of which so much came. In the other phases an
-- answer comes next, or nothing.
abbrev pub HasNoNext : Phase → List ℕ → List ℕ → Type 0
HasNoNext between bytes came = ((ends_inside : Bool) × AreRequests bytes [] ends_inside) × (came ≡ [])
HasNoNext (inside head) bytes came = HoldsBody head.framing bytes (readings.cut came)
HasNoNext (asked head) bytes came = came ≡ []
HasNoNext (beginning head) bytes came = came ≡ []
HasNoNext (putting head) bytes came = came ≡ []
HasNoNext over bytes came = came ≡ []

-- The bytes make these marks, and no more without more bytes or an answer. Of a content that isn't whole so much came.
pub record IsHistory (bytes : List ℕ) (marks : List Mark) (came : List ℕ) : Type 0 where
  pub text : List ℕ
  pub rest : List ℕ
  pub parts : bytes ≡ text ++ rest
  pub spans : Spans between marks text
  pub rests : HasNoNext (after_all between marks) rest came

-- The same bytes and the same answers make the same marks, but for the choice between the two causes of a head that is none, and of
-- a content that isn't whole the same came.
abbrev pub OneHistory : Type 0
OneHistory =
    (bytes : List ℕ) (marks others : List Mark) (came other : List ℕ) → IsHistory bytes marks came → IsHistory bytes others other
    → answers_in marks ≡ answers_in others → (map merged_mark marks ≡ map merged_mark others) × (came ≡ other)
