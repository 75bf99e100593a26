-- One request in front of a stream, by the texts of its marks.
use Rattle.std.proofs.Common.{◌≡◌, ℕ, Bool, true, false, List, [], ◌∷◌, ◌++◌, refl, inl, inr}
use Rattle.http_heads.specs.declared.head.Head.{Head}
use Rattle.http_heads.specs.declared.head_err.HeadErr.{HeadErr}
use Rattle.http_heads.specs.declared.body_err.BodyErr.{BodyErr}
use Rattle.http_chunks.specs.Reading as readings
use Rattle.http_requests.specs.Bodies.{HoldsBody}
use Rattle.http_requests.specs.Requests as requests
use Rattle.http_requests.specs.Requests.{Item, AreRequests}
use Rattle.session_history.specs.Marks.{refused, accepted, spoiled}
use Rattle.session_history.specs.Phases.{between, inside}
use Rattle.session_history.specs.Histories.{IsTextOf}

-- a request whose content comes whole, and that doesn't close: the requests behind it follow
pub alone_request : (head : Head) (text body more whole : List ℕ) (items : List Item) (ends_inside : Bool) → IsTextOf between (accepted head) text
    → HoldsBody head.framing (body ++ more) (readings.whole whole more) → head.closes ≡ false → AreRequests more items ends_inside
    → AreRequests (text ++ (body ++ more)) (requests.whole head whole ∷ items) ends_inside
alone_request head text body more whole items ends_inside is_text holds e behind =
    (more, record { body = body ++ more; accepts = is_text (body ++ more); holds = holds }, inl (e, behind))

-- one that closes is the last
pub last_request : (head : Head) (text body more whole : List ℕ) → IsTextOf between (accepted head) text
    → HoldsBody head.framing (body ++ more) (readings.whole whole more) → head.closes ≡ true
    → AreRequests (text ++ (body ++ more)) (requests.whole head whole ∷ []) false
last_request head text body more whole is_text holds e =
    (more, record { body = body ++ more; accepts = is_text (body ++ more); holds = holds }, inr (e, refl, refl))

-- a head that is refused is the last
pub refused_request : (why : HeadErr) (bare : Bool) (text more : List ℕ) → IsTextOf between (refused why bare) text
    → AreRequests (text ++ more) (requests.refused why bare ∷ []) false
refused_request why bare text more is_text = (is_text more, refl, refl)

-- a content that is refused is that of the last
pub stopped_request : (head : Head) (why : BodyErr) (text body more part : List ℕ) → IsTextOf between (accepted head) text
    → IsTextOf (inside head) (spoiled part why) body → AreRequests (text ++ (body ++ more)) (requests.stopped head part why ∷ []) false
stopped_request head why text body more part is_text is_part =
    (record { body = body ++ more; accepts = is_text (body ++ more); holds = is_part more }, refl, refl)

-- the bytes end in a content
pub cut_request : (head : Head) (text bytes came : List ℕ) → IsTextOf between (accepted head) text → HoldsBody head.framing bytes (readings.cut came)
    → AreRequests (text ++ bytes) (requests.cut head came ∷ []) true
cut_request head text bytes came is_text holds = (record { body = bytes; accepts = is_text bytes; holds = holds }, refl, refl)
