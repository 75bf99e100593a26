-- What a head says of its content's type, of waiting and of the connection (RFC 9110, sections 7.6.1, 8.3 and 10.1.1).
use Rattle.std.specs.Prelude.{ℕ, ◌==◌, Bool, false, List, [], ◌∷◌, codes, unwrap_or}
use Rattle.std.specs.List.{list_any, slice_split}
use Rattle.std.specs.Result.{result_ok}
use Rattle.httparse.specs.Grammar.{trim_ows}
use Rattle.nx_base.specs.ContentTypes.{content_type_of}
use Rattle.http_heads.specs.Fields.{same_word}

-- the media type where a request names none
abbrev pub octets : List ℕ
octets = codes "application/octet-stream"

-- the media type of a content, by the values of Content-Type: the first one, where it is one
unfoldable pub type_of : List (List ℕ) → List ℕ
type_of [] = octets
type_of (text ∷ others) = unwrap_or (result_ok (content_type_of text)) octets

-- whether the first value of Expect is `100-continue`
unfoldable pub wants_continue : List (List ℕ) → Bool
wants_continue [] = false
wants_continue (text ∷ others) = same_word text (codes "100-continue")

abbrev pub comma : ℕ
comma = 44

-- whether a value of Connection has the member `close` between commas
unfoldable pub has_close : List ℕ → Bool
has_close value = list_any (λ member. same_word (trim_ows member) (codes "close")) (slice_split (λ b. b == comma) value)

-- whether one of the values has it
abbrev pub any_close : List (List ℕ) → Bool
any_close values = list_any has_close values
