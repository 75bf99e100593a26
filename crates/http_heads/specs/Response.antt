-- The bytes of a response (RFC 9112, sections 4 to 6), and how each refusal is answered.
use Rattle.std.specs.Prelude.{ℕ, ◌==◌, Bool, if◌then◌else◌, List, [], ◌∷◌, ◌++◌, length, Option, Some, None, codes}
use Rattle.std.specs.Fmt.{decimal}
use Rattle.httparse.specs.Ascii.{crlf_bytes}
use Rattle.http_heads.specs.declared.head_err.HeadErr.{HeadErr}
use Rattle.http_heads.specs.declared.head_err.HeadErr.TheVariants as heads
use Rattle.http_heads.specs.declared.body_err.BodyErr.{BodyErr}
use Rattle.http_heads.specs.declared.body_err.BodyErr.TheVariants as bodies

abbrev pub line : List ℕ → List ℕ
line text = text ++ crlf_bytes

-- the reason of each status that is used
abbrev pub reason : ℕ → List ℕ
reason status =
    if status == 100 then codes "Continue"
    else if status == 200 then codes "OK"
    else if status == 201 then codes "Created"
    else if status == 204 then codes "No Content"
    else if status == 400 then codes "Bad Request"
    else if status == 404 then codes "Not Found"
    else if status == 405 then codes "Method Not Allowed"
    else if status == 409 then codes "Conflict"
    else if status == 411 then codes "Length Required"
    else if status == 413 then codes "Content Too Large"
    else if status == 431 then codes "Request Header Fields Too Large"
    else if status == 500 then codes "Internal Server Error"
    else if status == 502 then codes "Bad Gateway"
    else if status == 503 then codes "Service Unavailable"
    else if status == 507 then codes "Insufficient Storage"
    else []

unfoldable pub status_line : ℕ → List ℕ
status_line status = line (codes "HTTP/1.1 " ++ decimal status ++ codes " " ++ reason status)

abbrev pub type_line : Option (List ℕ) → List ℕ
type_line None = []
type_line (Some content_type) = line (codes "Content-Type: " ++ content_type)

abbrev pub length_line : Option ℕ → List ℕ
length_line None = []
length_line (Some n) = line (codes "Content-Length: " ++ decimal n)

-- what a method that isn't allowed is answered
abbrev pub allow_line : ℕ → List ℕ
allow_line status = if status == 405 then line (codes "Allow: GET, HEAD, PUT, DELETE") else []

abbrev pub close_line : Bool → List ℕ
close_line closes = if closes then line (codes "Connection: close") else []

-- the head of a response: its status, the type and the length of its body, and whether the session ends after it
abbrev pub head_of : ℕ → Option (List ℕ) → Option ℕ → Bool → List ℕ
head_of status content_type size closes =
    status_line status ++ type_line content_type ++ length_line size ++ allow_line status ++ close_line closes ++ crlf_bytes

-- a refusal: its status, and its word with its values
pub record Why : Type 0 where
  pub status : ℕ
  pub words : List ℕ

abbrev pub why : ℕ → List ℕ → Why
why status words = record { status = status; words = words }

-- how a refused head is answered
abbrev pub why_head : HeadErr → Why
why_head heads.HeadTooLarge = why 431 (codes "HeadTooLarge")
why_head heads.TooManyHeaders = why 431 (codes "TooManyHeaders")
why_head heads.BadHead = why 400 (codes "BadHead")
why_head heads.BadMethod = why 405 (codes "BadMethod")
why_head heads.BadPath = why 400 (codes "BadPath")
why_head heads.BothFramings = why 400 (codes "BothFramings")
why_head heads.BadCoding = why 400 (codes "BadCoding")
why_head heads.BadLength = why 400 (codes "BadLength")
why_head heads.LengthRequired = why 411 (codes "LengthRequired")
why_head heads.BodyTooLarge = why 413 (codes "BodyTooLarge")
why_head heads.NoMemory = why 507 (codes "NoMemory")

-- how a refused content is answered
abbrev pub why_body : BodyErr → Why
why_body (bodies.BadChunk at) = why 400 (codes "BadChunk " ++ decimal at)
why_body bodies.BodyTooLarge = why 413 (codes "BodyTooLarge")

abbrev pub plain_text : List ℕ
plain_text = codes "text/plain"

-- the body of a refusal
abbrev pub refusal_body : Why → List ℕ
refusal_body refusal = refusal.words ++ 10 ∷ []

-- the response of a refusal, without its body where a head alone was asked for
abbrev pub refused_with : Bool → Bool → Why → List ℕ
refused_with bare closes refusal =
    head_of refusal.status (Some plain_text) (Some (length (refusal_body refusal))) closes
    ++ (if bare then [] else refusal_body refusal)
