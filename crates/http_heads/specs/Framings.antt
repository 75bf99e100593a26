-- How the content behind a head is framed (RFC 9112, section 6, in this project's own profile).
use Rattle.std.specs.Prelude.{ℕ, ◌==◌, ◌&&◌, Bool, nat_le, if◌then◌else◌, List, [], ◌∷◌, Option, Some, None, Result, Ok, Err, codes}
use Rattle.http_heads.specs.declared.framing.Framing.{Framing}
use Rattle.http_heads.specs.declared.framing.Framing.TheVariants as framings
use Rattle.http_heads.specs.declared.head_err.HeadErr.{HeadErr}
use Rattle.http_heads.specs.declared.head_err.HeadErr.TheVariants.{BothFramings, BadCoding, BadLength, LengthRequired, BodyTooLarge}
use Rattle.http_heads.specs.Fields.{same_word, decimal_of}

-- the most bytes of a content (this project's own)
abbrev pub content_limit : ℕ
content_limit = 1073741824

-- one coding: `chunked`, of a PUT in HTTP/1.1
abbrev pub coded : Bool → ℕ → List ℕ → Result Framing HeadErr
coded put minor coding =
    if minor == 1 && same_word coding (codes "chunked") then (if put then Ok framings.Chunked else Err BadLength) else Err BadCoding

-- one length: any of a PUT, within the limit, and 0 of the other methods
abbrev pub sized : Bool → Option ℕ → Result Framing HeadErr
sized put None = Err BadLength
sized put (Some n) =
    if put then (if nat_le n content_limit then Ok (framings.Length n) else Err BodyTooLarge)
    else (if n == 0 then Ok (framings.Length n) else Err BadLength)

-- neither
abbrev pub unframed : Bool → Result Framing HeadErr
unframed put = if put then Err LengthRequired else Ok framings.None

-- the framing, or why there is none, by the version, the values of Content-Length and those of Transfer-Encoding
unfoldable pub framing_of : Bool → ℕ → List (List ℕ) → List (List ℕ) → Result Framing HeadErr
framing_of put minor [] [] = unframed put
framing_of put minor [] (coding ∷ []) = coded put minor coding
framing_of put minor [] (coding ∷ other ∷ more) = Err BadCoding
framing_of put minor (text ∷ []) [] = sized put (decimal_of text)
framing_of put minor (text ∷ other ∷ more) [] = Err BadLength
framing_of put minor (text ∷ texts) (coding ∷ codings) = Err BothFramings
