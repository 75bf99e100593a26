-- Which texts are heads of requests, and what they ask for.
use Rattle.std.specs.Prelude.{◌≡◌, ℕ, ◌<◌, ◌≤◌, ◌⊎◌, Bool, true, false, ◌==◌, ◌&&◌, ◌||◌, if◌then◌else◌, List, [], length, map, Result, Ok, Err, codes, bytes_eq}
use Rattle.httparse.specs.Grammar.{RequestHead, ReadsRequest}
use Rattle.httparse.specs.Spans.{name_and_value}
use Rattle.nx_base.specs.declared.key.Key.{Key}
use Rattle.http_heads.specs.declared.method.Method.{Method}
use Rattle.http_heads.specs.declared.method.Method.TheVariants as methods
use Rattle.http_heads.specs.declared.framing.Framing.{Framing}
use Rattle.http_heads.specs.declared.head.Head.{Head}
use Rattle.http_heads.specs.declared.head_err.HeadErr.{HeadErr}
use Rattle.http_heads.specs.declared.head_err.HeadErr.TheVariants.{HeadTooLarge, TooManyHeaders, BadHead, BadMethod, BadPath, BothFramings, BadCoding, BadLength, LengthRequired, BodyTooLarge, NoMemory}
use Rattle.http_heads.specs.Cut.{head_limit, HasNoHead}
use Rattle.http_heads.specs.Fields.{Values, values_in}
use Rattle.http_heads.specs.Target.{key_of}
use Rattle.http_heads.specs.Framings.{framing_of}
use Rattle.http_heads.specs.Options.{type_of, wants_continue, any_close}

-- no head: there are more bytes than a head may have, or just as many and no empty line
abbrev pub IsTooLong : List ℕ → Type 0
IsTooLong text = (head_limit < length text) ⊎ ((length text ≡ head_limit) × HasNoHead text)

-- the text is this head and nothing more, as `httparse` reads it with room for 64 fields
pub record IsWholeHead (text : List ℕ) (head : RequestHead) : Type 0 where
  pub fits : ¬ (IsTooLong text)
  pub reads : ReadsRequest text head []
  pub room : length head.fields ≤ 64

-- the method that a word names
unfoldable pub method_of : List ℕ → Result Method HeadErr
method_of word =
    if bytes_eq word (codes "GET") then Ok methods.Get
    else if bytes_eq word (codes "HEAD") then Ok methods.Head
    else if bytes_eq word (codes "PUT") then Ok methods.Put
    else if bytes_eq word (codes "DELETE") then Ok methods.Delete
    else Err BadMethod

abbrev pub is_put : Method → Bool
is_put methods.Get = false
is_put methods.Head = false
is_put methods.Put = true
is_put methods.Delete = false

-- what a head asks for that names this method and this key, or why it is refused
abbrev pub asked_with : Method → Key → ℕ → Values → Result Framing HeadErr → Result Head HeadErr
asked_with method key minor values (Err why) = Err why
asked_with method key minor values (Ok framing) = Ok (record {
  method = method;
  key = key;
  framing = framing;
  content_type = type_of values.types;
  expects = (is_put method && minor == 1) && wants_continue values.expectations;
  closes = minor == 0 || any_close values.options;
})

abbrev pub judged : Result Method HeadErr → Result Key HeadErr → ℕ → Values → Result Head HeadErr
judged (Err why) key minor values = Err why
judged (Ok method) (Err why) minor values = Err why
judged (Ok method) (Ok key) minor values =
    asked_with method key minor values (framing_of (is_put method) minor values.lengths values.codings)

-- what a head asks for by its method, its target, its version and its fields, or the first cause for which it is refused
unfoldable pub judge : List ℕ → List ℕ → ℕ → Values → Result Head HeadErr
judge method target minor values = judged (method_of method) (key_of target) minor values

-- the same of a head of the grammar
abbrev pub judge_of : RequestHead → Result Head HeadErr
judge_of head = judge head.method head.target head.minor (values_in (map name_and_value head.fields))

-- the head is read and refused
abbrev pub IsRefusedBy : HeadErr → List ℕ → Type 0
IsRefusedBy why text = (head : RequestHead) × IsWholeHead text head × (judge_of head ≡ Err why)

-- The answer to a text. Only where it is read whole may memory run out.
abbrev pub GivesHead : List ℕ → Result Head HeadErr → Type 0
GivesHead text (Ok asked) = (head : RequestHead) × IsWholeHead text head × (judge_of head ≡ Ok asked)
GivesHead text (Err HeadTooLarge) = IsTooLong text
GivesHead text (Err TooManyHeaders) = ¬ (IsTooLong text) × ((head : RequestHead) → ReadsRequest text head [] → 64 < length head.fields)
GivesHead text (Err BadHead) = ¬ (IsTooLong text) × ((head : RequestHead) → ¬ (ReadsRequest text head []))
GivesHead text (Err BadMethod) = IsRefusedBy BadMethod text
GivesHead text (Err BadPath) = IsRefusedBy BadPath text
GivesHead text (Err BothFramings) = IsRefusedBy BothFramings text
GivesHead text (Err BadCoding) = IsRefusedBy BadCoding text
GivesHead text (Err BadLength) = IsRefusedBy BadLength text
GivesHead text (Err LengthRequired) = IsRefusedBy LengthRequired text
GivesHead text (Err BodyTooLarge) = IsRefusedBy BodyTooLarge text
GivesHead text (Err NoMemory) = (head : RequestHead) × IsWholeHead text head
