-- From what `httparse` reads to the answer.
use Rattle.std.proofs.Common.{◌≡◌, ℕ, ◌-◌, ◌≤◌, List, [], length, get_or, drop, map, Result, Ok, Err, All, refl, sym, ap, subst, ◌∙◌, arith, inl, inr, codes}
use Rattle.std.specs.List.{slice_range}
use Rattle.std.proofs.lemmas.Bool.{cases_lt}
use Rattle.std.proofs.lemmas.List.{length-take, length-drop, length-map, get_or-map}
use Rattle.httparse.specs.declared.spans.HeaderSpan.{HeaderSpan}
use Rattle.httparse.specs.Grammar as grammar
use Rattle.httparse.specs.Grammar.{Field, IsField, RequestHead, trim_ows}
use Rattle.httparse.specs.Spans.{header_bytes, name_and_value}
use Rattle.httparse.proofs.TrimLemmas.{AllPass-trim_ows}
use Rattle.http_header.specs.Token as token
use Rattle.http_header.specs.FieldValue.{FieldValue}
use Rattle.http_header.specs.HeaderMap.{Entries}
use Rattle.http_heads.specs.declared.head.Head.{Head}
use Rattle.http_heads.specs.declared.head_err.HeadErr.{HeadErr}
use Rattle.http_heads.specs.declared.head_err.HeadErr.TheVariants.{HeadTooLarge, TooManyHeaders, BadHead, BadMethod, BadPath, BothFramings, BadCoding, BadLength, LengthRequired, BodyTooLarge, NoMemory}
use Rattle.http_heads.specs.Cut.{head_limit}
use Rattle.http_heads.specs.Fields.{Pair, Values, values_in}
use Rattle.http_heads.specs.Kept.{values_kept, IsKeepable, KeepsFields}
use Rattle.http_heads.specs.Gives.{GivesOr}
use Rattle.http_heads.specs.Head.{IsTooLong, IsWholeHead, judge_of, GivesHead}
use Rattle.http_heads.specs.Found.{HasAnswer}
use Rattle.http_heads.specs.Parse.{GivesParse}
use Rattle.http_heads.specs.declared.parse.Parse.{Parse}
use Rattle.http_heads.specs.declared.parse.Parse.TheVariants as parses
use Rattle.http_heads.proofs.JudgeLemmas.{OnlyJudges, judge_judges}

-- the answer to a text that was read whole
pub gives_head : (text : List ℕ) (head : RequestHead) (result : Result Head HeadErr) → IsWholeHead text head → GivesOr (judge_of head) result → GivesHead text result
gives_head text head (Ok asked) whole (inl e) = absurd cc
gives_head text head (Ok asked) whole (inr e) = (head, whole, sym e)
gives_head text head (Err HeadTooLarge) whole (inl e) = absurd cc
gives_head text head (Err HeadTooLarge) whole (inr e) = absurd (subst OnlyJudges (sym e) (judge_judges head.method head.target head.minor (values_in (map name_and_value head.fields))))
gives_head text head (Err TooManyHeaders) whole (inl e) = absurd cc
gives_head text head (Err TooManyHeaders) whole (inr e) = absurd (subst OnlyJudges (sym e) (judge_judges head.method head.target head.minor (values_in (map name_and_value head.fields))))
gives_head text head (Err BadHead) whole (inl e) = absurd cc
gives_head text head (Err BadHead) whole (inr e) = absurd (subst OnlyJudges (sym e) (judge_judges head.method head.target head.minor (values_in (map name_and_value head.fields))))
gives_head text head (Err BadMethod) whole (inl e) = absurd cc
gives_head text head (Err BadMethod) whole (inr e) = (head, whole, sym e)
gives_head text head (Err BadPath) whole (inl e) = absurd cc
gives_head text head (Err BadPath) whole (inr e) = (head, whole, sym e)
gives_head text head (Err BothFramings) whole (inl e) = absurd cc
gives_head text head (Err BothFramings) whole (inr e) = (head, whole, sym e)
gives_head text head (Err BadCoding) whole (inl e) = absurd cc
gives_head text head (Err BadCoding) whole (inr e) = (head, whole, sym e)
gives_head text head (Err BadLength) whole (inl e) = absurd cc
gives_head text head (Err BadLength) whole (inr e) = (head, whole, sym e)
gives_head text head (Err LengthRequired) whole (inl e) = absurd cc
gives_head text head (Err LengthRequired) whole (inr e) = (head, whole, sym e)
gives_head text head (Err BodyTooLarge) whole (inl e) = absurd cc
gives_head text head (Err BodyTooLarge) whole (inr e) = (head, whole, sym e)
gives_head text head (Err NoMemory) whole given = (head, whole)

-- the values of the five names, from the map and from the fields
pub values_same : (kept : Entries FieldValue) (fields : List Pair) → KeepsFields kept fields → values_kept kept ≡ values_in fields
values_same kept fields keeps =
    let made : List (List ℕ) → List (List ℕ) → List (List ℕ) → List (List ℕ) → List (List ℕ) → Values =
    λ a b c d e. record { lengths = a; codings = b; types = c; expectations = d; options = e } in
    let k = values_kept kept in
    let f = values_in fields in
    ap (λ (a : List (List ℕ)). made a k.codings k.types k.expectations k.options) (keeps (codes "content-length") refl)
    ∙ ap (λ (b : List (List ℕ)). made f.lengths b k.types k.expectations k.options) (keeps (codes "transfer-encoding") refl)
    ∙ ap (λ (c : List (List ℕ)). made f.lengths f.codings c k.expectations k.options) (keeps (codes "content-type") refl)
    ∙ ap (λ (d : List (List ℕ)). made f.lengths f.codings f.types d k.options) (keeps (codes "expect") refl)
    ∙ ap (λ (e : List (List ℕ)). made f.lengths f.codings f.types f.expectations e) (keeps (codes "connection") refl)

-- ---- each field that is read can be kept

name_token : (name : List ℕ) → grammar.IsToken name → token.IsToken name
unfolding grammar.is_token_byte token.is_token_byte
name_token name t = t

length-span : (text : List ℕ) (start end : ℕ) → length (slice_range text start end) ≤ length text
length-span text start end = omega (arith, length-take (end - start) (drop start text), length-drop start text)

pub short_text : (text : List ℕ) → (IsTooLong text → ⊥) → length text ≤ 16384
unfolding head_limit
short_text text fits = elim (cases_lt 16384 (length text)) [ inl long ↦ absurd (fits (inl long)) | inr le ↦ le ]

nothing : Field
nothing = record { name = []; raw = []; end = grammar.lf }

pub all_keepable : (text : List ℕ) (spans : List HeaderSpan) (fields : List Field) → length text ≤ 16384 → map (header_bytes text) spans ≡ map name_and_value fields → All IsField fields
    → All (λ span. IsKeepable (header_bytes text span)) spans
all_keepable text spans fields short same valid k d lt =
    let none : Pair = ([], []) in
    let count : length spans ≡ length fields = omega (arith, sym (length-map spans (header_bytes text)), ap (λ (ps : List Pair). length ps) same, length-map fields name_and_value) in
    let field : Field = get_or fields k nothing in
    let is : header_bytes text (get_or spans k d) ≡ name_and_value field =
    sym (get_or-map (header_bytes text) spans k d none lt) ∙ ap (λ (ps : List Pair). get_or ps k none) same ∙ get_or-map name_and_value fields k nothing none (omega arith) in
    let ok : IsField field = valid k nothing (omega arith) in
    let long : length (header_bytes text (get_or spans k d)).0 ≤ 65535 = omega (arith, length-span text (get_or spans k d).name.start (get_or spans k d).name.end) in
    let name : length field.name ≤ 65535 = omega (arith, long, ap (λ (p : Pair). length p.0) is) in
    subst IsKeepable (sym is) ((name_token field.name ok.name, name), AllPass-trim_ows grammar.is_value_byte field.raw ok.raw)

-- ---- each text has an answer

pub some_answer : (text : List ℕ) (fields : List HeaderSpan) (parse : Parse) → (IsTooLong text → ⊥) → GivesParse text 64 fields parse → HasAnswer text
some_answer text fields (parses.Whole spans) fits (within, head, found, reads, room) =
    let values = values_in (map name_and_value head.fields) in
    let only : OnlyJudges (judge_of head) = judge_judges head.method head.target head.minor values in (
      judge_of head,
      gives_head text head (judge_of head) (record { fits = fits; reads = reads; room = room }) (inr refl),
      λ e. subst OnlyJudges e only,
    )
some_answer text fields parses.TooManyHeaders fits more = (Err TooManyHeaders, (fits, more), λ e. absurd cc)
some_answer text fields parses.BadHead fits none = (Err BadHead, (fits, none), λ e. absurd cc)

pub too_long_answer : (text : List ℕ) → IsTooLong text → HasAnswer text
too_long_answer text long = (Err HeadTooLarge, long, λ e. absurd cc)
