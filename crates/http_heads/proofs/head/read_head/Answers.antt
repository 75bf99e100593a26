use Rattle.std.proofs.Common.{◌≡◌, ◌∙◌, ℕ, List, Result, take, map, ap, subst}
use Rattle.httparse.specs.Grammar.{RequestHead}
use Rattle.httparse.specs.Spans.{name_and_value}
use Rattle.http_heads.specs.declared.head.Head.{Head}
use Rattle.http_heads.specs.declared.head_err.HeadErr.{HeadErr}
use Rattle.std.proofs.lemmas.Bool.{false≢true}
use Rattle.http_heads.specs.Fields.{Pair, Values, values_in}
use Rattle.http_heads.specs.Kept.{values_kept, KeepsFields}
use Rattle.http_heads.specs.Gives.{GivesOr}
use Rattle.http_heads.specs.Head.{IsTooLong, IsWholeHead, judge, judge_of}
use Rattle.http_heads.proofs.ReadLemmas.{short_text, all_keepable, values_same, gives_head}
use Rattle.http_heads.proofs.head.read_head.Goals as goal

pub keep-requires-clause-keepable : goal.keep-requires-clause-keepable
keep-requires-clause-keepable c =
    let found = c.in-Whole.ensures in
    let fits : IsTooLong c.args.text.now → ⊥ = λ long. false≢true (c.if-is_too_long.ensures.1 long) in
    all_keepable c.args.text.now (take c.in-Whole.spans.headers c.parse_head.new.fields) found.1.fields (short_text c.args.text.now fits) found.2.fields found.2.reads.0.fields

pub returns : goal.returns
returns c =
    let text = c.args.text.now in
    let found = c.in-Whole.ensures in
    let head : RequestHead = found.1 in
    let values = values_kept c.in_ok-kept.kept in
    let whole : IsWholeHead text head = record { fits = λ long. false≢true (c.if-is_too_long.ensures.1 long); reads = found.3; room = found.4 } in
    let kept : values ≡ values_in (map name_and_value head.fields) =
    values_same c.in_ok-kept.kept (map name_and_value head.fields) (subst (λ (fs : List Pair). KeepsFields c.in_ok-kept.kept fs) found.2.fields c.in_ok-kept.ensures) in
    let same : judge c.of.result.now c.of-2.result.now c.in-Whole.spans.version values ≡ judge_of head =
    ap (λ (w : List ℕ). judge w c.of-2.result.now c.in-Whole.spans.version values) (c.of.ensures ∙ found.2.method)
    ∙ ap (λ (t : List ℕ). judge head.method t c.in-Whole.spans.version values) (c.of-2.ensures ∙ found.2.path)
    ∙ ap (λ (n : ℕ). judge head.method head.target n values) found.2.version
    ∙ ap (λ (v : Values). judge head.method head.target head.minor v) kept in
    gives_head text head c.judge.result whole (subst (λ (r : Result Head HeadErr). GivesOr r c.judge.result) same c.judge.ensures)
