use Rattle.std.proofs.Common.{◌≡◌, ℕ, List, Option, Some, None, unwrap_or, IfOk, ap, sym, ◌∙◌, subst}
use Rattle.std.specs.Result.{result_ok}
use Rattle.nx_base.specs.ContentTypes.{content_type_of}
use Rattle.http_heads.specs.Options.{octets}
use Rattle.http_heads.proofs.HeadParts.{type_of-first, type_of-none}
use Rattle.http_heads.proofs.options.read_type.Goals as goal

pub returns-in-Some-2 : goal.returns-in-Some-2
returns-in-Some-2 c =
    let read : c.in_ok-content_type.field-0 ≡ result_ok (content_type_of c.in-Some.text.now) = c.in_ok-content_type.ensures.ok (content_type_of c.in-Some.text.now) c.parse.ensures in
    let given : Some c.in-Some-2.content_type ≡ result_ok (content_type_of c.in-Some.text.now) = sym c.in-Some-2.is ∙ read in
    ap (λ (t : Option (List ℕ)). unwrap_or t octets) given ∙ type_of-first _ c.in-Some.text.now c.in-Some.ensures

pub returns-in-None : goal.returns-in-None
returns-in-None c =
    let read : c.in_ok-content_type.field-0 ≡ result_ok (content_type_of c.in-Some.text.now) = c.in_ok-content_type.ensures.ok (content_type_of c.in-Some.text.now) c.parse.ensures in
    let given : None ≡ result_ok (content_type_of c.in-Some.text.now) = sym c.in-None.is ∙ read in
    let same = ap (λ (t : Option (List ℕ)). unwrap_or t octets) given ∙ type_of-first _ c.in-Some.text.now c.in-Some.ensures in
    subst (λ (l : List ℕ). IfOk c.octets-in-None.result (λ t. t ≡ l)) same c.octets-in-None.ensures

pub returns-in_default : goal.returns-in_default
returns-in_default c = subst (λ (l : List ℕ). IfOk c.octets.result (λ t. t ≡ l)) (type_of-none _ c.in_default.ensures) c.octets.ensures
