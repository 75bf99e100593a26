use Rattle.std.proofs.Common.{◌≡◌, ◌∷◌, ◌∙◌, List, ℕ, map, ap, sym}
use Rattle.http_header.specs.FieldValue.{FieldValue}
use Rattle.http_header.specs.HeaderMap.{get_all}
use Rattle.http_header.specs.Token.{lowercase}
use Rattle.http_heads.proofs.kept.only_value.Goals as goal

pub returns-in-Some-next : goal.returns-in-Some-next
returns-in-Some-next c =
    let texts : List FieldValue → List (List ℕ) = λ values. map (λ (v : FieldValue). v.bytes) values in
    let all : get_all c.args.kept.now (lowercase c.args.name.now) ≡ c.in-Some.first.now ∷ c.in-Some-next.field-0.now ∷ c.next-2.new.self =
    sym c.get_all.ensures.value ∙ sym c.iter-values.ensures ∙ c.in-Some.ensures.steps ∙ ap (λ (rest : List FieldValue). c.in-Some.first.now ∷ rest) c.in-Some-next.ensures.steps in
    (c.in-Some.first.now.bytes, c.in-Some-next.field-0.now.bytes, texts c.next-2.new.self, ap texts all)
