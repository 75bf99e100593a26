use Rattle.std.proofs.Common.{◌≡◌, ◌∙◌, ◌+◌, ℕ, List, length, get_or, map, take, [], ap, sym, subst, arith}
use Rattle.http_header.specs.FieldValue.{FieldValue, plain_value}
use Rattle.http_header.specs.HeaderMap.{Entries, value_count, append}
use Rattle.http_header.specs.Token.{lowercase}
use Rattle.httparse.specs.Spans.{header_bytes}
use Rattle.http_heads.specs.Fields.{Pair}
use Rattle.http_heads.specs.Kept.{KeepsFields}
use Rattle.http_heads.proofs.KeptLemmas.{length-append_le, value_count-append, keeps_more, fields_more, keeps_nothing, zero_span}
use Rattle.http_heads.proofs.kept.keep.Goals as goal

pub loop-field-init : goal.loop-field-init
loop-field-init c = record {
  names = omega (arith, ap (λ (m : Entries FieldValue). length m) c.new-kept.ensures);
  values = omega (arith, ap (λ (m : Entries FieldValue). value_count m) c.new-kept.ensures);
  keeps = subst (λ (m : Entries FieldValue). KeepsFields m []) (sym c.new-kept.ensures) keeps_nothing;
}

pub loop-field-preserved : goal.loop-field-preserved
loop-field-preserved c =
    let text = c.args.text.now in
    let i = c.loop-field.field-index in
    let old = c.loop-field.kept in
    let field : Pair = header_bytes text (get_or c.args.fields.now i zero_span) in
    let added : c.keep_one.new.map ≡ append old (lowercase field.0) (plain_value field.1) =
    c.in_ok-keep_one.ensures ∙ ap (λ (n : List ℕ). append old n c.in_ok-value.value) (c.in_ok-name.ensures ∙ ap lowercase c.of.ensures)
    ∙ ap (λ (v : FieldValue). append old (lowercase field.0) v) (c.in_ok-value.ensures ∙ ap plain_value c.of-in-loop-field.ensures) in
    record {
      names = omega (arith, ap (λ (m : Entries FieldValue). length m) added, length-append_le old (lowercase field.0) (plain_value field.1), c.loop-field.invariant.names);
      values = omega (arith, ap (λ (m : Entries FieldValue). value_count m) added, value_count-append old (lowercase field.0) (plain_value field.1), c.loop-field.invariant.values);
      keeps = subst (λ (m : Entries FieldValue). KeepsFields m (map (header_bytes text) (take (i + 1) c.args.fields.now))) (sym added)
          (subst (λ (fs : List Pair). KeepsFields (append old (lowercase field.0) (plain_value field.1)) fs) (sym (fields_more text c.args.fields.now i zero_span c.loop-field-test.true))
          (keeps_more old (map (header_bytes text) (take i c.args.fields.now)) field c.loop-field.invariant.keeps));
    }
