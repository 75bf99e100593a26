use Rattle.std.proofs.Common.{◌≡◌, ◌∙◌, ◌≤◌, List, ℕ, length, sym, ap, subst}
use Rattle.java_props.specs.Kept.{AreTexts}
use Rattle.java_props.specs.Reading.{Reads}
use Rattle.java_props.specs.Writing.{written}
use Rattle.java_props.proofs.RoundTrip.{read_back, are_texts}
use Rattle.java_props.proofs.write.Goals as goal

pub returns-clause-back : goal.returns-clause-back
returns-clause-back c = λ short.
    let e : c.in_ok-write_pairs.field-0.items ≡ written c.args.pairs.now = c.in_ok-write_pairs.ensures ∙ ap written c.items.ensures.seen in
    subst (λ (t : List ℕ). Reads t c.args.pairs.now) (sym e)
    (read_back c.args.pairs.now c.items.ensures.pairs (subst AreTexts c.items.ensures.seen (are_texts c.items.result.now)) (subst (λ (t : List ℕ). length t ≤ 65536) e short))
