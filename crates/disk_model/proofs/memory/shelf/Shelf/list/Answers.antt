use Rattle.std.proofs.Common.{◌++◌, ◌∙◌, ap, sym, List, ℕ, String, Vec}
use Rattle.std.specs.declared.alloc.Global.{Global}
use Rattle.std.proofs.lemmas.List.{append-nil}
use Rattle.disk_model.specs.Listed.{listed, is_at_or_below}
use Rattle.disk_model.proofs.ListedLemmas.{listed-step, listing}
use Rattle.disk_model.proofs.memory.shelf.Shelf.list.Goals as goal

pub loop-key-preserved : goal.loop-key-preserved
loop-key-preserved c =
    let prefix = c.args.prefix.now in
    let names = c.loop-key.names.items in
    let rest = c.next.new.self in
    let added = rw (c.as_bytes.ensures.text, c.as_str.ensures.value) at c.in_ok-add_if_below.ensures in
    ap (λ (l : List (List ℕ)). l ++ listed (is_at_or_below prefix) rest) added
    ∙ listed-step names (is_at_or_below prefix) (c.in-Some.key.now, c.in-Some.field-0-1.now) rest
    ∙ sym (ap (λ (es : List (String Global × Vec ℕ Global)). names ++ listed (is_at_or_below prefix) es) c.in-Some.ensures.steps)
    ∙ c.loop-key.invariant

pub returns : goal.returns
returns c =
    let prefix = c.args.prefix.now in
    let names = c.loop-key.names.items in
    let all =
    sym (append-nil names)
    ∙ sym (ap (λ (es : List (String Global × Vec ℕ Global)). names ++ listed (is_at_or_below prefix) es) c.in-None.ensures.steps.0)
    ∙ c.loop-key.invariant in
    listing prefix c.args.self.now.values names c.iter-key-items.ensures.ordered all
