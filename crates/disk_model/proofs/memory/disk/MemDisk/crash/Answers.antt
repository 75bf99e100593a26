use Rattle.std.proofs.Common.{◌≡◌, ◌∙◌, ◌+◌, ◌≤◌, ◌<◌, ◌∷◌, ℕ, List, [], sym, ap, drop, length, subst, arith}
use Rattle.std.proofs.lemmas.List.{drop_more}
use Rattle.std.proofs.Math.ListN.{drop_of_length-le}
use Rattle.disk_model.specs.Disk.{Rises}
use Rattle.disk_model.specs.Past.{Files, lookup, lists_of}
use Rattle.disk_model.specs.PastLaws.{present_of}
use Rattle.disk_model.specs.Picked.{picked, or_else, AreNames}
use Rattle.disk_model.proofs.PickLemmas.{pick_step, or_else-none, nonempty}
use Rattle.disk_model.proofs.CrashLemmas.{rises-drop, names-now, crash-picked, crash-image}
use Rattle.disk_model.proofs.memory.disk.MemDisk.crash.Goals as goal

pub loop-name-init : goal.loop-name-init
loop-name-init c = λ n.
    let d = c.args.self in
    let lists = lists_of d.history.files.items d.history.log.items d.calls in
    ap (λ (files : Files). or_else (lookup n files) (picked lists c.deref-name-items.result.now c.args.pick n)) c.new-files.ensures.items

pub loop-name-preserved : goal.loop-name-preserved
loop-name-preserved c = λ n.
    let d = c.args.self in
    let lists = lists_of d.history.files.items d.history.log.items d.calls in
    let names = c.deref-name-items.result.now in
    let i = c.loop-name.name-index in
    let x = c.name-item.result in
    let rest = drop (i + 1) names in
    let left = c.loop-name.left in
    let old = lookup n c.loop-name.files.items in
    let new = lookup n c.pick_value.new.files.items in
    let lt : i < length names = omega arith in
    let split : drop i names ≡ x ∷ rest = drop_more names i x lt ∙ sym (ap (λ (y : List ℕ). y ∷ rest) c.name-item.is) in
    let in_order : Rises names = subst Rises (sym c.deref-name-items.ensures.value) c.in_ok-names.ensures.rises in
    let rises : Rises (x ∷ rest) = subst Rises split (rises-drop i names in_order) in
    ap (λ (k : ℕ). or_else new (picked lists rest k n)) c.in_ok-left.ensures.left
    ∙ pick_step lists x rest left n old new rises (c.in_ok-left.ensures.value n)
    ∙ sym (ap (λ (l : List (List ℕ)). or_else old (picked lists l left n)) split)
    ∙ c.loop-name.invariant n

pub returns-clause-picked : goal.returns-clause-picked
returns-clause-picked c =
    let d = c.args.self in
    let lists = lists_of d.history.files.items d.history.log.items d.calls in
    let names = c.deref-name-items.result.now in
    let files = c.loop-name.files.items in
    let long : length names ≤ c.loop-name.name-index = omega arith in
    let none : drop c.loop-name.name-index names ≡ [] = drop_of_length-le names long in
    let are : AreNames lists names = subst (AreNames lists) (sym c.deref-name-items.ensures.value) (names-now d.history.files.items d.history.log.items d.calls c.in_ok-names.names.items d.before c.in_ok-names.ensures) in
    crash-picked lists names c.args.pick files are
    (λ n. sym (or_else-none (lookup n files))
    ∙ sym (ap (λ (l : List (List ℕ)). or_else (lookup n files) (picked lists l c.loop-name.left n)) none)
    ∙ c.loop-name.invariant n)
    c.new-2.result c.new-2.ensures.tree

pub returns-clause-image : goal.returns-clause-image
returns-clause-image c =
    let d = c.args.self in
    let lists = lists_of d.history.files.items d.history.log.items d.calls in
    let names = c.deref-name-items.result.now in
    let files = c.loop-name.files.items in
    let long : length names ≤ c.loop-name.name-index = omega arith in
    let none : drop c.loop-name.name-index names ≡ [] = drop_of_length-le names long in
    let are : AreNames lists names = subst (AreNames lists) (sym c.deref-name-items.ensures.value) (names-now d.history.files.items d.history.log.items d.calls c.in_ok-names.names.items d.before c.in_ok-names.ensures) in
    crash-image lists names c.args.pick files are
    (λ n. sym (or_else-none (lookup n files))
    ∙ sym (ap (λ (l : List (List ℕ)). or_else (lookup n files) (picked lists l c.loop-name.left n)) none)
    ∙ c.loop-name.invariant n)
    (λ n. nonempty _ (lists n) (present_of d.history.files.items d.history.log.items d.calls n d.before))
    c.new-2.result c.new-2.ensures.tree
