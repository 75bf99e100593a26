use Rattle.std.proofs.Common.{◌≡◌, ◌<◌, ◌%◌, ◌∙◌, ℕ, List, Option, Some, None, ap, sym, length, map, get_or, cond, arith}
use Rattle.std.specs.Str.{bytes_eq}
use Rattle.disk_model.specs.Past.{lists_of, value_of, lookup, Files}
use Rattle.disk_model.specs.PastLaws.{present_of}
use Rattle.disk_model.specs.Picked.{or_else, value_picked}
use Rattle.disk_model.proofs.PickLemmas.{nonempty, length-map-values, get-map-values, lookup-push}
use Rattle.disk_model.proofs.memory.disk.MemDisk.pick_value.Goals as goal

pub nonzero_rem-at : goal.nonzero_rem-at
nonzero_rem-at c =
    let d = c.args.self.now in
    let list = lists_of d.history.files.items d.history.log.items d.calls c.args.name.now in
    let some : 0 < length list = nonempty _ list (present_of d.history.files.items d.history.log.items d.calls c.args.name.now d.before) in
    let same : length (map value_of c.in_ok-values.values.items) ≡ length list = ap length c.in_ok-values.ensures in
    let long : length c.as_slice.result.now ≡ length c.in_ok-values.values.items = ap length c.as_slice.ensures.value in
    omega (arith, length-map-values c.in_ok-values.values.items)

pub remove-requires : goal.remove-requires
remove-requires c =
    let d = c.args.self.now in
    let list = lists_of d.history.files.items d.history.log.items d.calls c.args.name.now in
    let some : 0 < length list = nonempty _ list (present_of d.history.files.items d.history.log.items d.calls c.args.name.now d.before) in
    let same : length (map value_of c.in_ok-values.values.items) ≡ length list = ap length c.in_ok-values.ensures in
    let long : length c.as_slice.result.now ≡ length c.in_ok-values.values.items = ap length c.as_slice.ensures.value in
    let there : 0 < length c.as_slice.result.now = omega (arith, length-map-values c.in_ok-values.values.items) in
    let below : c.args.pick % length c.as_slice.result.now < length c.as_slice.result.now = omega arith in
    omega arith

pub returns-clause-value : goal.returns-clause-value
returns-clause-value c = λ n.
    let d = c.args.self.now in
    let list = lists_of d.history.files.items d.history.log.items d.calls c.args.name.now in
    let items = c.in_ok-values.values.items in
    let bytes = c.in-Some.bytes in
    let old = c.args.files.now.items in
    let slice = c.as_slice.result.now in
    let some : 0 < length list = nonempty _ list (present_of d.history.files.items d.history.log.items d.calls c.args.name.now d.before) in
    let same : length slice ≡ length list = ap length c.as_slice.ensures.value ∙ sym (length-map-values items) ∙ ap length c.in_ok-values.ensures in
    let long : length slice ≡ length items = ap length c.as_slice.ensures.value in
    let below : c.args.pick % length slice < length items = omega arith in
    let value : value_picked list c.args.pick ≡ Some bytes.items =
    sym (ap (λ (k : ℕ). get_or list (c.args.pick % k) None) same)
    ∙ sym (ap (λ (l : List (Option (List ℕ))). get_or l (c.args.pick % length slice) None) c.in_ok-values.ensures)
    ∙ get-map-values items (c.args.pick % length slice) (Some bytes) below
    ∙ sym (ap value_of c.in-Some.ensures.value) in
    ap (λ (files : Files). lookup n files) c.in-Ok.ensures.items
    ∙ lookup-push n old c.in_ok-name.name bytes
    ∙ ap (λ (k : List ℕ). or_else (lookup n old) (cond (bytes_eq n k) (Some bytes.items) None)) c.in_ok-name.ensures
    ∙ sym (ap (λ (v : Option (List ℕ)). or_else (lookup n old) (cond (bytes_eq n c.args.name.now) v None)) value)
