use Rattle.std.proofs.Common.{◌≡◌, ◌||◌, ◌∙◌, ◌≤◌, sym, ap, take, length, List, arith}
use Rattle.std.proofs.lemmas.List.{take_all}
use Rattle.disk_model.specs.declared.memory.change.Change.{Change}
use Rattle.disk_model.specs.Past.{run, first_of}
use Rattle.disk_model.specs.Seen.{shown}
use Rattle.disk_model.proofs.PickLemmas.{names-are, nothing-left, has_file, has_change}
use Rattle.disk_model.proofs.memory.history.History.names.Goals as goal

pub returns : goal.returns
returns c =
    let files = c.args.self.now.files.items in
    let log = c.args.self.now.log.items in
    let long : length log ≤ c.loop-change.change-index = omega arith in
    let whole : take c.loop-change.change-index log ≡ log = take_all c.loop-change.change-index log long in
    names-are c.names_beside.result (shown c.loop-change.shelf) (λ n. (run n log (first_of n files)).1)
    (λ n none. nothing-left n files log (ap (λ (l : List Change). has_file n files || has_change n l) (sym whole) ∙ sym (c.loop-change.invariant n) ∙ none))
    c.names_beside.ensures
