use Rattle.std.proofs.Common.{◌≡◌, ◌≤◌, List, ℕ, length, decimal, sym, ap, subst, ◌∙◌}
use Rattle.java_props.specs.Kept.{Entries}
use Rattle.java_props.specs.Writing.{written}
use Rattle.blob_properties.specs.Props.{Props, with_mark}
use Rattle.blob_properties.specs.FromPairs.{props_of}
use Rattle.blob_properties.specs.ToPairs.{plain_entries, marked_entries}
use Rattle.blob_properties.proofs.Round.{said_back}
use Rattle.blob_properties.proofs.Lengths.{is_readable, plain-marked, mark-props, mark-room, marked-fits, date-length}
use Rattle.blob_properties.proofs.texts.marked_text.Goals as goal

pub returns-clause-text : goal.returns-clause-text
returns-clause-text c =
    c.in_ok-text.ensures.text
    ∙ ap written (c.in_ok-pairs.ensures.pairs
    ∙ ap (λ (d : List ℕ). marked_entries d c.args.reason.now (plain_entries c.args.props.now)) (c.as_str.ensures.value ∙ c.in_ok-date.ensures)
    ∙ ap (marked_entries (decimal c.args.at) c.args.reason.now) (sym (plain-marked c.args.props.now c.args.reason.now c.args.at)))

pub returns-clause-readable : goal.returns-clause-readable
returns-clause-readable c = λ room brief.
    let props = c.args.props.now in
    let reason = c.args.reason.now in
    let at = c.args.at in
    let is = c.in_ok-pairs.ensures.blob in
    let pairs : c.in_ok-pairs.pairs ≡ marked_entries (decimal at) reason (plain_entries props) =
    c.in_ok-pairs.ensures.pairs ∙ ap (λ (d : List ℕ). marked_entries d reason (plain_entries props)) (c.as_str.ensures.value ∙ c.in_ok-date.ensures) in
    let fits = marked-fits props (decimal at) reason is.in_range.3 (date-length at c.requires.time) brief room in
    let short = subst (λ (t : List ℕ). length t ≤ 65536) (sym (c.in_ok-text.ensures.text ∙ ap written pairs)) fits in
    is_readable c.in_ok-text.text.items c.in_ok-pairs.pairs (with_mark props reason at) (c.in_ok-text.ensures.back short)
    (ap props_of (pairs ∙ ap (marked_entries (decimal at) reason) (sym (plain-marked props reason at))) ∙ said_back (with_mark props reason at) (mark-props props reason at c.requires.time is))
    (mark-room props reason at room)
