use Rattle.std.proofs.Common.{◌≡◌, ◌≤◌, List, ℕ, length, sym, ap, subst, ◌∙◌}
use Rattle.java_props.specs.Kept.{Entries}
use Rattle.java_props.specs.Reading.{Reads}
use Rattle.java_props.specs.Writing.{written}
use Rattle.blob_properties.specs.Props.{Props, IsProps, without_mark}
use Rattle.blob_properties.specs.FromPairs.{props_of}
use Rattle.blob_properties.specs.ToPairs.{plain_entries}
use Rattle.blob_properties.specs.Readable.{HasRoom, Readable}
use Rattle.blob_properties.proofs.Own.{own-room}
use Rattle.blob_properties.proofs.Round.{said_back}
use Rattle.blob_properties.proofs.Lengths.{is_readable, plain-unmarked, unmark-props, unmark-room, plain-fits}
use Rattle.blob_properties.proofs.texts.unmarked_text.Goals as goal

-- the text is readable where there is room
readable : (props : Props) (pairs : Entries) (text : List ℕ) → IsProps props → pairs ≡ plain_entries props → text ≡ written pairs
    → (length text ≤ 65536 → Reads text pairs) → HasRoom props → Readable text (without_mark props)
readable props pairs text is made says back room =
    let short = subst (λ (t : List ℕ). length t ≤ 65536) (sym (says ∙ ap written made)) (plain-fits props is.in_range.3 room) in
    is_readable text pairs (without_mark props) (back short)
    (ap props_of (made ∙ sym (plain-unmarked props)) ∙ said_back (without_mark props) (unmark-props props is))
    (unmark-room props room)

pub returns-clause-text : goal.returns-clause-text
returns-clause-text c =
    c.in_ok-text.ensures.text ∙ ap written (c.in_ok-pairs.ensures.pairs ∙ sym (plain-unmarked c.args.props.now))

pub returns-clause-readable : goal.returns-clause-readable
returns-clause-readable c =
    readable c.args.props.now c.in_ok-pairs.pairs c.in_ok-text.text.items c.in_ok-pairs.ensures.blob c.in_ok-pairs.ensures.pairs c.in_ok-text.ensures.text c.in_ok-text.ensures.back

pub returns-clause-own : goal.returns-clause-own
returns-clause-own c = λ none.
    readable c.args.props.now c.in_ok-pairs.pairs c.in_ok-text.text.items c.in_ok-pairs.ensures.blob c.in_ok-pairs.ensures.pairs c.in_ok-text.ensures.text c.in_ok-text.ensures.back
    (own-room c.args.props.now c.in_ok-pairs.ensures.blob none)
