use Rattle.std.proofs.Common.{◌≡◌, ◌∙◌, sym, ap, subst}
use Rattle.blob_properties.specs.Props.{Props, IsProps}
use Rattle.blob_properties.specs.ToPairs.{plain_entries}
use Rattle.blob_properties.proofs.Round.{plain_built}
use Rattle.blob_properties.proofs.pairs.plain_pairs.Goals as goal

pub returns-clause-pairs : goal.returns-clause-pairs
returns-clause-pairs c =
    let inside = c.props.inside in
    let seen : Props = record { key = inside.key; content_type = inside.content_type; size = inside.size; sha1 = inside.sha1; timestamp = inside.timestamp; deleted = inside.deleted; others = inside.others } in
    plain_built seen c.as_str.result.now c.as_str-2.result.now c.as_str-3.result.now c.as_str-4.result.now c.as_str-5.result.now c.as_str-6.result.now
    c.in_ok-pairs.pairs c.put.new.pairs c.put-2.new.pairs c.put-3.new.pairs c.put-4.new.pairs c.put-5.new.pairs c.put-6.new.pairs
    c.in_ok-pairs.ensures c.in_ok-put.ensures.set c.in_ok-put-2.ensures.set c.in_ok-put-3.ensures.set c.in_ok-put-4.ensures.set c.in_ok-put-5.ensures.set c.in_ok-put-6.ensures.set
    c.as_str.ensures.text c.as_str-2.ensures.text c.as_str-3.ensures.text
    (c.as_str-4.ensures.value ∙ c.in_ok-timestamp.ensures) (c.as_str-5.ensures.value ∙ c.in_ok-sha1.ensures.text) (c.as_str-6.ensures.value ∙ c.in_ok-size.ensures)
    ∙ ap plain_entries c.props.view_is

pub returns-clause-blob : goal.returns-clause-blob
returns-clause-blob c =
    let inside = c.props.inside in
    let seen : Props = record { key = inside.key; content_type = inside.content_type; size = inside.size; sha1 = inside.sha1; timestamp = inside.timestamp; deleted = inside.deleted; others = inside.others } in
    let is : IsProps seen = record {
      path = c.as_str.ensures.reads;
      repo = c.as_str-3.ensures.reads;
      content_type = c.as_str-2.ensures.reads;
      sha1_length = c.sha1_text.ensures.length;
      sha1_bytes = c.sha1_text.ensures.bytes;
      in_range = c.props.invariant;
    } in
    subst IsProps c.props.view_is is
