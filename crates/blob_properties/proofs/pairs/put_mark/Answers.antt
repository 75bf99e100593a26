use Rattle.std.proofs.Common.{◌≡◌, ap, ◌∙◌, codes}
use Rattle.java_props.specs.Kept.{put}
use Rattle.blob_properties.specs.Keys.{deleted_key, date_key, reason_key}
use Rattle.blob_properties.specs.ToPairs.{marked_entries}
use Rattle.blob_properties.proofs.Round.{on_ok}
use Rattle.blob_properties.proofs.pairs.put_mark.Goals as goal

pub returns : goal.returns
unfolding marked_entries
returns c = on_ok c.put-3.result c.put-3.ensures.set (λ e.
    e ∙ ap (put reason_key c.args.reason.now) (c.in_ok-put-2.ensures.set ∙ ap (put date_key c.args.date.now) c.in_ok-put.ensures.set))
