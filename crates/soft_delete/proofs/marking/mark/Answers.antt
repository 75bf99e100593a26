use Rattle.std.proofs.Common.{List, ℕ, Some, refl, ◌∙◌, subst}
use Rattle.disk_model.specs.Moments.{During, MayPut}
use Rattle.blob_properties.specs.Props.{with_mark}
use Rattle.blob_properties.specs.Readable.{Readable, marked_text_of}
use Rattle.tree_content.specs.Blobs.{props_at}
use Rattle.soft_delete.proofs.Images.{old_or_text, old_or_lost, old_text, nothing_lost}
use Rattle.soft_delete.proofs.marking.mark.Goals as goal

pub returns-in-Err-clause-any_image : goal.returns-in-Err-clause-any_image
returns-in-Err-clause-any_image g c told settled =
    let files = c.args.files.now in
    let old = c.args.disk.now in
    old_text g.D.Disk.clock g.D.Disk.lists old (g.D.Disk.tree old) settled files.place (marked_text_of c.args.props.now c.args.reason.now c.args.at) files.properties_outside

pub returns-in-Err-clause-contents : goal.returns-in-Err-clause-contents
returns-in-Err-clause-contents g c told homes blob ref at room short settled =
    let old = c.args.disk.now in
    nothing_lost g.D.Disk.clock g.D.Disk.lists old (g.D.Disk.tree old) settled homes blob

pub returns-clause-any_image : goal.returns-clause-any_image
returns-clause-any_image g c told settled =
    let files = c.args.files.now in
    let old = c.args.disk.now in
    let new = c.replace.new.disk in
    let text = marked_text_of c.args.props.now c.args.reason.now c.args.at in
    let run = subst (λ (t : List ℕ). During g.D.Disk.clock g.D.Disk.lists old new (MayPut (props_at files.place) (Some t) (g.D.Disk.lists old (g.D.Disk.clock old))))
    (c.deref.ensures.value ∙ c.in-Ok.ensures.text) (c.replace.ensures.any_moment told) in
    old_or_text g.D.Disk.clock g.D.Disk.lists old new (g.D.Disk.tree old) files.place text settled run files.properties_outside

pub returns-clause-contents : goal.returns-clause-contents
returns-clause-contents g c told homes blob ref at room short settled =
    let files = c.args.files.now in
    let old = c.args.disk.now in
    let new = c.replace.new.disk in
    let text = marked_text_of c.args.props.now c.args.reason.now c.args.at in
    let run = subst (λ (t : List ℕ). During g.D.Disk.clock g.D.Disk.lists old new (MayPut (props_at files.place) (Some t) (g.D.Disk.lists old (g.D.Disk.clock old))))
    (c.deref.ensures.value ∙ c.in-Ok.ensures.text) (c.replace.ensures.any_moment told) in
    old_or_lost g.D.Disk.clock g.D.Disk.lists old new (g.D.Disk.tree old) files.place text settled run homes blob ref at
    (with_mark c.args.props.now c.args.reason.now c.args.at, subst (λ (t : List ℕ). Readable t (with_mark c.args.props.now c.args.reason.now c.args.at)) c.in-Ok.ensures.text (c.in-Ok.ensures.readable room short), refl)
