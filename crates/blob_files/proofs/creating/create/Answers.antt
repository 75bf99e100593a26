use Rattle.std.proofs.Common.{◌≡◌, List, ℕ, None, sym, subst}
use Rattle.disk_model.specs.Moments.{During}
use Rattle.tree_content.specs.Blobs.{props_at}
use Rattle.tree_content.specs.Files.{Creates}
use Rattle.tree_content.proofs.Moments.{created_images}
use Rattle.blob_files.proofs.Steps.{each_image}
use Rattle.blob_files.proofs.creating.create.Goals as goal

pub returns-clause-any_image : goal.returns-clause-any_image
returns-clause-any_image g c told settled absent =
    let old = c.args.disk.now in
    let outside = c.put_both.ensures.outside in
    each_image c.args.files.now.place (g.D.Writer.Writer.content c.args.file) c.args.props.now outside.0 outside.1 g.D.Disk.clock g.D.Disk.lists old c.put_both.new.disk (g.D.Disk.tree old) settled absent (c.put_both.ensures.any_moment told)

pub returns-clause-contents : goal.returns-clause-contents
returns-clause-contents g c told homes blob ref at settled absent =
    let content = g.D.Writer.Writer.content c.args.file in
    let old = c.args.disk.now in
    let new = c.put_both.new.disk in
    let tree = g.D.Disk.tree old in
    created_images g.D.Disk.clock g.D.Disk.lists old new tree homes blob content c.args.props.now ref settled
    (subst (λ (p : List ℕ). tree (props_at p) ≡ None) (sym at) absent)
    (subst (λ (p : List ℕ). During g.D.Disk.clock g.D.Disk.lists old new (Creates p content c.args.props.now (g.D.Disk.lists old (g.D.Disk.clock old)))) (sym at) (c.put_both.ensures.any_moment told))
