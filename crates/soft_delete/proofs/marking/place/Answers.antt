use Rattle.std.proofs.Common.{List, ℕ, Some, subst}
use Rattle.disk_model.specs.Moments.{During, MayPut}
use Rattle.soft_delete.proofs.Images.{old_or_text}
use Rattle.soft_delete.proofs.marking.place.Goals as goal

pub returns-clause-any_image : goal.returns-clause-any_image
returns-clause-any_image g c told settled =
    let files = c.args.files.now in
    let content = g.D.Writer.Writer.content c.args.file in
    let old = c.args.disk.now in
    let new = c.put_sealed.new.disk in
    old_or_text g.D.Disk.clock g.D.Disk.lists old new (g.D.Disk.tree old) files.place content settled
    (subst (λ (n : List ℕ). During g.D.Disk.clock g.D.Disk.lists old new (MayPut n (Some content) (g.D.Disk.lists old (g.D.Disk.clock old)))) c.properties.ensures (c.put_sealed.ensures.any_moment told))
    files.properties_outside
