use Rattle.std.proofs.Common.{List, ℕ, sym, subst}
use Rattle.disk_model.specs.Moments.{During, EachImage}
use Rattle.tree_content.specs.Files.{Erases, IsMarkedAt}
use Rattle.tree_content.proofs.Moments.{erased_images, erased_contents}
use Rattle.blob_files.proofs.erasing.erase.Goals as goal

pub returns-clause-any_image : goal.returns-clause-any_image
returns-clause-any_image g c told marked =
    let old = c.args.disk.now in
    erased_images g.D.Disk.clock g.D.Disk.lists old c.remove_both.new.disk (g.D.Disk.tree old) c.args.files.now.place c.remove_both.ensures.outside.0 c.remove_both.ensures.outside.1
    (λ n _. g.met.D.Disk.present old told n) marked (c.remove_both.ensures.any_moment told)

pub returns-clause-contents : goal.returns-clause-contents
returns-clause-contents g c told homes blob ref at settled marked =
    let old = c.args.disk.now in
    let new = c.remove_both.new.disk in
    let start = g.D.Disk.lists old (g.D.Disk.clock old) in
    erased_contents g.D.Disk.clock g.D.Disk.lists old new (g.D.Disk.tree old) homes blob ref settled (λ n _. g.met.D.Disk.present old told n)
    (subst (λ (p : List ℕ). EachImage (IsMarkedAt p) start) (sym at) marked)
    (subst (λ (p : List ℕ). During g.D.Disk.clock g.D.Disk.lists old new (Erases p start)) (sym at) (c.remove_both.ensures.any_moment told))
