use Rattle.std.proofs.Common.{◌∙◌, ap, sym, subst}
use Rattle.nx_base.specs.declared.asset.Asset.{Asset}
use Rattle.blob_properties.specs.Readable.{Readable}
use Rattle.repo_core.specs.Puts.{props_of}
use Rattle.disk_model.specs.Disk.{Tree}
use Rattle.disk_model.proofs.Chain.{same_then_same}
use Rattle.repo_core.proofs.staging.stage_put.Goals as goal

pub returns-in-Err-stage_old-clause-tree : goal.returns-in-Err-stage_old-clause-tree
returns-in-Err-stage_old-clause-tree g c = λ told n out. c.stage_old.ensures.tree told n out ∙ ap (λ (t : Tree). t n) (c.see_free.ensures.tree told)

pub returns-in-Err-stage_old-clause-any_moment : goal.returns-in-Err-stage_old-clause-any_moment
returns-in-Err-stage_old-clause-any_moment g c = λ told.
    same_then_same g.D.Disk.clock g.D.Disk.lists c.args.disk.now c.see_free.new.disk c.stage_old.new.disk (c.see_free.ensures.any_moment told) (c.stage_old.ensures.any_moment told)

pub returns-in-Err-trash_old-clause-tree : goal.returns-in-Err-trash_old-clause-tree
returns-in-Err-trash_old-clause-tree g c = λ told n out.
    c.trash_old.ensures.tree told n out ∙ c.stage_old.ensures.tree told n out ∙ ap (λ (t : Tree). t n) (c.see_free.ensures.tree told)

pub returns-in-Err-trash_old-clause-any_moment : goal.returns-in-Err-trash_old-clause-any_moment
returns-in-Err-trash_old-clause-any_moment g c = λ told.
    let clock = g.D.Disk.clock in
    let lists = g.D.Disk.lists in
    same_then_same clock lists c.args.disk.now c.stage_old.new.disk c.trash_old.new.disk
    (same_then_same clock lists c.args.disk.now c.see_free.new.disk c.stage_old.new.disk (c.see_free.ensures.any_moment told) (c.stage_old.ensures.any_moment told))
    (c.trash_old.ensures.any_moment told)

pub returns-in-Ok-trash_old-clause-sets : goal.returns-in-Ok-trash_old-clause-sets
returns-in-Ok-trash_old-clause-sets g c = (_, c.in-Ok.ensures.made.change_is)

pub returns-in-Ok-trash_old-clause-says : goal.returns-in-Ok-trash_old-clause-says
returns-in-Ok-trash_old-clause-says g c =
    subst (λ (x : Asset). Readable c.in-Ok.new.text.items (props_of c.args.upload.now x.blob.timestamp)) (sym c.in-Ok.ensures.made.asset_is) c.in-Ok.ensures.made.says
