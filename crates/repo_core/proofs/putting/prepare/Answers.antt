use Rattle.std.proofs.Common.{ℕ, Option, Ok, Err, sym, subst}
use Rattle.repo_model.specs.Plain.{config_of}
use Rattle.std.specs.Option.{option_copied}
use Rattle.nx_base.specs.declared.asset.Asset.{Asset}
use Rattle.repo_core.specs.Puts.{IsNext, MayReplace}
use Rattle.repo_core.proofs.Puttings.{may_not_replace, no_next, prepared}
use Rattle.repo_core.proofs.Whys.{no_timestamp, on_ok, unstaged_puts}
use Rattle.repo_core.proofs.Texts.{olds_are_there}
use Rattle.repo_core.proofs.Keepings.{put_timestamped, put_trashed}
use Rattle.repo_core.proofs.putting.prepare.Goals as goal

pub returns-in-Err-clause-ready : goal.returns-in-Err-clause-ready
returns-in-Err-clause-ready g c = λ told some may s a.
    may_not_replace (config_of c.args.config.now) s c.args.store.now c.args.upload.now c.args.moment.now a.sound may c.in-Err.why (c.in-Err.ensures.row some s a.rows_are may.repo may.declared)

pub returns-in-Err-next_blob-clause-ready : goal.returns-in-Err-next_blob-clause-ready
returns-in-Err-next_blob-clause-ready g c = λ told some may s a.
    let row = c.in-Ok.ensures.row some s a.rows_are may.repo may.declared in
    let next : IsNext c.args.store.now c.args.own.now.last c.args.moment.now (Err c.in-Err-next_blob.why) = c.in-Err-next_blob.ensures in
    no_next (config_of c.args.config.now) s c.args.store.now c.args.upload.now c.args.moment.now a.sound may c.in-Err-next_blob.why row.1
    (subst (λ (n : ℕ). IsNext c.args.store.now n c.args.moment.now (Err c.in-Err-next_blob.why)) a.last_are next)

pub returns-clause-ready : goal.returns-clause-ready
returns-clause-ready g c = λ told some may s a.
    let old = option_copied c.as_ref.result in
    let was : MayReplace may.repo s c.args.upload.now.key (Ok c.in-Ok.old) = c.in-Ok.ensures.row some s a.rows_are may.repo may.declared in
    let row = subst (λ (o : Option Asset). MayReplace may.repo s c.args.upload.now.key (Ok o)) (sym c.as_ref.ensures.value) was in
    prepared g.D.Writer.Writer.content (config_of c.args.config.now) (g.D.Disk.tree c.args.disk.now) s c.args.store.now c.args.upload.now c.args.moment.now c.args.own.now c.stage_put.new.own
    g.D.Disk.told told old c.in-Ok-next_blob.blob c.args.own.now.last c.time-at.result a.files a.sound may a.last_are c.time-at.ensures row c.in-Ok-next_blob.ensures c.stage_put.ensures.named
    c.stage_put.result c.stage_put.ensures.new (c.stage_put.ensures.free told) (c.stage_put.ensures.mark told) c.stage_put.ensures.trash c.stage_put.ensures.denied

pub returns-in-Err-clause-why : goal.returns-in-Err-clause-why
returns-in-Err-clause-why g c = c.in-Err.ensures.why c.args.own.now.last c.args.moment.now (g.D.Disk.last_look c.args.disk.now)

pub returns-in-Err-next_blob-clause-why : goal.returns-in-Err-next_blob-clause-why
returns-in-Err-next_blob-clause-why g c =
    no_timestamp (config_of c.args.config.now) c.args.own.now.last c.args.upload.now.key c.args.moment.now (g.T.Keeper.found c.row_to_replace.new.table) (g.D.Disk.last_look c.args.disk.now)
    c.args.store.now c.in-Err-next_blob.why c.in-Ok.ensures.free c.in-Err-next_blob.ensures

pub returns-clause-why : goal.returns-clause-why
returns-clause-why g c =
    unstaged_puts (config_of c.args.config.now) c.args.own.now.last c.args.upload.now.key c.args.moment.now (g.T.Keeper.found c.row_to_replace.new.table) (g.D.Disk.last_look c.stage_put.new.disk)
    g.D.Disk.told (g.D.Disk.tree c.args.disk.now) c.args.store.now c.in-Ok-next_blob.blob c.stage_put.result c.in-Ok.ensures.free c.in-Ok-next_blob.ensures.1 c.in-Ok-next_blob.ensures.0
    c.stage_put.ensures.taken c.stage_put.ensures.denied

pub returns-clause-opens : goal.returns-clause-opens
returns-clause-opens g c = on_ok _ c.stage_put.result (c.in-Ok.ensures.free, c.in-Ok-next_blob.ensures.1)

pub returns-clause-old : goal.returns-clause-old
returns-clause-old g c = λ told. olds_are_there g.D.Writer.Writer.content (g.D.Disk.tree c.args.disk.now) c.time-at.result (option_copied c.as_ref.result) c.stage_put.result (c.stage_put.ensures.mark told)

pub returns-clause-keeps : goal.returns-clause-keeps
returns-clause-keeps g c =
    put_trashed c.args.own.now c.stage_put.new.own c.args.upload.now.key c.args.moment.now c.time-at.result (option_copied c.as_ref.result) c.stage_put.result c.time-at.ensures c.stage_put.ensures.trash

pub returns-clause-timestamp : goal.returns-clause-timestamp
returns-clause-timestamp g c =
    put_timestamped c.args.store.now c.args.own.now.last c.args.moment.now c.args.upload.now c.in-Ok-next_blob.blob c.stage_put.result c.in-Ok-next_blob.ensures.0 c.stage_put.ensures.new
