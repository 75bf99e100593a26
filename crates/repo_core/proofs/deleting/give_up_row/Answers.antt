use Rattle.std.proofs.Common.{◌≡◌, true≢false, ◌⊎◌, inl, ℕ, Some, List, [], Err, codes, ⊎_elim, OnOk, refl, sym, ◌∙◌, ap, subst, Option, Result}
use Rattle.std.specs.FinMap as map
use Rattle.nx_base.specs.Order.{key_cmp}
use Rattle.nx_base.specs.declared.asset.Asset.{Asset}
use Rattle.disk_model.specs.Disk.{Same}
use Rattle.disk_model.specs.Moments.{MayPut}
use Rattle.disk_model.proofs.Images.{settled_same, settled_put}
use Rattle.asset_keeper.specs.Table.{changed}
use Rattle.asset_keeper.specs.Told.{Tells}
use Rattle.asset_keeper.specs.declared.change.Change.{Change}
use Rattle.asset_keeper.specs.declared.change.Change.TheVariants as change
use Rattle.repo_model.specs.declared.call.Call.TheVariants as call
use Rattle.repo_model.specs.declared.reply.Reply.TheVariants as reply
use Rattle.repo_model.specs.Plain.{config_of}
use Rattle.repo_model.specs.Timestamps.{time_of}
use Rattle.repo_model.specs.Deleting.{without_row, discarded}
use Rattle.tree_content.specs.Blobs.{props_at}
use Rattle.repo_model.specs.declared.reply.Fault.{Fault}
use Rattle.repo_core.specs.declared.denial.Denial.{Denial}
use Rattle.repo_core.specs.declared.denial.Denial.TheVariants as denial
use Rattle.repo_core.specs.declared.stop.Stop.{Stop}
use Rattle.repo_core.specs.declared.stop.Stop.TheVariants as stop
use Rattle.repo_core.specs.Asks.{TouchesRow, RemovesRow}
use Rattle.repo_core.specs.Devices.{devices}
use Rattle.repo_core.specs.Ends.{Denies}
use Rattle.repo_core.specs.Marks.{IsMarkOf}
use Rattle.repo_core.specs.Rows.{rows_in}
use Rattle.repo_core.specs.Faults.{of_disk}
use Rattle.repo_core.proofs.Steps.{fault_denies}
use Rattle.repo_core.proofs.Answering.{tells_map}
use Rattle.repo_core.proofs.Rests.{rest_put, rest_quiet, rest_still, rest_then, same_then_changed}
use Rattle.repo_core.proofs.Tables.{rows_same, rows_changed, rows_either, still_told, tells_then}
use Rattle.repo_core.proofs.Runs.{nothing_ran, at_end}
use Rattle.repo_core.proofs.Stays.{stay_same, stay_marked}
use Rattle.repo_core.proofs.Givings.{crash_same, crash_marked, halfway_marked, marks_done, agrees_same, agrees_gone, is_readable}
use Rattle.repo_core.proofs.Whys.{failed_delete, unstaged_delete}
use Rattle.repo_core.proofs.Texts.{has_mark, row_marked}
use Rattle.repo_core.proofs.deleting.give_up_row.Goals as goal

abbrev deleted : List ℕ
deleted = codes "Deleted by request"

pub returns-in-Err-clause-ends : goal.returns-in-Err-clause-ends
returns-in-Err-clause-ends g c = λ told some s a.
    let config = config_of c.args.config.now in
    let tree = g.D.Disk.tree c.args.disk.now in
    let rows = rows_same (g.T.Keeper.table c.args.table.now) (g.T.Keeper.table c.row_to_delete.new.table) some c.in-Err.ensures.same in (
      c.in-Err.ensures.row some s a.sound a.rows_are,
      agrees_same config tree tree (rows_in (g.T.Keeper.table c.args.table.now)) (rows_in (g.T.Keeper.table c.row_to_delete.new.table)) c.args.own.now c.args.own.now s (λ n out. refl) rows refl a,
    )

pub returns-in-Err-clause-crash : goal.returns-in-Err-clause-crash
returns-in-Err-clause-crash g c = λ told some s a settled.
    crash_same (config_of c.args.config.now) (g.D.Disk.tree c.args.disk.now) s a.files g.D.Disk.clock g.D.Disk.lists c.args.disk.now c.args.disk.now [] (call.Delete c.args.key.now c.args.now) settled
    (nothing_ran g.D.Disk.clock g.D.Disk.lists c.args.disk.now)

pub returns-in-Err-stage-clause-ends : goal.returns-in-Err-stage-clause-ends
returns-in-Err-stage-clause-ends g c = λ told some s a.
    let config = config_of c.args.config.now in
    let tree = g.D.Disk.tree c.args.disk.now in
    let before = g.T.Keeper.table c.args.table.now in
    let after = g.T.Keeper.table c.row_to_delete.new.table in
    let rows = rows_same before after some c.row_to_delete.ensures.same in
    let may = c.in-Ok.ensures.row some s a.sound a.rows_are in
    let asked = call.Delete c.args.key.now c.args.now in (
      ⊎_elim
          (λ fault. subst (λ (why : Denial). Denies config s asked why) (sym fault.1) (fault_denies config s asked (of_disk fault.0) a.sound))
          (λ bad. let r = is_readable config tree s a.files c.args.key.now c.in-Ok.asset may.0 in absurd (bad.1 told r.0 r.1 r.2 r.3))
          c.in-Err-stage.ensures.denied,
      agrees_same config tree (g.D.Disk.tree c.stage.new.disk) (rows_in before) (rows_in after) c.args.own.now c.stage.new.own s (c.stage.ensures.tree told) rows c.in-Err-stage.ensures.clean a,
    )

pub returns-in-Err-stage-clause-crash : goal.returns-in-Err-stage-clause-crash
returns-in-Err-stage-clause-crash g c = λ told some s a settled.
    crash_same (config_of c.args.config.now) (g.D.Disk.tree c.args.disk.now) s a.files g.D.Disk.clock g.D.Disk.lists c.args.disk.now c.stage.new.disk [] (call.Delete c.args.key.now c.args.now) settled
    (c.stage.ensures.any_moment told)

pub returns-in-Err-stage-clause-durable : goal.returns-in-Err-stage-clause-durable
returns-in-Err-stage-clause-durable g c = λ told unbroken settled.
    let clock = g.D.Disk.clock in
    let lists = g.D.Disk.lists in
    let tree = g.D.Disk.tree in
    let d0 = c.args.disk.now in
    let d1 = c.stage.new.disk in
    settled_same (tree d0) (tree d1) (lists d0 (clock d0)) (lists d1 (clock d1)) settled (c.stage.ensures.tree told)
    (at_end clock lists d0 d1 (Same (lists d0 (clock d0))) (c.stage.ensures.any_moment told))

pub returns-in-Ok-show-clause-ends : goal.returns-in-Ok-show-clause-ends
returns-in-Ok-show-clause-ends g c = λ told some s a.
    let config = config_of c.args.config.now in
    let tree = g.D.Disk.tree in
    let table = g.T.Keeper.table in
    let key = c.args.key.now in
    let at = time_of c.args.now in
    let asset = c.in-Ok.asset in
    let mark = c.in-Ok-stage.staged.mark in
    let change_is = c.in-Ok-stage.ensures.change in
    let told_rows : Tells (table c.row_to_delete.new.table) (table c.show.new.table) (λ t u. u ≡ changed t (change.Remove key)) =
    subst (λ (ch : Change). Tells (table c.row_to_delete.new.table) (table c.show.new.table) (λ t u. u ≡ changed t ch)) change_is c.in-Ok-show.ensures.rows in
    let here = still_told (λ t u. u ≡ changed t (change.Remove key)) (table c.row_to_delete.new.table) (table c.show.new.table) some told_rows in
    let may = c.in-Ok.ensures.row here s a.sound a.rows_are in
    let staged = subst (λ (t : ℕ). IsMarkOf g.D.Writer.Writer.content (tree c.args.disk.now) asset.blob deleted t mark) c.time.ensures (c.in-Ok-stage.ensures.mark told) in
    let marks = marks_done config (tree c.args.disk.now) s a.files key asset may.0 (call.Delete key c.args.now) g.D.Writer.Writer.content deleted at mark staged
    (tree c.stage.new.disk) (tree c.show.new.disk) (c.stage.ensures.tree told) (c.in-Ok-show.ensures.named told) (c.show.ensures.rest told) in
    let same = rows_same (table c.args.table.now) (table c.row_to_delete.new.table) here c.row_to_delete.ensures.same in
    let gone = rows_changed (table c.row_to_delete.new.table) (table c.show.new.table) (change.Remove key) some told_rows
    (λ (r : map.FinMap key_cmp Asset). map.remove r key) (λ t. refl) in
    let rows : rows_in (table c.show.new.table) ≡ map.remove (rows_in (table c.args.table.now)) key = gone ∙ ap (λ (r : map.FinMap key_cmp Asset). map.remove r key) same in (
      without_row s key asset at,
      ([], may.1),
      agrees_gone config (tree c.args.disk.now) (tree c.show.new.disk) (rows_in (table c.args.table.now)) (rows_in (table c.show.new.table)) c.args.own.now c.stage.new.own s key asset deleted at a marks rows
          (c.in-Ok-stage.ensures.trash ∙ ap (λ (t : ℕ). record c.args.own.now { trash = discarded c.args.own.now.trash key asset t }) c.time.ensures),
    )

pub returns-in-Ok-show-clause-crash : goal.returns-in-Ok-show-clause-crash
returns-in-Ok-show-clause-crash g c = λ told some s a settled.
    let config = config_of c.args.config.now in
    let tree = g.D.Disk.tree in
    let table = g.T.Keeper.table in
    let key = c.args.key.now in
    let at = time_of c.args.now in
    let change_is = c.in-Ok-stage.ensures.change in
    let told_rows : Tells (table c.row_to_delete.new.table) (table c.show.new.table) (λ t u. u ≡ changed t (change.Remove key)) =
    subst (λ (ch : Change). Tells (table c.row_to_delete.new.table) (table c.show.new.table) (λ t u. u ≡ changed t ch)) change_is c.in-Ok-show.ensures.rows in
    let here = still_told (λ t u. u ≡ changed t (change.Remove key)) (table c.row_to_delete.new.table) (table c.show.new.table) some told_rows in
    let may = c.in-Ok.ensures.row here s a.sound a.rows_are in
    crash_marked config (tree c.args.disk.now) s a.files key c.in-Ok.asset may.0 (call.Delete key c.args.now) g.D.Writer.Writer.content deleted at c.in-Ok-stage.staged.mark (subst (λ (t : ℕ). IsMarkOf g.D.Writer.Writer.content (tree c.args.disk.now) c.in-Ok.asset.blob deleted t c.in-Ok-stage.staged.mark) c.time.ensures (c.in-Ok-stage.ensures.mark told))
    g.D.Disk.clock g.D.Disk.lists c.args.disk.now c.stage.new.disk c.show.new.disk (without_row s key c.in-Ok.asset at) reply.Gone may.1 refl refl settled
    (c.stage.ensures.any_moment told) (c.show.ensures.any_moment told)

pub returns-in-Ok-show-clause-durable : goal.returns-in-Ok-show-clause-durable
returns-in-Ok-show-clause-durable g c = λ told unbroken settled.
    let clock = g.D.Disk.clock in
    let lists = g.D.Disk.lists in
    let tree = g.D.Disk.tree in
    let d0 = c.args.disk.now in
    let d1 = c.stage.new.disk in
    let d2 = c.show.new.disk in
    let mark = c.in-Ok-stage.staged.mark in
    let name = props_at mark.files.place in
    let value = Some (g.D.Writer.Writer.content mark.file) in
    let put = at_end clock lists d1 d2 (MayPut name value (lists d1 (clock d1))) (c.show.ensures.any_moment told) in
    let same = at_end clock lists d0 d1 (Same (lists d0 (clock d0))) (c.stage.ensures.any_moment told) in
    settled_put name value (tree d0) (tree d2) (lists d0 (clock d0)) (lists d2 (clock d2)) settled
    (λ n out other. c.show.ensures.rest told n out other ∙ c.stage.ensures.tree told n out)
    (λ n out other. put.rest n out other ∙ same n out)
    (c.in-Ok-show.ensures.named told) (c.in-Ok-show.ensures.settled told)

pub returns-clause-crash : goal.returns-clause-crash
returns-clause-crash g c = λ told some s a settled.
    let config = config_of c.args.config.now in
    let tree = g.D.Disk.tree in
    let table = g.T.Keeper.table in
    let key = c.args.key.now in
    let at = time_of c.args.now in
    let here = still_told (λ t u. OnOk {T = Unit {0}} (Err c.in-Err-show.fault) (u ≡ changed t c.in-Ok-stage.staged.change)) (table c.row_to_delete.new.table) (table c.show.new.table) some c.in-Err-show.ensures.rows in
    let may = c.in-Ok.ensures.row here s a.sound a.rows_are in
    crash_marked config (tree c.args.disk.now) s a.files key c.in-Ok.asset may.0 (call.Delete key c.args.now) g.D.Writer.Writer.content deleted at c.in-Ok-stage.staged.mark (subst (λ (t : ℕ). IsMarkOf g.D.Writer.Writer.content (tree c.args.disk.now) c.in-Ok.asset.blob deleted t c.in-Ok-stage.staged.mark) c.time.ensures (c.in-Ok-stage.ensures.mark told))
    g.D.Disk.clock g.D.Disk.lists c.args.disk.now c.stage.new.disk c.show.new.disk (without_row s key c.in-Ok.asset at) reply.Gone may.1 refl refl settled
    (c.stage.ensures.any_moment told) (c.show.ensures.any_moment told)

denied_so : (a b : Denial) (x y : Result (Unit {0}) Stop) → x ≡ Err (stop.Denied a) → y ≡ Err (stop.Denied b) → x ≡ y → a ≡ b
denied_so a b x y p q e = cc

failed_is_no_damage : (what : Fault) (size : ℕ) (found : Option ℕ) → denial.Failed what ≡ denial.Damaged size found → ⊥
failed_is_no_damage what size found e = cc

pub returns-in-Err-stage-clause-whole : goal.returns-in-Err-stage-clause-whole
returns-in-Err-stage-clause-whole g c = λ told some s a size found is.
    let config = config_of c.args.config.now in
    let tree = g.D.Disk.tree c.args.disk.now in
    let may = c.in-Ok.ensures.row some s a.sound a.rows_are in
    ⊎_elim
    (λ fault. failed_is_no_damage (of_disk fault.0) size found (sym fault.1 ∙ denied_so c.in-Err-stage.why (denial.Damaged size found) (Err (stop.Denied c.in-Err-stage.why)) (Err (stop.Denied (denial.Damaged size found))) refl refl is))
    (λ bad. let r = is_readable config tree s a.files c.args.key.now c.in-Ok.asset may.0 in bad.1 told r.0 r.1 r.2 r.3)
    c.in-Err-stage.ensures.denied

pub returns-in-Err-stage-clause-stays : goal.returns-in-Err-stage-clause-stays
returns-in-Err-stage-clause-stays g c = λ told. stay_same (g.D.Disk.tree c.args.disk.now) (g.D.Disk.tree c.stage.new.disk) (c.stage.ensures.tree told)

pub returns-in-Ok-show-clause-stays : goal.returns-in-Ok-show-clause-stays
returns-in-Ok-show-clause-stays g c = λ told.
    let tree = g.D.Disk.tree in
    stay_marked (tree c.args.disk.now) (tree c.stage.new.disk) (tree c.show.new.disk) c.in-Ok-stage.staged.mark.files.place
    (stay_same (tree c.args.disk.now) (tree c.stage.new.disk) (c.stage.ensures.tree told)) (c.show.ensures.rest told)

pub returns-clause-stays : goal.returns-clause-stays
returns-clause-stays g c = λ told.
    let tree = g.D.Disk.tree in
    stay_marked (tree c.args.disk.now) (tree c.stage.new.disk) (tree c.show.new.disk) c.in-Ok-stage.staged.mark.files.place
    (stay_same (tree c.args.disk.now) (tree c.stage.new.disk) (c.stage.ensures.tree told)) (c.show.ensures.rest told)

pub returns-in-Err-stage-clause-why : goal.returns-in-Err-stage-clause-why
returns-in-Err-stage-clause-why g c =
    unstaged_delete (config_of c.args.config.now) c.args.key.now (g.T.Keeper.found c.row_to_delete.new.table) c.in-Ok.ensures.opens.0 c.in-Ok.ensures.opens.1
    g.D.Disk.told (g.D.Disk.tree c.args.disk.now) c.in-Ok.asset c.in-Err-stage.why c.in-Err-stage.ensures.denied

pub returns-clause-why : goal.returns-clause-why
returns-clause-why g c =
    failed_delete (config_of c.args.config.now) c.args.key.now (g.T.Keeper.found c.show.new.table) c.in-Ok.ensures.opens.0 (c.show.ensures.found ∙ c.in-Ok.ensures.opens.1) c.in-Err-show.fault

pub returns-in-Err-clause-rest : goal.returns-in-Err-clause-rest
returns-in-Err-clause-rest g c = λ told some s a. rest_still (devices g.D.Disk g.T.Keeper) (TouchesRow c.args.key.now s) told c.args.disk.now

pub returns-in-Err-clause-table : goal.returns-in-Err-clause-table
returns-in-Err-clause-table g c =
    tells_map (λ s t. t ≡ s) (λ s t. (t ≡ s) ⊎ RemovesRow c.args.key.now s t) (g.T.Keeper.table c.args.table.now) (g.T.Keeper.table c.row_to_delete.new.table) (λ s t same. inl same) c.row_to_delete.ensures.same

pub returns-in-Err-stage-clause-rest : goal.returns-in-Err-stage-clause-rest
returns-in-Err-stage-clause-rest g c = λ told some s a.
    rest_quiet (devices g.D.Disk g.T.Keeper) (TouchesRow c.args.key.now s) told c.args.disk.now c.stage.new.disk (record { files = c.stage.ensures.tree; moments = c.stage.ensures.any_moment; shown = c.stage.ensures.shown })

pub returns-in-Err-stage-clause-table : goal.returns-in-Err-stage-clause-table
returns-in-Err-stage-clause-table g c =
    tells_map (λ s t. t ≡ s) (λ s t. (t ≡ s) ⊎ RemovesRow c.args.key.now s t) (g.T.Keeper.table c.args.table.now) (g.T.Keeper.table c.row_to_delete.new.table) (λ s t same. inl same) c.row_to_delete.ensures.same

pub returns-in-Ok-show-clause-rest : goal.returns-in-Ok-show-clause-rest
returns-in-Ok-show-clause-rest g c = λ told some s a.
    let on = devices g.D.Disk g.T.Keeper in
    let table = g.T.Keeper.table in
    let mark = c.in-Ok-stage.staged.mark in
    let asset = c.in-Ok.asset in
    let here = still_told (λ t u. (u ≡ t) ⊎ (u ≡ changed t c.in-Ok-stage.staged.change)) (table c.row_to_delete.new.table) (table c.show.new.table) some c.show.ensures.table in
    let row = (c.in-Ok.ensures.row here s a.sound a.rows_are).0 in
    rest_then on (TouchesRow c.args.key.now s) c.args.disk.now c.stage.new.disk c.show.new.disk
    (rest_quiet on (TouchesRow c.args.key.now s) told c.args.disk.now c.stage.new.disk (record { files = c.stage.ensures.tree; moments = c.stage.ensures.any_moment; shown = c.stage.ensures.shown }))
    (rest_put on (TouchesRow c.args.key.now s) (props_at mark.files.place) (Some (g.D.Writer.Writer.content mark.file)) c.stage.new.disk c.show.new.disk (asset, row, ap props_at (c.in-Ok-stage.ensures.mark told).place_is)
    (c.show.ensures.rest told) (c.show.ensures.any_moment told))

pub returns-in-Ok-show-clause-table : goal.returns-in-Ok-show-clause-table
returns-in-Ok-show-clause-table g c =
    let change_is = c.in-Ok-stage.ensures.change in
    tells_then (λ s t. t ≡ s) (λ t u. (u ≡ t) ⊎ (u ≡ changed t c.in-Ok-stage.staged.change)) (λ s u. (u ≡ s) ⊎ RemovesRow c.args.key.now s u)
    (g.T.Keeper.table c.args.table.now) (g.T.Keeper.table c.row_to_delete.new.table) (g.T.Keeper.table c.show.new.table)
    (λ s t u first second. same_then_changed c.in-Ok-stage.staged.change (change.Remove c.args.key.now) s t u change_is first second) c.row_to_delete.ensures.same c.show.ensures.table

pub returns-clause-rest : goal.returns-clause-rest
returns-clause-rest g c = λ told some s a.
    let on = devices g.D.Disk g.T.Keeper in
    let table = g.T.Keeper.table in
    let mark = c.in-Ok-stage.staged.mark in
    let asset = c.in-Ok.asset in
    let here = still_told (λ t u. (u ≡ t) ⊎ (u ≡ changed t c.in-Ok-stage.staged.change)) (table c.row_to_delete.new.table) (table c.show.new.table) some c.show.ensures.table in
    let row = (c.in-Ok.ensures.row here s a.sound a.rows_are).0 in
    rest_then on (TouchesRow c.args.key.now s) c.args.disk.now c.stage.new.disk c.show.new.disk
    (rest_quiet on (TouchesRow c.args.key.now s) told c.args.disk.now c.stage.new.disk (record { files = c.stage.ensures.tree; moments = c.stage.ensures.any_moment; shown = c.stage.ensures.shown }))
    (rest_put on (TouchesRow c.args.key.now s) (props_at mark.files.place) (Some (g.D.Writer.Writer.content mark.file)) c.stage.new.disk c.show.new.disk (asset, row, ap props_at (c.in-Ok-stage.ensures.mark told).place_is)
    (c.show.ensures.rest told) (c.show.ensures.any_moment told))

pub returns-clause-table : goal.returns-clause-table
returns-clause-table g c =
    tells_then (λ s t. t ≡ s) (λ t u. (u ≡ t) ⊎ (u ≡ changed t c.in-Ok-stage.staged.change)) (λ s u. (u ≡ s) ⊎ RemovesRow c.args.key.now s u)
    (g.T.Keeper.table c.args.table.now) (g.T.Keeper.table c.row_to_delete.new.table) (g.T.Keeper.table c.show.new.table)
    (λ s t u first second. same_then_changed c.in-Ok-stage.staged.change (change.Remove c.args.key.now) s t u c.in-Ok-stage.ensures.change first second) c.row_to_delete.ensures.same c.show.ensures.table

pub returns-in-Ok-show-clause-marked : goal.returns-in-Ok-show-clause-marked
returns-in-Ok-show-clause-marked g c = λ told some s asset a row.
    let tree = g.D.Disk.tree in
    let table = g.T.Keeper.table in
    let mark = c.in-Ok-stage.staged.mark in
    let here = still_told (λ t u. (u ≡ t) ⊎ (u ≡ changed t c.in-Ok-stage.staged.change)) (table c.row_to_delete.new.table) (table c.show.new.table) some c.show.ensures.table in
    let may = c.in-Ok.ensures.row here s a.sound a.rows_are in
    row_marked (tree c.args.disk.now) (tree c.show.new.disk) deleted c.time.result (time_of c.args.now) c.in-Ok.asset asset _ may.0 row c.time.ensures
    (has_mark g.D.Writer.Writer.content (tree c.args.disk.now) (tree c.show.new.disk) c.in-Ok.asset.blob deleted c.time.result mark (c.in-Ok-stage.ensures.mark told) (c.in-Ok-show.ensures.named told))

pub returns-in-Err-clause-keeps : goal.returns-in-Err-clause-keeps
returns-in-Err-clause-keeps g c = λ moment is made. absurd (true≢false made)

pub returns-in-Err-stage-clause-keeps : goal.returns-in-Err-stage-clause-keeps
returns-in-Err-stage-clause-keeps g c = λ moment is made. absurd (true≢false made)

pub returns-in-Ok-show-clause-keeps : goal.returns-in-Ok-show-clause-keeps
returns-in-Ok-show-clause-keeps g c = λ moment is made. (
  c.in-Ok.asset,
  c.in-Ok-stage.ensures.trash ∙ ap (λ (t : ℕ). record c.args.own.now { trash = discarded c.args.own.now.trash c.args.key.now c.in-Ok.asset t }) (c.time.ensures ∙ ap time_of (sym is)),
)

pub returns-clause-keeps : goal.returns-clause-keeps
returns-clause-keeps g c = λ moment is made. (
  c.in-Ok.asset,
  c.in-Ok-stage.ensures.trash ∙ ap (λ (t : ℕ). record c.args.own.now { trash = discarded c.args.own.now.trash c.args.key.now c.in-Ok.asset t }) (c.time.ensures ∙ ap time_of (sym is)),
)

pub returns-clause-halfway : goal.returns-clause-halfway
returns-clause-halfway g c = λ told some s a broke.
    let config = config_of c.args.config.now in
    let tree = g.D.Disk.tree in
    let table = g.T.Keeper.table in
    let key = c.args.key.now in
    let at = time_of c.args.now in
    let mark = c.in-Ok-stage.staged.mark in
    let told_rows : Tells (table c.row_to_delete.new.table) (table c.show.new.table) (λ t u. (u ≡ t) ⊎ (u ≡ changed t (change.Remove key))) =
    subst (λ (ch : Change). Tells (table c.row_to_delete.new.table) (table c.show.new.table) (λ t u. (u ≡ t) ⊎ (u ≡ changed t ch))) c.in-Ok-stage.ensures.change c.show.ensures.table in
    let here = still_told (λ t u. (u ≡ t) ⊎ (u ≡ changed t (change.Remove key))) (table c.row_to_delete.new.table) (table c.show.new.table) some told_rows in
    let may = c.in-Ok.ensures.row here s a.sound a.rows_are in
    halfway_marked config (tree c.args.disk.now) s a.files key c.in-Ok.asset may.0 (call.Delete key c.args.now) g.D.Writer.Writer.content deleted at mark (subst (λ (t : ℕ). IsMarkOf g.D.Writer.Writer.content (tree c.args.disk.now) c.in-Ok.asset.blob deleted t mark) c.time.ensures (c.in-Ok-stage.ensures.mark told))
    (tree c.stage.new.disk) (tree c.show.new.disk) (c.stage.ensures.tree told) (c.in-Err-show.ensures.refused told) (c.show.ensures.rest told)
    (without_row s key c.in-Ok.asset at) reply.Gone may.1 refl refl (rows_in (table c.show.new.table))
    (rows_either (table c.args.table.now) (table c.row_to_delete.new.table) (table c.show.new.table) (change.Remove key) s.rows (λ (r : map.FinMap key_cmp Asset). map.remove r key) (λ t. refl) some c.row_to_delete.ensures.same told_rows a.rows_are)
