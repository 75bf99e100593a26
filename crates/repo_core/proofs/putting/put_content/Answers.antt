use Rattle.std.proofs.Common.{◌≡◌, ◌⊎◌, inl, inr, ℕ, List, Bool, ◌&&◌, Option, Some, None, codes, OnOk, Err, refl, sym, ◌∙◌, ap, subst, arith, true≢false}
use Rattle.std.specs.FinMap as map
use Rattle.nx_base.specs.Order.{key_cmp}
use Rattle.nx_base.specs.declared.asset.Asset.{Asset}
use Rattle.disk_model.specs.Disk.{Same}
use Rattle.disk_model.specs.Moments.{MayPut}
use Rattle.disk_model.proofs.Images.{settled_same, settled_put}
use Rattle.asset_keeper.specs.Table.{changed}
use Rattle.asset_keeper.specs.Told.{Tells}
use Rattle.asset_keeper.specs.declared.change.Change.{Change}
use Rattle.asset_keeper.specs.declared.change.Change.TheVariants as change
use Rattle.repo_model.specs.Plain.{config_of}
use Rattle.repo_model.specs.Timestamps.{time_of}
use Rattle.blob_paths.specs.declared.ending.Ending.TheVariants.{Bytes}
use Rattle.tree_content.specs.Blobs.{bytes_at, props_at, bytes_name}
use Rattle.tree_content.proofs.Names.{outside}
use Rattle.tree_content.specs.Files.{Creates}
use Rattle.repo_core.specs.Faults.{refusal_for}
use Rattle.repo_core.specs.Rows.{rows_in}
use Rattle.repo_core.specs.Why.{WhyNotPut, keeps_rows}
use Rattle.repo_core.specs.declared.marking.Mark.{Mark}
use Rattle.repo_core.specs.Asks.{TouchesNew, SetsRow}
use Rattle.repo_core.specs.Devices.{devices}
use Rattle.repo_core.specs.Marks.{HasOld}
use Rattle.repo_core.specs.Puts.{put_for, props_of, IsPrepared}
use Rattle.repo_core.proofs.Tables.{rows_same, rows_changed, rows_either, still_told, tells_then}
use Rattle.repo_core.proofs.Runs.{at_end, still_same}
use Rattle.repo_core.proofs.Rises.{stopped_by_disk, not_by_keeper}
use Rattle.repo_core.proofs.Stays.{bytes_apart, stay_same, stay_marked, stay_made, at_blob}
use Rattle.repo_core.proofs.Givings.{crash_same, agrees_same}
use Rattle.repo_core.proofs.Replacings.{settled_created, no_old, its_old}
use Rattle.repo_core.proofs.Endings.{new_one, crash_one, crash_two, halfway_one, halfway_two, put_first, put_again}
use Rattle.repo_core.proofs.GivenUp.{made_still}
use Rattle.repo_core.proofs.Halfways.{created_still}
use Rattle.repo_core.proofs.Whys.{failed_put}
use Rattle.repo_core.proofs.Texts.{has_mark, has_props, row_marked, still_has_props}
use Rattle.repo_core.proofs.Answering.{tells_map}
use Rattle.repo_core.proofs.Rests.{rest_created, rest_put, rest_quiet, rest_then, same_then_sets}
use Rattle.repo_core.proofs.putting.put_content.Goals as goal

pub returns-in-Err-clause-ends : goal.returns-in-Err-clause-ends
returns-in-Err-clause-ends g c = λ told some may are s a.
    let config = config_of c.args.config.now in
    let tree = g.D.Disk.tree in
    let before = g.T.Keeper.table c.args.table.now in
    let after = g.T.Keeper.table c.prepare.new.table in (
      c.in-Err.ensures.ready told some may s a,
      agrees_same config (tree c.args.disk.now) (tree c.discard.new.self) (rows_in before) (rows_in after) c.args.own.now c.prepare.new.own s
          (λ n out. c.discard.ensures.tree told n out ∙ c.prepare.ensures.tree told n out) (rows_same before after some c.prepare.ensures.rows) c.in-Err.ensures.clean a,
    )

pub returns-in-Err-clause-crash : goal.returns-in-Err-clause-crash
returns-in-Err-clause-crash g c = λ told some may are s a settled.
    let clock = g.D.Disk.clock in
    let lists = g.D.Disk.lists in
    crash_same (config_of c.args.config.now) (g.D.Disk.tree c.args.disk.now) s a.files clock lists c.args.disk.now c.discard.new.self c.args.store.now (put_for c.args.upload.now c.args.moment.now) settled
    (still_same clock lists c.args.disk.now c.prepare.new.disk c.discard.new.self (c.prepare.ensures.any_moment told) (c.discard.ensures.time told) (c.discard.ensures.crash told))

pub returns-in-Err-clause-durable : goal.returns-in-Err-clause-durable
returns-in-Err-clause-durable g c = λ told unbroken settled.
    let clock = g.D.Disk.clock in
    let lists = g.D.Disk.lists in
    let tree = g.D.Disk.tree in
    let d0 = c.args.disk.now in
    let d1 = c.prepare.new.disk in
    let d2 = c.discard.new.self in
    let run = still_same clock lists d0 d1 d2 (c.prepare.ensures.any_moment told) (c.discard.ensures.time told) (c.discard.ensures.crash told) in
    settled_same (tree d0) (tree d2) (lists d0 (clock d0)) (lists d2 (clock d2)) settled
    (λ n out. c.discard.ensures.tree told n out ∙ c.prepare.ensures.tree told n out) (at_end clock lists d0 d2 (Same (lists d0 (clock d0))) run)

pub returns-in-Err-clause-clean_moments : goal.returns-in-Err-clause-clean_moments
returns-in-Err-clause-clean_moments g c = λ told denied.
    still_same g.D.Disk.clock g.D.Disk.lists c.args.disk.now c.prepare.new.disk c.discard.new.self (c.prepare.ensures.any_moment told) (c.discard.ensures.time told) (c.discard.ensures.crash told)

pub returns-in-Err-show_new-clause-crash : goal.returns-in-Err-show_new-clause-crash
returns-in-Err-show_new-clause-crash g c = λ told some may are s a settled.
    let config = config_of c.args.config.now in
    let tree = g.D.Disk.tree in
    let table = g.T.Keeper.table in
    let staged = c.in-Ok.staged in
    let content = g.D.Writer.Writer.content in
    let rows0 = rows_in (table c.args.table.now) in
    let here = still_told (λ t u. OnOk {T = Unit {0}} (Err c.in-Err-show_new.fault) (u ≡ changed t c.in-Ok.staged.new.change)) (table c.prepare.new.table) (table c.show_new.new.table) some c.in-Err-show_new.ensures.rows in
    let p : IsPrepared g.D.Writer.Writer.content config (tree c.args.disk.now) s c.args.store.now c.args.upload.now c.args.moment.now c.args.own.now c.prepare.new.own staged =
    c.in-Ok.ensures.ready told here may s a in
    crash_one content config (tree c.args.disk.now) s c.args.store.now c.args.upload.now c.args.moment.now c.args.own.now c.prepare.new.own staged rows0 a may p (content c.args.file) are
    g.D.Disk.clock g.D.Disk.lists c.args.disk.now c.prepare.new.disk c.give_up_mark.new.disk (tree c.prepare.new.disk) (c.prepare.ensures.tree told) settled (c.prepare.ensures.any_moment told)
    (made_still staged.new.files.place (content c.args.file) staged.new.text.items staged.new.files.bytes_outside staged.new.files.properties_outside g.D.Disk.clock g.D.Disk.lists
    c.prepare.new.disk c.show_new.new.disk c.give_up_mark.new.disk (c.show_new.ensures.any_moment told) (c.give_up_mark.ensures.any_moment told))

pub returns-in_default-mark-clause-ends : goal.returns-in_default-mark-clause-ends
returns-in_default-mark-clause-ends g c = λ told some may are s a.
    let config = config_of c.args.config.now in
    let tree = g.D.Disk.tree in
    let table = g.T.Keeper.table in
    let staged = c.in-Ok.staged in
    let content = g.D.Writer.Writer.content in
    let rows0 = rows_in (table c.args.table.now) in
    let here = still_told (λ t u. u ≡ changed t c.in-Ok.staged.new.change) (table c.prepare.new.table) (table c.show_new.new.table) some c.in_default.ensures.rows in
    let p : IsPrepared g.D.Writer.Writer.content config (tree c.args.disk.now) s c.args.store.now c.args.upload.now c.args.moment.now c.args.own.now c.prepare.new.own staged =
    c.in-Ok.ensures.ready told here may s a in
    let asset = new_one content config (tree c.args.disk.now) s c.args.store.now c.args.upload.now c.args.moment.now c.args.own.now c.prepare.new.own staged rows0 a may p (content c.args.file) are in
    let setting = change.Set (record { key = c.args.upload.now.key; asset = asset }) in
    let told_rows = subst (λ (ch : Change). Tells (table c.prepare.new.table) (table c.show_new.new.table) (λ t u. u ≡ changed t ch)) p.new.change_is c.in_default.ensures.rows in
    let rows_now : rows_in (table c.show_new.new.table) ≡ map.insert rows0 c.args.upload.now.key asset =
    rows_changed (table c.prepare.new.table) (table c.show_new.new.table) setting some told_rows (λ (r : map.FinMap key_cmp Asset). map.insert r c.args.upload.now.key asset) (λ t. refl)
    ∙ ap (λ (r : map.FinMap key_cmp Asset). map.insert r c.args.upload.now.key asset) (rows_same (table c.args.table.now) (table c.prepare.new.table) here c.prepare.ensures.rows) in
    put_first content config (tree c.args.disk.now) s c.args.store.now c.args.upload.now c.args.moment.now c.args.own.now c.prepare.new.own staged rows0 a may p (content c.args.file) are
    (tree c.prepare.new.disk) (tree c.show_new.new.disk) (c.prepare.ensures.tree told) (c.in_default.ensures.bytes told) (c.in_default.ensures.props told) (c.show_new.ensures.rest told) (rows_in (table c.show_new.new.table)) rows_now c.in_default-mark.is

pub returns-in_default-mark-clause-crash : goal.returns-in_default-mark-clause-crash
returns-in_default-mark-clause-crash g c = λ told some may are s a settled.
    let config = config_of c.args.config.now in
    let tree = g.D.Disk.tree in
    let table = g.T.Keeper.table in
    let staged = c.in-Ok.staged in
    let content = g.D.Writer.Writer.content in
    let rows0 = rows_in (table c.args.table.now) in
    let here = still_told (λ t u. u ≡ changed t c.in-Ok.staged.new.change) (table c.prepare.new.table) (table c.show_new.new.table) some c.in_default.ensures.rows in
    let p : IsPrepared g.D.Writer.Writer.content config (tree c.args.disk.now) s c.args.store.now c.args.upload.now c.args.moment.now c.args.own.now c.prepare.new.own staged =
    c.in-Ok.ensures.ready told here may s a in
    crash_one content config (tree c.args.disk.now) s c.args.store.now c.args.upload.now c.args.moment.now c.args.own.now c.prepare.new.own staged rows0 a may p (content c.args.file) are
    g.D.Disk.clock g.D.Disk.lists c.args.disk.now c.prepare.new.disk c.show_new.new.disk (tree c.prepare.new.disk) (c.prepare.ensures.tree told) settled (c.prepare.ensures.any_moment told) (c.show_new.ensures.any_moment told)

pub returns-in_default-mark-clause-durable : goal.returns-in_default-mark-clause-durable
returns-in_default-mark-clause-durable g c = λ told unbroken settled.
    let clock = g.D.Disk.clock in
    let lists = g.D.Disk.lists in
    let tree = g.D.Disk.tree in
    let d0 = c.args.disk.now in
    let d1 = c.prepare.new.disk in
    let d2 = c.show_new.new.disk in
    let new = c.in-Ok.staged.new in
    let bytes = g.D.Writer.Writer.content c.args.file in
    let same = at_end clock lists d0 d1 (Same (lists d0 (clock d0))) (c.prepare.ensures.any_moment told) in
    let made = at_end clock lists d1 d2 (Creates new.files.place bytes new.text.items (lists d1 (clock d1))) (c.show_new.ensures.any_moment told) in
    settled_created new.files.place bytes new.text.items (tree d0) (tree d2) (lists d0 (clock d0)) (lists d2 (clock d2)) settled
    (λ n out not_bytes not_props. c.show_new.ensures.rest told n out not_bytes not_props ∙ c.prepare.ensures.tree told n out)
    (λ n out not_bytes not_props. made.others n out not_bytes not_props ∙ same n out)
    (c.in_default.ensures.bytes told) (c.in_default.ensures.bytes_settled told) (c.in_default.ensures.props told) (c.in_default.ensures.props_settled told)

pub returns-in-Ok-place-clause-ends : goal.returns-in-Ok-place-clause-ends
returns-in-Ok-place-clause-ends g c = λ told some may are s a.
    let config = config_of c.args.config.now in
    let tree = g.D.Disk.tree in
    let table = g.T.Keeper.table in
    let staged = c.in-Ok.staged in
    let content = g.D.Writer.Writer.content in
    let rows0 = rows_in (table c.args.table.now) in
    let here = still_told (λ t u. u ≡ changed t c.in-Ok.staged.new.change) (table c.prepare.new.table) (table c.show_new.new.table) some c.in_default.ensures.rows in
    let p : IsPrepared g.D.Writer.Writer.content config (tree c.args.disk.now) s c.args.store.now c.args.upload.now c.args.moment.now c.args.own.now c.prepare.new.own staged =
    c.in-Ok.ensures.ready told here may s a in
    let asset = new_one content config (tree c.args.disk.now) s c.args.store.now c.args.upload.now c.args.moment.now c.args.own.now c.prepare.new.own staged rows0 a may p (content c.args.file) are in
    let setting = change.Set (record { key = c.args.upload.now.key; asset = asset }) in
    let told_rows = subst (λ (ch : Change). Tells (table c.prepare.new.table) (table c.show_new.new.table) (λ t u. u ≡ changed t ch)) p.new.change_is c.in_default.ensures.rows in
    let rows_now : rows_in (table c.show_new.new.table) ≡ map.insert rows0 c.args.upload.now.key asset =
    rows_changed (table c.prepare.new.table) (table c.show_new.new.table) setting some told_rows (λ (r : map.FinMap key_cmp Asset). map.insert r c.args.upload.now.key asset) (λ t. refl)
    ∙ ap (λ (r : map.FinMap key_cmp Asset). map.insert r c.args.upload.now.key asset) (rows_same (table c.args.table.now) (table c.prepare.new.table) here c.prepare.ensures.rows) in
    put_again content config (tree c.args.disk.now) s c.args.store.now c.args.upload.now c.args.moment.now c.args.own.now c.prepare.new.own staged rows0 a may p (content c.args.file) are
    (tree c.prepare.new.disk) (tree c.show_new.new.disk) (c.prepare.ensures.tree told) (c.in_default.ensures.bytes told) (c.in_default.ensures.props told) (c.show_new.ensures.rest told)
    c.in-Some.mark c.in-Some.is (tree c.place.new.disk) (rows_in (table c.show_new.new.table)) rows_now (c.in-Ok-place.ensures.named told) (c.place.ensures.rest told)

pub returns-in-Ok-place-clause-crash : goal.returns-in-Ok-place-clause-crash
returns-in-Ok-place-clause-crash g c = λ told some may are s a settled.
    let config = config_of c.args.config.now in
    let tree = g.D.Disk.tree in
    let table = g.T.Keeper.table in
    let staged = c.in-Ok.staged in
    let content = g.D.Writer.Writer.content in
    let rows0 = rows_in (table c.args.table.now) in
    let here = still_told (λ t u. u ≡ changed t c.in-Ok.staged.new.change) (table c.prepare.new.table) (table c.show_new.new.table) some c.in_default.ensures.rows in
    let p : IsPrepared g.D.Writer.Writer.content config (tree c.args.disk.now) s c.args.store.now c.args.upload.now c.args.moment.now c.args.own.now c.prepare.new.own staged =
    c.in-Ok.ensures.ready told here may s a in
    let clock = g.D.Disk.clock in
    let lists = g.D.Disk.lists in
    let d0 = c.args.disk.now in
    let d1 = c.prepare.new.disk in
    let d2 = c.show_new.new.disk in
    let bytes = g.D.Writer.Writer.content c.args.file in
    let new = c.in-Ok.staged.new in
    let same = at_end clock lists d0 d1 (Same (lists d0 (clock d0))) (c.prepare.ensures.any_moment told) in
    let made = at_end clock lists d1 d2 (Creates new.files.place bytes new.text.items (lists d1 (clock d1))) (c.show_new.ensures.any_moment told) in
    let mid = settled_created new.files.place bytes new.text.items (tree d0) (tree d2) (lists d0 (clock d0)) (lists d2 (clock d2)) settled
    (λ n out not_bytes not_props. c.show_new.ensures.rest told n out not_bytes not_props ∙ c.prepare.ensures.tree told n out)
    (λ n out not_bytes not_props. made.others n out not_bytes not_props ∙ same n out)
    (c.in_default.ensures.bytes told) (c.in_default.ensures.bytes_settled told) (c.in_default.ensures.props told) (c.in_default.ensures.props_settled told) in
    let first = crash_one content config (tree c.args.disk.now) s c.args.store.now c.args.upload.now c.args.moment.now c.args.own.now c.prepare.new.own staged rows0 a may p (content c.args.file) are
    clock lists d0 d1 d2 (tree d1) (c.prepare.ensures.tree told) settled (c.prepare.ensures.any_moment told) (c.show_new.ensures.any_moment told) in
    crash_two content config (tree c.args.disk.now) s c.args.store.now c.args.upload.now c.args.moment.now c.args.own.now c.prepare.new.own staged rows0 a may p (content c.args.file) are
    (tree c.prepare.new.disk) (tree c.show_new.new.disk) (c.prepare.ensures.tree told) (c.in_default.ensures.bytes told) (c.in_default.ensures.props told) (c.show_new.ensures.rest told)
    c.in-Some.mark c.in-Some.is clock lists d0 d2 c.place.new.disk mid first (c.place.ensures.any_moment told)

pub returns-in-Ok-place-clause-durable : goal.returns-in-Ok-place-clause-durable
returns-in-Ok-place-clause-durable g c = λ told unbroken settled.
    let tree = g.D.Disk.tree in
    let clock = g.D.Disk.clock in
    let lists = g.D.Disk.lists in
    let d0 = c.args.disk.now in
    let d1 = c.prepare.new.disk in
    let d2 = c.show_new.new.disk in
    let bytes = g.D.Writer.Writer.content c.args.file in
    let new = c.in-Ok.staged.new in
    let same = at_end clock lists d0 d1 (Same (lists d0 (clock d0))) (c.prepare.ensures.any_moment told) in
    let made = at_end clock lists d1 d2 (Creates new.files.place bytes new.text.items (lists d1 (clock d1))) (c.show_new.ensures.any_moment told) in
    let mid = settled_created new.files.place bytes new.text.items (tree d0) (tree d2) (lists d0 (clock d0)) (lists d2 (clock d2)) settled
    (λ n out not_bytes not_props. c.show_new.ensures.rest told n out not_bytes not_props ∙ c.prepare.ensures.tree told n out)
    (λ n out not_bytes not_props. made.others n out not_bytes not_props ∙ same n out)
    (c.in_default.ensures.bytes told) (c.in_default.ensures.bytes_settled told) (c.in_default.ensures.props told) (c.in_default.ensures.props_settled told) in
    let d3 = c.place.new.disk in
    let mark = c.in-Some.mark in
    let name = props_at mark.files.place in
    let value = Some (g.D.Writer.Writer.content mark.file) in
    let put = at_end clock lists d2 d3 (MayPut name value (lists d2 (clock d2))) (c.place.ensures.any_moment told) in
    settled_put name value (tree d2) (tree d3) (lists d2 (clock d2)) (lists d3 (clock d3)) mid (c.place.ensures.rest told) put.rest (c.in-Ok-place.ensures.named told) (c.in-Ok-place.ensures.settled told)

pub returns-in-Ok-place-clause-clean_rows : goal.returns-in-Ok-place-clause-clean_rows
returns-in-Ok-place-clause-clean_rows g c =
    tells_then _ _ _ (g.T.Keeper.table c.args.table.now) (g.T.Keeper.table c.prepare.new.table) (g.T.Keeper.table c.show_new.new.table)
    (λ s t u first second denied. absurd (true≢false (sym denied))) c.prepare.ensures.rows c.in_default.ensures.rows

pub returns-clause-crash : goal.returns-clause-crash
returns-clause-crash g c = λ told some may are s a settled.
    let config = config_of c.args.config.now in
    let tree = g.D.Disk.tree in
    let table = g.T.Keeper.table in
    let staged = c.in-Ok.staged in
    let content = g.D.Writer.Writer.content in
    let rows0 = rows_in (table c.args.table.now) in
    let here = still_told (λ t u. u ≡ changed t c.in-Ok.staged.new.change) (table c.prepare.new.table) (table c.show_new.new.table) some c.in_default.ensures.rows in
    let p : IsPrepared g.D.Writer.Writer.content config (tree c.args.disk.now) s c.args.store.now c.args.upload.now c.args.moment.now c.args.own.now c.prepare.new.own staged =
    c.in-Ok.ensures.ready told here may s a in
    let clock = g.D.Disk.clock in
    let lists = g.D.Disk.lists in
    let d0 = c.args.disk.now in
    let d1 = c.prepare.new.disk in
    let d2 = c.show_new.new.disk in
    let bytes = g.D.Writer.Writer.content c.args.file in
    let new = c.in-Ok.staged.new in
    let same = at_end clock lists d0 d1 (Same (lists d0 (clock d0))) (c.prepare.ensures.any_moment told) in
    let made = at_end clock lists d1 d2 (Creates new.files.place bytes new.text.items (lists d1 (clock d1))) (c.show_new.ensures.any_moment told) in
    let mid = settled_created new.files.place bytes new.text.items (tree d0) (tree d2) (lists d0 (clock d0)) (lists d2 (clock d2)) settled
    (λ n out not_bytes not_props. c.show_new.ensures.rest told n out not_bytes not_props ∙ c.prepare.ensures.tree told n out)
    (λ n out not_bytes not_props. made.others n out not_bytes not_props ∙ same n out)
    (c.in_default.ensures.bytes told) (c.in_default.ensures.bytes_settled told) (c.in_default.ensures.props told) (c.in_default.ensures.props_settled told) in
    let first = crash_one content config (tree c.args.disk.now) s c.args.store.now c.args.upload.now c.args.moment.now c.args.own.now c.prepare.new.own staged rows0 a may p (content c.args.file) are
    clock lists d0 d1 d2 (tree d1) (c.prepare.ensures.tree told) settled (c.prepare.ensures.any_moment told) (c.show_new.ensures.any_moment told) in
    crash_two content config (tree c.args.disk.now) s c.args.store.now c.args.upload.now c.args.moment.now c.args.own.now c.prepare.new.own staged rows0 a may p (content c.args.file) are
    (tree c.prepare.new.disk) (tree c.show_new.new.disk) (c.prepare.ensures.tree told) (c.in_default.ensures.bytes told) (c.in_default.ensures.props told) (c.show_new.ensures.rest told)
    c.in-Some.mark c.in-Some.is clock lists d0 d2 c.place.new.disk mid first (c.place.ensures.any_moment told)

pub returns-clause-clean_rows : goal.returns-clause-clean_rows
returns-clause-clean_rows g c =
    tells_then _ _ _ (g.T.Keeper.table c.args.table.now) (g.T.Keeper.table c.prepare.new.table) (g.T.Keeper.table c.show_new.new.table)
    (λ s t u first second denied. absurd (true≢false (sym denied))) c.prepare.ensures.rows c.in_default.ensures.rows

pub returns-clause-disk_cause : goal.returns-clause-disk_cause
returns-clause-disk_cause g c =
    stopped_by_disk (g.D.Disk.faults c.args.disk.now) (g.D.Disk.faults c.show_new.new.disk) (g.D.Disk.faults c.place.new.disk) c.in-Err-place.refusal c.disk_fault.result c.disk_fault.ensures
    (omega (arith, c.prepare.ensures.disk_cause.later, c.show_new.ensures.disk_cause.later)) c.in-Err-place.ensures.cause

pub returns-clause-keeper_cause : goal.returns-clause-keeper_cause
returns-clause-keeper_cause g c =
    not_by_keeper (g.T.Keeper.faults c.args.table.now) (g.T.Keeper.faults c.show_new.new.table) c.in-Err-place.refusal c.disk_fault.result c.disk_fault.ensures
    (omega (arith, c.prepare.ensures.keeper_cause.later, c.show_new.ensures.keeper_cause.later))

pub returns-in-Err-clause-stays : goal.returns-in-Err-clause-stays
returns-in-Err-clause-stays g c = λ told.
    let tree = g.D.Disk.tree in
    stay_same (tree c.args.disk.now) (tree c.discard.new.self) (λ n out. c.discard.ensures.tree told n out ∙ c.prepare.ensures.tree told n out)

pub returns-in-Err-show_new-clause-clean_rows : goal.returns-in-Err-show_new-clause-clean_rows
returns-in-Err-show_new-clause-clean_rows g c =
    tells_then _ _ _ (g.T.Keeper.table c.args.table.now) (g.T.Keeper.table c.prepare.new.table) (g.T.Keeper.table c.show_new.new.table)
    (λ s t u first second denied. absurd (true≢false (sym denied))) c.prepare.ensures.rows c.in-Err-show_new.ensures.rows

pub returns-in-Err-show_new-clause-stays : goal.returns-in-Err-show_new-clause-stays
returns-in-Err-show_new-clause-stays g c = λ told.
    let tree = g.D.Disk.tree in
    stay_made (tree c.args.disk.now) (tree c.prepare.new.disk) (tree c.give_up_mark.new.disk) c.in-Ok.staged.new c.in-Ok.ensures.placed (c.in-Ok.ensures.free told) (c.prepare.ensures.tree told)
    (λ n out not_bytes not_props. c.give_up_mark.ensures.tree told n out ∙ c.show_new.ensures.rest told n out not_bytes not_props)

pub returns-in_default-mark-clause-stays : goal.returns-in_default-mark-clause-stays
returns-in_default-mark-clause-stays g c = λ told.
    let tree = g.D.Disk.tree in
    stay_made (tree c.args.disk.now) (tree c.prepare.new.disk) (tree c.show_new.new.disk) c.in-Ok.staged.new c.in-Ok.ensures.placed (c.in-Ok.ensures.free told) (c.prepare.ensures.tree told) (c.show_new.ensures.rest told)

pub returns-in-Ok-place-clause-made : goal.returns-in-Ok-place-clause-made
returns-in-Ok-place-clause-made g c = λ told.
    let tree = g.D.Disk.tree in
    let blob = c.in-Ok.staged.new.asset.blob in
    c.place.ensures.rest told (bytes_name blob) (outside blob Bytes c.in-Ok.ensures.placed.ref) (bytes_apart blob c.in-Some.mark.files.place)
    ∙ at_blob (tree c.show_new.new.disk) (Some (g.D.Writer.Writer.content c.args.file)) c.in-Ok.staged.new c.in-Ok.ensures.placed (c.in_default.ensures.bytes told)

pub returns-in-Ok-place-clause-stays : goal.returns-in-Ok-place-clause-stays
returns-in-Ok-place-clause-stays g c = λ told.
    let tree = g.D.Disk.tree in
    stay_marked (tree c.args.disk.now) (tree c.show_new.new.disk) (tree c.place.new.disk) c.in-Some.mark.files.place
    (stay_made (tree c.args.disk.now) (tree c.prepare.new.disk) (tree c.show_new.new.disk) c.in-Ok.staged.new c.in-Ok.ensures.placed (c.in-Ok.ensures.free told) (c.prepare.ensures.tree told) (c.show_new.ensures.rest told))
    (c.place.ensures.rest told)

pub returns-clause-stays : goal.returns-clause-stays
returns-clause-stays g c = λ told.
    let tree = g.D.Disk.tree in
    stay_marked (tree c.args.disk.now) (tree c.show_new.new.disk) (tree c.place.new.disk) c.in-Some.mark.files.place
    (stay_made (tree c.args.disk.now) (tree c.prepare.new.disk) (tree c.show_new.new.disk) c.in-Ok.staged.new c.in-Ok.ensures.placed (c.in-Ok.ensures.free told) (c.prepare.ensures.tree told) (c.show_new.ensures.rest told))
    (c.place.ensures.rest told)

pub returns-in-Err-clause-why : goal.returns-in-Err-clause-why
returns-in-Err-clause-why g c =
    subst (λ (o : Option ℕ). WhyNotPut (config_of c.args.config.now) c.args.own.now.last c.args.upload.now.key c.args.moment.now (g.T.Keeper.found c.prepare.new.table) o (refusal_for c.in-Err.why)) (sym c.discard.ensures.look) c.in-Err.ensures.why

pub returns-in-Err-show_new-clause-why : goal.returns-in-Err-show_new-clause-why
returns-in-Err-show_new-clause-why g c =
    let config = config_of c.args.config.now in
    let key = c.args.upload.now.key in
    failed_put config c.args.own.now.last key c.args.moment.now (g.T.Keeper.found c.show_new.new.table) (g.D.Disk.last_look c.give_up_mark.new.disk)
    (ap (λ (b : Bool). keeps_rows config key && b) c.show_new.ensures.found ∙ c.in-Ok.ensures.opens.0) c.in-Ok.ensures.opens.1 c.in-Err-show_new.fault

pub returns-clause-why : goal.returns-clause-why
returns-clause-why g c =
    let config = config_of c.args.config.now in
    let key = c.args.upload.now.key in
    failed_put config c.args.own.now.last key c.args.moment.now (g.T.Keeper.found c.show_new.new.table) (g.D.Disk.last_look c.place.new.disk)
    (ap (λ (b : Bool). keeps_rows config key && b) c.show_new.ensures.found ∙ c.in-Ok.ensures.opens.0) c.in-Ok.ensures.opens.1 c.disk_fault.result

row_or_none : (o : Option Asset) (a : Asset) → o ≡ Some a → o ≡ None → ⊥
row_or_none o a some none = let e : Some a ≡ None = sym some ∙ none in cc

pub returns-in_default-mark-clause-says : goal.returns-in_default-mark-clause-says
returns-in_default-mark-clause-says g c = λ told.
    let new = c.in-Ok.staged.new in
    has_props (g.D.Disk.tree c.show_new.new.disk) new (props_of c.args.upload.now new.asset.blob.timestamp) c.in-Ok.ensures.placed c.in-Ok.ensures.says (c.in_default.ensures.props told)

pub returns-in_default-mark-clause-marked : goal.returns-in_default-mark-clause-marked
returns-in_default-mark-clause-marked g c = λ told some may are s old a row.
    let table = g.T.Keeper.table in
    let tree = g.D.Disk.tree in
    let content = g.D.Writer.Writer.content in
    let staged = c.in-Ok.staged in
    let here = still_told (λ t u. u ≡ changed t c.in-Ok.staged.new.change) (table c.prepare.new.table) (table c.show_new.new.table) some c.in_default.ensures.rows in
    let p : IsPrepared content (config_of c.args.config.now) (tree c.args.disk.now) s c.args.store.now c.args.upload.now c.args.moment.now c.args.own.now c.prepare.new.own staged = c.in-Ok.ensures.ready told here may s a in
    let none = no_old content (config_of c.args.config.now) (tree c.args.disk.now) s a.files c.args.upload.now.key p.old (time_of c.args.moment.now.now) staged.mark p.row p.mark c.in_default-mark.is in
    absurd (row_or_none _ old row none)

pub returns-in-Ok-place-clause-says : goal.returns-in-Ok-place-clause-says
returns-in-Ok-place-clause-says g c = λ told.
    let tree = g.D.Disk.tree in
    let new = c.in-Ok.staged.new in
    let props = props_of c.args.upload.now new.asset.blob.timestamp in
    still_has_props (tree c.args.disk.now) (tree c.show_new.new.disk) (tree c.place.new.disk) new props c.in-Some.mark c.in-Ok.ensures.placed (c.in-Ok.ensures.free told)
    (subst (λ (m : Option (Mark _)). HasOld (tree c.args.disk.now) m) c.in-Some.is (c.in-Ok.ensures.old told)) (c.place.ensures.rest told)
    (has_props (tree c.show_new.new.disk) new props c.in-Ok.ensures.placed c.in-Ok.ensures.says (c.in_default.ensures.props told))

pub returns-in-Ok-place-clause-marked : goal.returns-in-Ok-place-clause-marked
returns-in-Ok-place-clause-marked g c = λ told some may are s old a row.
    let table = g.T.Keeper.table in
    let tree = g.D.Disk.tree in
    let content = g.D.Writer.Writer.content in
    let staged = c.in-Ok.staged in
    let at = time_of c.args.moment.now.now in
    let here = still_told (λ t u. u ≡ changed t c.in-Ok.staged.new.change) (table c.prepare.new.table) (table c.show_new.new.table) some c.in_default.ensures.rows in
    let p : IsPrepared content (config_of c.args.config.now) (tree c.args.disk.now) s c.args.store.now c.args.upload.now c.args.moment.now c.args.own.now c.prepare.new.own staged = c.in-Ok.ensures.ready told here may s a in
    let was = its_old content (tree c.args.disk.now) s c.args.upload.now.key c.args.own.now c.prepare.new.own p.old at staged.mark c.in-Some.mark p.row p.mark p.trash c.in-Some.is in
    row_marked (tree c.args.disk.now) (tree c.place.new.disk) (codes "Replaced") at at was.0 old _ was.1 row refl
    (has_mark content (tree c.args.disk.now) (tree c.place.new.disk) was.0.blob (codes "Replaced") at c.in-Some.mark was.2 (c.in-Ok-place.ensures.named told))

pub returns-in-Err-clause-rest : goal.returns-in-Err-clause-rest
returns-in-Err-clause-rest g c = λ told some may s a.
    rest_quiet (devices g.D.Disk g.T.Keeper) (TouchesNew c.args.store.now c.args.upload.now.key c.args.moment.now s) told c.args.disk.now c.discard.new.self (record {
      files = λ told n out. c.discard.ensures.tree told n out ∙ c.prepare.ensures.tree told n out;
      moments = λ told. still_same g.D.Disk.clock g.D.Disk.lists c.args.disk.now c.prepare.new.disk c.discard.new.self (c.prepare.ensures.any_moment told) (c.discard.ensures.time told) (c.discard.ensures.crash told);
      shown = c.discard.ensures.shown ∙ c.prepare.ensures.shown;
    })

pub returns-in-Err-clause-table : goal.returns-in-Err-clause-table
returns-in-Err-clause-table g c =
    tells_map (λ s t. t ≡ s) (λ s t. (t ≡ s) ⊎ SetsRow c.args.upload.now.key s t) (g.T.Keeper.table c.args.table.now) (g.T.Keeper.table c.prepare.new.table) (λ s t same. inl same) c.prepare.ensures.rows

pub returns-in-Err-show_new-clause-rest : goal.returns-in-Err-show_new-clause-rest
returns-in-Err-show_new-clause-rest g c = λ told some may s a.
    let on = devices g.D.Disk g.T.Keeper in
    let tree = g.D.Disk.tree in
    let table = g.T.Keeper.table in
    let content = g.D.Writer.Writer.content in
    let staged = c.in-Ok.staged in
    let touches = TouchesNew c.args.store.now c.args.upload.now.key c.args.moment.now s in
    let here = still_told (λ t u. (u ≡ t) ⊎ (u ≡ changed t staged.new.change)) (table c.prepare.new.table) (table c.show_new.new.table) some c.show_new.ensures.table in
    let p : IsPrepared content (config_of c.args.config.now) (tree c.args.disk.now) s c.args.store.now c.args.upload.now c.args.moment.now c.args.own.now c.prepare.new.own staged = c.in-Ok.ensures.ready told here may s a in
    let made = rest_then on touches c.args.disk.now c.prepare.new.disk c.show_new.new.disk
    (rest_quiet on touches told c.args.disk.now c.prepare.new.disk (record { files = c.prepare.ensures.tree; moments = c.prepare.ensures.any_moment; shown = c.prepare.ensures.shown }))
    (rest_created on touches staged.new.files.place (content c.args.file) staged.new.text.items c.prepare.new.disk c.show_new.new.disk (inl (ap bytes_at p.new.place_is)) (inr (inl (ap props_at p.new.place_is)))
    (c.show_new.ensures.rest told) (c.show_new.ensures.any_moment told)) in
    rest_then on touches c.args.disk.now c.show_new.new.disk c.give_up_mark.new.disk made
    (rest_quiet on touches told c.show_new.new.disk c.give_up_mark.new.disk (record { files = c.give_up_mark.ensures.tree; moments = c.give_up_mark.ensures.any_moment; shown = c.give_up_mark.ensures.shown }))

pub returns-in-Err-show_new-clause-table : goal.returns-in-Err-show_new-clause-table
returns-in-Err-show_new-clause-table g c =
    tells_then (λ s t. t ≡ s) (λ t u. (u ≡ t) ⊎ (u ≡ changed t c.in-Ok.staged.new.change)) (λ s u. (u ≡ s) ⊎ SetsRow c.args.upload.now.key s u)
    (g.T.Keeper.table c.args.table.now) (g.T.Keeper.table c.prepare.new.table) (g.T.Keeper.table c.show_new.new.table)
    (λ s t u first second. same_then_sets c.args.upload.now.key c.in-Ok.staged.new.change s t u c.in-Ok.ensures.sets first second) c.prepare.ensures.rows c.show_new.ensures.table

pub returns-in_default-mark-clause-rest : goal.returns-in_default-mark-clause-rest
returns-in_default-mark-clause-rest g c = λ told some may s a.
    let on = devices g.D.Disk g.T.Keeper in
    let tree = g.D.Disk.tree in
    let table = g.T.Keeper.table in
    let content = g.D.Writer.Writer.content in
    let staged = c.in-Ok.staged in
    let touches = TouchesNew c.args.store.now c.args.upload.now.key c.args.moment.now s in
    let here = still_told (λ t u. (u ≡ t) ⊎ (u ≡ changed t staged.new.change)) (table c.prepare.new.table) (table c.show_new.new.table) some c.show_new.ensures.table in
    let p : IsPrepared content (config_of c.args.config.now) (tree c.args.disk.now) s c.args.store.now c.args.upload.now c.args.moment.now c.args.own.now c.prepare.new.own staged = c.in-Ok.ensures.ready told here may s a in
    let made = rest_then on touches c.args.disk.now c.prepare.new.disk c.show_new.new.disk
    (rest_quiet on touches told c.args.disk.now c.prepare.new.disk (record { files = c.prepare.ensures.tree; moments = c.prepare.ensures.any_moment; shown = c.prepare.ensures.shown }))
    (rest_created on touches staged.new.files.place (content c.args.file) staged.new.text.items c.prepare.new.disk c.show_new.new.disk (inl (ap bytes_at p.new.place_is)) (inr (inl (ap props_at p.new.place_is)))
    (c.show_new.ensures.rest told) (c.show_new.ensures.any_moment told)) in
    made

pub returns-in_default-mark-clause-table : goal.returns-in_default-mark-clause-table
returns-in_default-mark-clause-table g c =
    tells_then (λ s t. t ≡ s) (λ t u. (u ≡ t) ⊎ (u ≡ changed t c.in-Ok.staged.new.change)) (λ s u. (u ≡ s) ⊎ SetsRow c.args.upload.now.key s u)
    (g.T.Keeper.table c.args.table.now) (g.T.Keeper.table c.prepare.new.table) (g.T.Keeper.table c.show_new.new.table)
    (λ s t u first second. same_then_sets c.args.upload.now.key c.in-Ok.staged.new.change s t u c.in-Ok.ensures.sets first second) c.prepare.ensures.rows c.show_new.ensures.table

pub returns-in-Ok-place-clause-rest : goal.returns-in-Ok-place-clause-rest
returns-in-Ok-place-clause-rest g c = λ told some may s a.
    let on = devices g.D.Disk g.T.Keeper in
    let tree = g.D.Disk.tree in
    let table = g.T.Keeper.table in
    let content = g.D.Writer.Writer.content in
    let staged = c.in-Ok.staged in
    let touches = TouchesNew c.args.store.now c.args.upload.now.key c.args.moment.now s in
    let here = still_told (λ t u. (u ≡ t) ⊎ (u ≡ changed t staged.new.change)) (table c.prepare.new.table) (table c.show_new.new.table) some c.show_new.ensures.table in
    let p : IsPrepared content (config_of c.args.config.now) (tree c.args.disk.now) s c.args.store.now c.args.upload.now c.args.moment.now c.args.own.now c.prepare.new.own staged = c.in-Ok.ensures.ready told here may s a in
    let made = rest_then on touches c.args.disk.now c.prepare.new.disk c.show_new.new.disk
    (rest_quiet on touches told c.args.disk.now c.prepare.new.disk (record { files = c.prepare.ensures.tree; moments = c.prepare.ensures.any_moment; shown = c.prepare.ensures.shown }))
    (rest_created on touches staged.new.files.place (content c.args.file) staged.new.text.items c.prepare.new.disk c.show_new.new.disk (inl (ap bytes_at p.new.place_is)) (inr (inl (ap props_at p.new.place_is)))
    (c.show_new.ensures.rest told) (c.show_new.ensures.any_moment told)) in
    let mark = c.in-Some.mark in
    let was = its_old content (tree c.args.disk.now) s c.args.upload.now.key c.args.own.now c.prepare.new.own p.old (time_of c.args.moment.now.now) staged.mark mark p.row p.mark p.trash c.in-Some.is in
    rest_then on touches c.args.disk.now c.show_new.new.disk c.place.new.disk made
    (rest_put on touches (props_at mark.files.place) (Some (content mark.file)) c.show_new.new.disk c.place.new.disk (inr (inr (was.0, was.1, ap props_at was.2.place_is))) (c.place.ensures.rest told) (c.place.ensures.any_moment told))

pub returns-in-Ok-place-clause-table : goal.returns-in-Ok-place-clause-table
returns-in-Ok-place-clause-table g c =
    tells_then (λ s t. t ≡ s) (λ t u. (u ≡ t) ⊎ (u ≡ changed t c.in-Ok.staged.new.change)) (λ s u. (u ≡ s) ⊎ SetsRow c.args.upload.now.key s u)
    (g.T.Keeper.table c.args.table.now) (g.T.Keeper.table c.prepare.new.table) (g.T.Keeper.table c.show_new.new.table)
    (λ s t u first second. same_then_sets c.args.upload.now.key c.in-Ok.staged.new.change s t u c.in-Ok.ensures.sets first second) c.prepare.ensures.rows c.show_new.ensures.table

pub returns-clause-rest : goal.returns-clause-rest
returns-clause-rest g c = λ told some may s a.
    let on = devices g.D.Disk g.T.Keeper in
    let tree = g.D.Disk.tree in
    let table = g.T.Keeper.table in
    let content = g.D.Writer.Writer.content in
    let staged = c.in-Ok.staged in
    let touches = TouchesNew c.args.store.now c.args.upload.now.key c.args.moment.now s in
    let here = still_told (λ t u. (u ≡ t) ⊎ (u ≡ changed t staged.new.change)) (table c.prepare.new.table) (table c.show_new.new.table) some c.show_new.ensures.table in
    let p : IsPrepared content (config_of c.args.config.now) (tree c.args.disk.now) s c.args.store.now c.args.upload.now c.args.moment.now c.args.own.now c.prepare.new.own staged = c.in-Ok.ensures.ready told here may s a in
    let made = rest_then on touches c.args.disk.now c.prepare.new.disk c.show_new.new.disk
    (rest_quiet on touches told c.args.disk.now c.prepare.new.disk (record { files = c.prepare.ensures.tree; moments = c.prepare.ensures.any_moment; shown = c.prepare.ensures.shown }))
    (rest_created on touches staged.new.files.place (content c.args.file) staged.new.text.items c.prepare.new.disk c.show_new.new.disk (inl (ap bytes_at p.new.place_is)) (inr (inl (ap props_at p.new.place_is)))
    (c.show_new.ensures.rest told) (c.show_new.ensures.any_moment told)) in
    let mark = c.in-Some.mark in
    let was = its_old content (tree c.args.disk.now) s c.args.upload.now.key c.args.own.now c.prepare.new.own p.old (time_of c.args.moment.now.now) staged.mark mark p.row p.mark p.trash c.in-Some.is in
    rest_then on touches c.args.disk.now c.show_new.new.disk c.place.new.disk made
    (rest_put on touches (props_at mark.files.place) (Some (content mark.file)) c.show_new.new.disk c.place.new.disk (inr (inr (was.0, was.1, ap props_at was.2.place_is))) (c.place.ensures.rest told) (c.place.ensures.any_moment told))

pub returns-clause-table : goal.returns-clause-table
returns-clause-table g c =
    tells_then (λ s t. t ≡ s) (λ t u. (u ≡ t) ⊎ (u ≡ changed t c.in-Ok.staged.new.change)) (λ s u. (u ≡ s) ⊎ SetsRow c.args.upload.now.key s u)
    (g.T.Keeper.table c.args.table.now) (g.T.Keeper.table c.prepare.new.table) (g.T.Keeper.table c.show_new.new.table)
    (λ s t u first second. same_then_sets c.args.upload.now.key c.in-Ok.staged.new.change s t u c.in-Ok.ensures.sets first second) c.prepare.ensures.rows c.show_new.ensures.table

pub returns-in-Err-clause-keeps : goal.returns-in-Err-clause-keeps
returns-in-Err-clause-keeps g c = λ made. absurd (true≢false made)

pub returns-in-Err-show_new-clause-keeps : goal.returns-in-Err-show_new-clause-keeps
returns-in-Err-show_new-clause-keeps g c = λ made. (c.prepare.new.own, c.in-Ok.ensures.keeps, ap (λ (n : ℕ). record c.prepare.new.own { last = n }) c.in-Ok.ensures.timestamp)

pub returns-in_default-mark-clause-keeps : goal.returns-in_default-mark-clause-keeps
returns-in_default-mark-clause-keeps g c = λ made. (c.prepare.new.own, c.in-Ok.ensures.keeps, ap (λ (n : ℕ). record c.prepare.new.own { last = n }) c.in-Ok.ensures.timestamp)

pub returns-in-Ok-place-clause-keeps : goal.returns-in-Ok-place-clause-keeps
returns-in-Ok-place-clause-keeps g c = λ made. (c.prepare.new.own, c.in-Ok.ensures.keeps, ap (λ (n : ℕ). record c.prepare.new.own { last = n }) c.in-Ok.ensures.timestamp)

pub returns-clause-keeps : goal.returns-clause-keeps
returns-clause-keeps g c = λ made. (c.prepare.new.own, c.in-Ok.ensures.keeps, ap (λ (n : ℕ). record c.prepare.new.own { last = n }) c.in-Ok.ensures.timestamp)

pub returns-in_default-mark-clause-clean_rows : goal.returns-in_default-mark-clause-clean_rows
returns-in_default-mark-clause-clean_rows g c =
    tells_then _ _ _ (g.T.Keeper.table c.args.table.now) (g.T.Keeper.table c.prepare.new.table) (g.T.Keeper.table c.show_new.new.table)
    (λ s t u first second denied. absurd (true≢false (sym denied))) c.prepare.ensures.rows c.in_default.ensures.rows

pub returns-in-Err-show_new-clause-halfway : goal.returns-in-Err-show_new-clause-halfway
returns-in-Err-show_new-clause-halfway g c = λ told some may are s a broke.
    let config = config_of c.args.config.now in
    let tree = g.D.Disk.tree in
    let table = g.T.Keeper.table in
    let staged = c.in-Ok.staged in
    let content = g.D.Writer.Writer.content in
    let rows0 = rows_in (table c.args.table.now) in
    let key = c.args.upload.now.key in
    let here = still_told (λ t u. (u ≡ t) ⊎ (u ≡ changed t staged.new.change)) (table c.prepare.new.table) (table c.show_new.new.table) some c.show_new.ensures.table in
    let p : IsPrepared content config (tree c.args.disk.now) s c.args.store.now c.args.upload.now c.args.moment.now c.args.own.now c.prepare.new.own staged = c.in-Ok.ensures.ready told here may s a in
    let asset = new_one content config (tree c.args.disk.now) s c.args.store.now c.args.upload.now c.args.moment.now c.args.own.now c.prepare.new.own staged rows0 a may p (content c.args.file) are in
    let setting = change.Set (record { key = key; asset = asset }) in
    let told_rows = subst (λ (ch : Change). Tells (table c.prepare.new.table) (table c.show_new.new.table) (λ t u. (u ≡ t) ⊎ (u ≡ changed t ch))) p.new.change_is c.show_new.ensures.table in
    let rows_now = rows_either (table c.args.table.now) (table c.prepare.new.table) (table c.show_new.new.table) setting s.rows (λ (r : map.FinMap key_cmp Asset). map.insert r key asset) (λ t. refl) some c.prepare.ensures.rows told_rows a.rows_are in
    let free : tree c.prepare.new.disk (props_at staged.new.files.place) ≡ None =
    c.prepare.ensures.tree told (props_at staged.new.files.place) staged.new.files.properties_outside ∙ ap (λ (place : List ℕ). tree c.args.disk.now (props_at place)) p.new.place_is ∙ p.free in
    halfway_one content config (tree c.args.disk.now) s c.args.store.now c.args.upload.now c.args.moment.now c.args.own.now c.prepare.new.own staged rows0 a may p (content c.args.file) are
    (tree c.prepare.new.disk) (tree c.give_up_mark.new.disk) (c.prepare.ensures.tree told)
    (created_still staged.new.files.place (content c.args.file) staged.new.text.items staged.new.files.bytes_outside staged.new.files.properties_outside (tree c.prepare.new.disk) (tree c.show_new.new.disk) (tree c.give_up_mark.new.disk)
    (c.show_new.ensures.created told free) (c.give_up_mark.ensures.tree told))
    (rows_in (table c.show_new.new.table)) rows_now

pub returns-clause-halfway : goal.returns-clause-halfway
returns-clause-halfway g c = λ told some may are s a broke.
    let config = config_of c.args.config.now in
    let tree = g.D.Disk.tree in
    let table = g.T.Keeper.table in
    let staged = c.in-Ok.staged in
    let content = g.D.Writer.Writer.content in
    let rows0 = rows_in (table c.args.table.now) in
    let key = c.args.upload.now.key in
    let here = still_told (λ t u. (u ≡ t) ⊎ (u ≡ changed t staged.new.change)) (table c.prepare.new.table) (table c.show_new.new.table) some c.show_new.ensures.table in
    let p : IsPrepared content config (tree c.args.disk.now) s c.args.store.now c.args.upload.now c.args.moment.now c.args.own.now c.prepare.new.own staged = c.in-Ok.ensures.ready told here may s a in
    let asset = new_one content config (tree c.args.disk.now) s c.args.store.now c.args.upload.now c.args.moment.now c.args.own.now c.prepare.new.own staged rows0 a may p (content c.args.file) are in
    let setting = change.Set (record { key = key; asset = asset }) in
    let told_rows = subst (λ (ch : Change). Tells (table c.prepare.new.table) (table c.show_new.new.table) (λ t u. (u ≡ t) ⊎ (u ≡ changed t ch))) p.new.change_is c.show_new.ensures.table in
    let rows_now = rows_either (table c.args.table.now) (table c.prepare.new.table) (table c.show_new.new.table) setting s.rows (λ (r : map.FinMap key_cmp Asset). map.insert r key asset) (λ t. refl) some c.prepare.ensures.rows told_rows a.rows_are in
    halfway_two content config (tree c.args.disk.now) s c.args.store.now c.args.upload.now c.args.moment.now c.args.own.now c.prepare.new.own staged rows0 a may p (content c.args.file) are
    (tree c.prepare.new.disk) (tree c.show_new.new.disk) (c.prepare.ensures.tree told) (c.in_default.ensures.bytes told) (c.in_default.ensures.props told) (c.show_new.ensures.rest told)
    c.in-Some.mark c.in-Some.is (tree c.place.new.disk) (c.in-Err-place.ensures.refused told) (c.place.ensures.rest told) (rows_in (table c.show_new.new.table)) rows_now
