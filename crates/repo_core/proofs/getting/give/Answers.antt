use Rattle.std.proofs.Common.{◌≡◌, ◌⊎◌, inl, ℕ, [], Some, OnOk, IfOk, IfErr, true, refl, sym, ◌∙◌, ap, subst}
use Rattle.std.specs.FinMap as map
use Rattle.asset_keeper.specs.Told.{Tells}
use Rattle.disk_model.specs.Disk.{Tree}
use Rattle.nx_base.specs.declared.asset.Asset.{Asset}
use Rattle.repo_model.specs.declared.call.Call.TheVariants as call
use Rattle.repo_model.specs.declared.call.Look.{Look}
use Rattle.repo_model.specs.declared.call.Look.TheVariants as looks
use Rattle.repo_model.specs.declared.call.RemoteSaid.TheVariants as remote
use Rattle.repo_model.specs.declared.reply.Reply.TheVariants as reply
use Rattle.repo_model.specs.Plain.{config_of}
use Rattle.repo_model.specs.Serving.{downloaded, served}
use Rattle.repo_model.specs.Timestamps.{time_of}
use Rattle.repo_model.specs.State.{State}
use Rattle.repo_model.specs.Step.{outcome}
use Rattle.repo_core.specs.Answers.{is_denied}
use Rattle.repo_core.specs.Agree.{Agrees}
use Rattle.repo_core.specs.Ends.{Ends}
use Rattle.repo_core.specs.Rows.{rows_in}
use Rattle.repo_core.proofs.Givings.{agrees_same}
use Rattle.repo_core.proofs.Halfways.{one_of, rows_between}
use Rattle.repo_core.proofs.Serving.{ends_served, never_damaged, served_content}
use Rattle.repo_core.proofs.Tables.{rows_same, still_told, tells_then}
use Rattle.repo_core.specs.Faults.{refusal_of_stop}
use Rattle.repo_core.specs.Why.{WhyNotGiven}
use Rattle.repo_core.proofs.Whys.{unserved}
use Rattle.repo_core.specs.Asks.{SetsRow}
use Rattle.repo_core.proofs.Answering.{tells_map}
use Rattle.repo_core.proofs.Rests.{same_then_set}
use Rattle.repo_core.proofs.getting.give.Goals as goal

pub returns-in-Err-clause-ends : goal.returns-in-Err-clause-ends
returns-in-Err-clause-ends g c = λ told some own s a.
    let config = config_of c.args.config.now in
    let tree = g.D.Disk.tree c.args.disk.now in
    let before = g.T.Keeper.table c.args.table.now in
    let after = g.T.Keeper.table c.row_to_give.new.table in (
      c.in-Err.ensures.row some s c.args.look c.args.moment.now a.sound a.rows_are,
      agrees_same config tree tree (rows_in before) (rows_in after) own own s (λ n out. refl) (rows_same before after some c.in-Err.ensures.same) refl a,
    )

pub returns-in-Get-clause-ends : goal.returns-in-Get-clause-ends
returns-in-Get-clause-ends g c = λ told some own s a.
    let config = config_of c.args.config.now in
    let tree = g.D.Disk.tree in
    let table = g.T.Keeper.table in
    let moment = c.args.moment.now in
    let asset = c.in-Ok.asset in
    let mid_some = still_told (λ t u. is_denied c.serve.result ≡ true → u ≡ t) (table c.row_to_give.new.table) (table c.serve.new.table) some c.serve.ensures.clean_rows in
    let may = c.in-Ok.ensures.row mid_some s c.args.look moment a.sound a.rows_are in
    let step = subst (λ (l : Look). outcome config s [] (call.Get c.args.key.now l moment remote.NotAsked) ≡ served s c.args.key.now l moment.now asset) c.in-Get.is may.1 in
    subst (λ (l : Look). Ends config s (call.Get c.args.key.now l moment remote.NotAsked) (λ given. reply.Found given.copy) (Agrees config (tree c.serve.new.disk) (rows_in (table c.serve.new.table)) own) c.serve.result)
    (sym c.in-Get.is)
    (ends_served config g.D.Disk.told (tree c.args.disk.now) (tree c.serve.new.disk) (table c.args.table.now) (table c.row_to_give.new.table) (table c.serve.new.table) own s c.args.key.now asset moment
    (g.D.Disk.last_look c.serve.new.disk) a may.0 (λ n out. ap (λ (t : Tree). t n) (c.serve.ensures.tree told)) some c.row_to_give.ensures.same step c.serve.result
    (subst (λ (at : ℕ). IfOk c.serve.result (λ given. given.asset ≡ downloaded asset at)) c.time.ensures c.serve.ensures.given)
    c.serve.ensures.denied
    (subst (λ (at : ℕ). Tells (table c.row_to_give.new.table) (table c.serve.new.table) (λ t u. OnOk c.serve.result (map.get t.rows c.args.key.now ≡ Some asset → u.rows ≡ map.insert t.rows c.args.key.now (downloaded asset at)))) c.time.ensures c.serve.ensures.rows)
    c.serve.ensures.clean_rows)

pub returns-in-Get-clause-content : goal.returns-in-Get-clause-content
returns-in-Get-clause-content g c = λ told some own s a.
    let table = g.T.Keeper.table in
    let mid_some = still_told (λ t u. is_denied c.serve.result ≡ true → u ≡ t) (table c.row_to_give.new.table) (table c.serve.new.table) some c.serve.ensures.clean_rows in
    let may = c.in-Ok.ensures.row mid_some s c.args.look c.args.moment.now a.sound a.rows_are in
    served_content g.D.Reader.Reader.left (config_of c.args.config.now) (g.D.Disk.tree c.args.disk.now) s a.files c.args.key.now c.in-Ok.asset c.time.result may.0 c.serve.result c.serve.ensures.given (c.serve.ensures.file told)

pub returns-in-Get-clause-whole : goal.returns-in-Get-clause-whole
returns-in-Get-clause-whole g c = λ told some own s a.
    let tree = g.D.Disk.tree in
    let table = g.T.Keeper.table in
    let mid_some = still_told (λ t u. is_denied c.serve.result ≡ true → u ≡ t) (table c.row_to_give.new.table) (table c.serve.new.table) some c.serve.ensures.clean_rows in
    let may = c.in-Ok.ensures.row mid_some s c.args.look c.args.moment.now a.sound a.rows_are in
    never_damaged (config_of c.args.config.now) g.D.Disk.told (tree c.args.disk.now) (tree c.serve.new.disk) (table c.args.table.now) (table c.row_to_give.new.table) (table c.serve.new.table) own s c.args.key.now c.in-Ok.asset c.args.moment.now
    (g.D.Disk.last_look c.serve.new.disk) a may.0 (λ n out. ap (λ (t : Tree). t n) (c.serve.ensures.tree told)) some c.row_to_give.ensures.same told c.serve.result c.serve.ensures.denied

pub returns-in-Ok-known-clause-ends : goal.returns-in-Ok-known-clause-ends
returns-in-Ok-known-clause-ends g c = λ told some own s a.
    let config = config_of c.args.config.now in
    let tree = g.D.Disk.tree c.args.disk.now in
    let before = g.T.Keeper.table c.args.table.now in
    let after = g.T.Keeper.table c.row_to_give.new.table in
    let moment = c.args.moment.now in
    let asset = c.in-Ok.asset in
    let given = c.in-Ok-known.given in
    let may = c.in-Ok.ensures.row some s c.args.look moment a.sound a.rows_are in
    let step : outcome config s [] (call.Get c.args.key.now c.args.look moment remote.NotAsked) ≡ served s c.args.key.now looks.Head moment.now asset
    = may.1 ∙ ap (λ (l : Look). served s c.args.key.now l moment.now asset) c.in-Head.is in (
      s,
      ([], step ∙ ap (λ (x : Asset). Some (record { reply = reply.Found x; new = s })) (sym (given.copied ∙ c.in-Ok-known.ensures.asset))),
      agrees_same config tree tree (rows_in before) (rows_in after) own own s (λ n out. refl) (rows_same before after some c.in-Ok.ensures.same) refl a,
    )

pub returns-in-Err-clause-why : goal.returns-in-Err-clause-why
returns-in-Err-clause-why g c = c.in-Err.ensures.why c.args.look (g.D.Disk.last_look c.args.disk.now)

pub returns-in-Get-clause-why : goal.returns-in-Get-clause-why
returns-in-Get-clause-why g c =
    let config = config_of c.args.config.now in
    let key = c.args.key.now in
    let found = g.T.Keeper.found c.serve.new.table in
    let looked = g.D.Disk.last_look c.serve.new.disk in
    subst (λ (l : Look). IfErr c.serve.result (λ e. WhyNotGiven config key l found looked (refusal_of_stop e))) (sym c.in-Get.is)
    (unserved config key found looked c.in-Ok.ensures.opens.0 (c.serve.ensures.found ∙ c.in-Ok.ensures.opens.1) g.D.Disk.told (g.D.Disk.tree c.args.disk.now) c.in-Ok.asset c.serve.result c.serve.ensures.denied)

pub returns-in-Err-clause-table : goal.returns-in-Err-clause-table
returns-in-Err-clause-table g c =
    tells_map (λ s t. t ≡ s) (λ s t. (t ≡ s) ⊎ SetsRow c.args.key.now s t) (g.T.Keeper.table c.args.table.now) (g.T.Keeper.table c.row_to_give.new.table) (λ s t same. inl same) c.row_to_give.ensures.same

pub returns-in-Get-clause-table : goal.returns-in-Get-clause-table
returns-in-Get-clause-table g c =
    tells_then (λ s t. t ≡ s) (λ t u. (u ≡ t) ⊎ SetsRow c.args.key.now t u) (λ s u. (u ≡ s) ⊎ SetsRow c.args.key.now s u)
    (g.T.Keeper.table c.args.table.now) (g.T.Keeper.table c.row_to_give.new.table) (g.T.Keeper.table c.serve.new.table)
    (λ s t u first second. same_then_set c.args.key.now s t u first second) c.row_to_give.ensures.same c.serve.ensures.table

pub returns-in-Ok-known-clause-table : goal.returns-in-Ok-known-clause-table
returns-in-Ok-known-clause-table g c =
    tells_map (λ s t. t ≡ s) (λ s t. (t ≡ s) ⊎ SetsRow c.args.key.now s t) (g.T.Keeper.table c.args.table.now) (g.T.Keeper.table c.row_to_give.new.table) (λ s t same. inl same) c.row_to_give.ensures.same

pub returns-in-Err-known-clause-table : goal.returns-in-Err-known-clause-table
returns-in-Err-known-clause-table g c =
    tells_map (λ s t. t ≡ s) (λ s t. (t ≡ s) ⊎ SetsRow c.args.key.now s t) (g.T.Keeper.table c.args.table.now) (g.T.Keeper.table c.row_to_give.new.table) (λ s t same. inl same) c.row_to_give.ensures.same

pub returns-in-Get-clause-halfway : goal.returns-in-Get-clause-halfway
returns-in-Get-clause-halfway g c = λ told some own s a broke.
    let config = config_of c.args.config.now in
    let table = g.T.Keeper.table in
    let key = c.args.key.now in
    let moment = c.args.moment.now in
    let asset = c.in-Ok.asset in
    let seen = downloaded asset (time_of moment.now) in
    let mid_some = still_told (λ t u. is_denied c.serve.result ≡ true → u ≡ t) (table c.row_to_give.new.table) (table c.serve.new.table) some c.serve.ensures.clean_rows in
    let may = c.in-Ok.ensures.row mid_some s c.args.look moment a.sound a.rows_are in
    one_of config s [] (call.Get key c.args.look moment remote.NotAsked) (λ (t : State). rows_in (table c.serve.new.table) ≡ t.rows) (record s { rows = map.insert s.rows key seen }) (reply.Found seen)
    (may.1 ∙ ap (λ (l : Look). served s key l moment.now asset) c.in-Get.is) refl
    (rows_between (table c.args.table.now) (table c.row_to_give.new.table) (table c.serve.new.table) key asset seen s.rows some c.row_to_give.ensures.same
    (subst (λ (at : ℕ). Tells (table c.row_to_give.new.table) (table c.serve.new.table) (λ t u. (u ≡ t) ⊎ (map.get t.rows key ≡ Some asset → u.rows ≡ map.insert t.rows key (downloaded asset at)))) c.time.ensures c.serve.ensures.between)
    a.rows_are may.0)
