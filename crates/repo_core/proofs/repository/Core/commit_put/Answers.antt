use Rattle.std.proofs.Common.{rules, ◌≡◌, inl, [], ◌∷◌, length, None, refl, sym, ◌∙◌, ap, subst}
use Rattle.repo_model.specs.declared.entry.Entry.{Entry}
use Rattle.repo_model.specs.declared.reply.Reply.{Reply}
use Rattle.repo_model.specs.declared.reply.Reply.TheVariants as reply
use Rattle.repo_model.specs.History.{Follows}
use Rattle.repo_model.specs.Plain.{config_of}
use Rattle.repo_core.specs.declared.putting.Kept.{Kept}
use Rattle.repo_core.specs.Answers.{reply_of, entry_of}
use Rattle.repo_core.specs.Asks.{puts, Timestamps, TouchesNew, SetsRow}
use Rattle.repo_core.specs.Called.{parts_of}
use Rattle.repo_core.specs.Devices.{devices}
use Rattle.repo_core.specs.Parts.{StandFor}
use Rattle.repo_core.specs.Barred.{BarredBy}
use Rattle.repo_core.specs.Puts.{put_for, upload_of, asset_of, MayGo, AreBytes}
use Rattle.repo_core.specs.Standing.{AnswersAt}
use Rattle.repo_core.specs.View.{CoreView}
use Rattle.repo_core.specs.Why.{WhyNotPut}
use Rattle.repo_core.proofs.Answering.{same_reply}
use Rattle.repo_core.proofs.Barrings.{barred_with_file}
use Rattle.repo_core.proofs.CallsMade.{left_by, called_done, survives_done}
use Rattle.repo_core.proofs.WorkAnswers.{answers_as}
use Rattle.repo_core.proofs.Works.{worked_by}
use Rattle.repo_core.proofs.Finishings.{next_at}
use Rattle.repo_core.proofs.Whys.{barred_why, on_ok_said, said_why}
use Rattle.repo_core.proofs.repository.Core.commit_put.Goals as goal

pub returns-in-Some-clause-called : goal.returns-in-Some-clause-called
returns-in-Some-clause-called g c =
    (barred_with_file (devices g.D.Disk g.T.Keeper) c.args.caller (put_for (upload_of c.args.ready) c.args.moment) (λ asset. reply.Stored asset) (TouchesNew c.args.ready.store c.args.ready.begin.key c.args.moment) (SetsRow c.args.ready.begin.key) (Timestamps c.args.ready.begin.key c.args.moment) c.args.self.now c.turn_away.new.self c.in-Some.why c.put.result
    c.in-Some.ensures (c.put.ensures ∙ ap (λ (r : Reply). record { caller = c.args.caller; call = put_for (upload_of c.args.ready) c.args.moment; reply = r }) c.refused.ensures) c.args.ready.store
    (MayGo (config_of c.args.self.now.config) c.args.ready.begin.key c.args.ready.store × AreBytes (upload_of c.args.ready) (g.D.Writer.Writer.content c.args.ready.file))
    c.drop_file.new.self c.drop_file.ensures.rest c.drop_file.ensures.back c.turn_away.ensures.full c.turn_away.ensures.entry).0

pub returns-in-Some-clause-survives : goal.returns-in-Some-clause-survives
returns-in-Some-clause-survives g c =
    (barred_with_file (devices g.D.Disk g.T.Keeper) c.args.caller (put_for (upload_of c.args.ready) c.args.moment) (λ asset. reply.Stored asset) (TouchesNew c.args.ready.store c.args.ready.begin.key c.args.moment) (SetsRow c.args.ready.begin.key) (Timestamps c.args.ready.begin.key c.args.moment) c.args.self.now c.turn_away.new.self c.in-Some.why c.put.result
    c.in-Some.ensures (c.put.ensures ∙ ap (λ (r : Reply). record { caller = c.args.caller; call = put_for (upload_of c.args.ready) c.args.moment; reply = r }) c.refused.ensures) c.args.ready.store
    (MayGo (config_of c.args.self.now.config) c.args.ready.begin.key c.args.ready.store × AreBytes (upload_of c.args.ready) (g.D.Writer.Writer.content c.args.ready.file))
    c.drop_file.new.self c.drop_file.ensures.rest c.drop_file.ensures.back c.turn_away.ensures.full c.turn_away.ensures.entry).1

pub returns-clause-called : goal.returns-clause-called
returns-clause-called g c = rw (← c.self.view_is) (
    let on = devices g.D.Disk g.T.Keeper in
    let core = c.self.inside in
    let ask = puts on g.D.Writer.Writer.content (config_of core.config) c.args.caller c.args.ready c.args.moment in
    let did = c.put_content-done in
    let at = did.ensures in
    let old : CoreView g.row.D.Denot g.row.T.Denot = record { disk = core.disk; table = core.table; config = core.config; journal = core.journal; own = core.own; holds = core.holds.items; broken = core.broken } in
    let left : CoreView g.row.D.Denot g.row.T.Denot = left_by old did.new.disk did.new.table did.new.own core.holds.items c.put-2.result c.cause_of-cause.result in
    let free : BarredBy old None = subst (λ (k : CoreView g.row.D.Denot g.row.T.Denot). BarredBy k None) (sym c.self.view_is) c.in_default.ensures in
    let entry_is : c.put-2.result ≡ entry_of c.args.caller (put_for (upload_of c.args.ready) c.args.moment) (λ asset. reply.Stored asset) c.stored-reply.result.1 =
    c.put-2.ensures ∙ ap (λ (r : Reply). record { caller = c.args.caller; call = put_for (upload_of c.args.ready) c.args.moment; reply = r }) c.stored-reply.ensures.reply in
    called_done on ask old c.note.new.self c.stored-reply.result.1 c.put-2.result (λ (kept : Kept). kept.asset) did.result c.len.result
    (answers_as (λ (kept : Kept). kept.asset) asset_of (λ kept. refl) (λ why. refl) did.result c.answer_of.result c.stored-reply.result.1 c.answer_of.ensures c.stored-reply.ensures.answer) free c.len.ensures
    did.new.disk did.new.table did.new.own core.holds.items c.cause_of-cause.result c.note.ensures c.cause_of-cause.ensures (ap (λ (e : Entry). e ∷ []) entry_is)
    (worked_by on ask (config_of core.config) (parts_of old) (parts_of left) did.result (λ told some may. at.crash told some may.0 may.1) (λ told some may. at.halfway told some may.0 may.1) at.durable at.stays (λ told some may. at.rest told some may.0) at.table at.keeps at.clean_files at.clean_moments at.clean_rows at.clean_own (λ broke. inl (at.shown broke)) at.unshown at.lasting at.disk_cause at.keeper_cause)
    (λ told some may s a.
    let asked = put_for (upload_of c.args.ready) c.args.moment in
    let next = next_at (config_of core.config) (length core.journal.entries) c.args.caller s c.args.ready.store asked (λ kept. reply.Stored kept.asset) (StandFor on (config_of core.config) (parts_of left)) did.result
    c.answer_of.result c.cause_of-cause.result c.len.result c.answer_of.ensures c.cause_of-cause.ensures c.len.ensures refl a.sound (λ t stands. stands.sound) (at.ends told some may.0 may.1 s a) in
    let said : record { caller = c.args.caller; call = asked; reply = reply_of (λ (kept : Kept). reply.Stored kept.asset) c.answer_of.result } ≡ c.put-2.result =
    ap (λ (r : Reply). record { caller = c.args.caller; call = asked; reply = r }) (same_reply c.answer_of.result ∙ ap (reply_of (λ asset. reply.Stored asset)) (sym c.stored-reply.ensures.answer)) ∙ sym entry_is in
    record {
      state = next.new;
      leads = (
        subst (λ (e : Entry). Follows (config_of core.config) (length core.journal.entries) s e next.new) said next.follows,
        refl,
        subst (λ (e : Entry). AnswersAt (config_of core.config) s c.args.ready.store e.call e.reply next.new) said next.at,
      );
      broken = next.broken_is;
      agrees = next.agree;
    }))

pub returns-clause-survives : goal.returns-clause-survives
returns-clause-survives g c = rw (← c.self.view_is) (
    let on = devices g.D.Disk g.T.Keeper in
    let core = c.self.inside in
    let ask = puts on g.D.Writer.Writer.content (config_of core.config) c.args.caller c.args.ready c.args.moment in
    let did = c.put_content-done in
    let at = did.ensures in
    let old : CoreView g.row.D.Denot g.row.T.Denot = record { disk = core.disk; table = core.table; config = core.config; journal = core.journal; own = core.own; holds = core.holds.items; broken = core.broken } in
    let left : CoreView g.row.D.Denot g.row.T.Denot = left_by old did.new.disk did.new.table did.new.own core.holds.items c.put-2.result c.cause_of-cause.result in
    let free : BarredBy old None = subst (λ (k : CoreView g.row.D.Denot g.row.T.Denot). BarredBy k None) (sym c.self.view_is) c.in_default.ensures in
    let entry_is : c.put-2.result ≡ entry_of c.args.caller (put_for (upload_of c.args.ready) c.args.moment) (λ asset. reply.Stored asset) c.stored-reply.result.1 =
    c.put-2.ensures ∙ ap (λ (r : Reply). record { caller = c.args.caller; call = put_for (upload_of c.args.ready) c.args.moment; reply = r }) c.stored-reply.ensures.reply in
    survives_done on ask old c.note.new.self c.stored-reply.result.1 c.put-2.result (λ (kept : Kept). kept.asset) did.result c.len.result
    (answers_as (λ (kept : Kept). kept.asset) asset_of (λ kept. refl) (λ why. refl) did.result c.answer_of.result c.stored-reply.result.1 c.answer_of.ensures c.stored-reply.ensures.answer) free c.len.ensures
    did.new.disk did.new.table did.new.own core.holds.items c.cause_of-cause.result c.note.ensures c.cause_of-cause.ensures (ap (λ (e : Entry). e ∷ []) entry_is)
    (worked_by on ask (config_of core.config) (parts_of old) (parts_of left) did.result (λ told some may. at.crash told some may.0 may.1) (λ told some may. at.halfway told some may.0 may.1) at.durable at.stays (λ told some may. at.rest told some may.0) at.table at.keeps at.clean_files at.clean_moments at.clean_rows at.clean_own (λ broke. inl (at.shown broke)) at.unshown at.lasting at.disk_cause at.keeper_cause))

pub returns-in-Some-clause-why : goal.returns-in-Some-clause-why
returns-in-Some-clause-why g c =
    barred_why c.args.self.now c.in-Some.why
    (WhyNotPut (config_of c.args.self.now.config) c.args.self.now.own.last c.args.ready.begin.key c.args.moment (g.T.Keeper.found c.turn_away.new.self.table) (g.D.Disk.last_look c.turn_away.new.self.disk))
    tt (λ cause. tt) c.in-Some.ensures

pub returns-clause-why : goal.returns-clause-why
returns-clause-why g c = rw (← c.self.view_is, c.note.ensures) (
    let core = c.self.inside in
    let did = c.put_content-done in
    said_why (λ (kept : Kept). kept.asset)
    (WhyNotPut (config_of core.config) core.own.last c.args.ready.begin.key c.args.moment (g.T.Keeper.found did.new.table) (g.D.Disk.last_look did.new.disk)) did.result c.stored-reply.result.1
    (answers_as (λ (kept : Kept). kept.asset) asset_of (λ kept. refl) (λ why. refl) did.result c.answer_of.result c.stored-reply.result.1 c.answer_of.ensures c.stored-reply.ensures.answer) did.ensures.why)

pub returns-in-Some-clause-marked : goal.returns-in-Some-clause-marked
returns-in-Some-clause-marked g c = λ told some may are s old tracks row. tt

pub returns-clause-marked : goal.returns-clause-marked
returns-clause-marked g c = rw (← c.self.view_is, c.note.ensures) (λ told some may are s old tracks row.
    let core = c.self.inside in
    let none : core.broken ≡ None = search rules in
    let did = c.put_content-done in
    on_ok_said (λ (kept : Kept). kept.asset) _ did.result c.stored-reply.result.1
    (answers_as (λ (kept : Kept). kept.asset) asset_of (λ kept. refl) (λ why. refl) did.result c.answer_of.result c.stored-reply.result.1 c.answer_of.ensures c.stored-reply.ensures.answer)
    (did.ensures.marked told some may are s old (tracks.agrees none) row))
