use Rattle.std.proofs.Common.{rules, ◌≡◌, inl, [], ◌∷◌, length, None, refl, sym, ap, subst}
use Rattle.repo_model.specs.declared.call.Call.TheVariants as call
use Rattle.repo_model.specs.declared.entry.Entry.{Entry}
use Rattle.repo_model.specs.declared.reply.Reply.TheVariants as reply
use Rattle.repo_model.specs.History.{Follows}
use Rattle.repo_model.specs.Plain.{config_of}
use Rattle.repo_core.specs.Asks.{deletes, Discards, TouchesRow, RemovesRow}
use Rattle.repo_core.specs.Called.{parts_of}
use Rattle.repo_core.specs.Devices.{devices}
use Rattle.repo_core.specs.Parts.{StandFor}
use Rattle.repo_core.specs.Barred.{BarredBy}
use Rattle.repo_core.specs.View.{CoreView}
use Rattle.repo_core.specs.Why.{WhyNotDeleted}
use Rattle.repo_core.proofs.Barrings.{barred_alone}
use Rattle.repo_core.proofs.CallsMade.{left_by, called_done, survives_done}
use Rattle.repo_core.proofs.WorkAnswers.{answers}
use Rattle.repo_core.proofs.Works.{worked_by}
use Rattle.repo_core.proofs.Finishings.{next_done}
use Rattle.repo_core.proofs.Whys.{barred_why, on_ok_said, said_why}
use Rattle.repo_core.proofs.repository.Core.delete.Goals as goal

pub returns-in-Some-clause-called : goal.returns-in-Some-clause-called
returns-in-Some-clause-called g c =
    (barred_alone (devices g.D.Disk g.T.Keeper) c.args.caller (call.Delete c.args.key c.args.moment.now) (λ _. reply.Gone) (TouchesRow c.args.key) (RemovesRow c.args.key) (Discards c.args.key c.args.moment) c.args.self.now c.turn_away.new.self c.in-Some.why c.deletion.result
    c.in-Some.ensures c.deletion.ensures c.turn_away.ensures.full c.turn_away.ensures.entry).0

pub returns-in-Some-clause-survives : goal.returns-in-Some-clause-survives
returns-in-Some-clause-survives g c =
    (barred_alone (devices g.D.Disk g.T.Keeper) c.args.caller (call.Delete c.args.key c.args.moment.now) (λ _. reply.Gone) (TouchesRow c.args.key) (RemovesRow c.args.key) (Discards c.args.key c.args.moment) c.args.self.now c.turn_away.new.self c.in-Some.why c.deletion.result
    c.in-Some.ensures c.deletion.ensures c.turn_away.ensures.full c.turn_away.ensures.entry).1

pub returns-clause-called : goal.returns-clause-called
returns-clause-called g c = rw (← c.self.view_is) (
    let on = devices g.D.Disk g.T.Keeper in
    let ask = deletes c.args.caller c.args.key c.args.moment in
    let core = c.self.inside in
    let did = c.give_up_row-done in
    let at = did.ensures in
    let old : CoreView g.row.D.Denot g.row.T.Denot = record { disk = core.disk; table = core.table; config = core.config; journal = core.journal; own = core.own; holds = core.holds.items; broken = core.broken } in
    let left : CoreView g.row.D.Denot g.row.T.Denot = left_by old did.new.disk did.new.table did.new.own core.holds.items c.deletion-2.result c.cause_of-cause.result in
    let free : BarredBy old None = subst (λ (k : CoreView g.row.D.Denot g.row.T.Denot). BarredBy k None) (sym c.self.view_is) c.in_default.ensures in
    called_done on ask old c.note.new.self c.answer_of-said.result c.deletion-2.result (λ done. done) did.result c.len.result (answers did.result c.answer_of-said.result c.answer_of-said.ensures) free c.len.ensures
    did.new.disk did.new.table did.new.own core.holds.items c.cause_of-cause.result c.note.ensures c.cause_of-cause.ensures (ap (λ (e : Entry). e ∷ []) c.deletion-2.ensures)
    (worked_by on ask (config_of core.config) (parts_of old) (parts_of left) did.result (λ told some _. at.crash told some) (λ told some _. at.halfway told some) at.durable at.stays (λ told some _. at.rest told some) at.table (at.keeps c.args.moment refl) at.clean_files at.clean_moments at.clean_rows at.clean_own (λ broke. inl (at.shown broke)) at.unshown at.lasting at.disk_cause at.keeper_cause)
    (λ told some _ s a.
    let next = next_done (config_of core.config) (length core.journal.entries) c.args.caller s (call.Delete c.args.key c.args.moment.now) (λ _. reply.Gone) (StandFor on (config_of core.config) (parts_of left)) did.result
    c.answer_of-said.result c.cause_of-cause.result c.len.result c.answer_of-said.ensures c.cause_of-cause.ensures c.len.ensures refl a.sound (λ t stands. stands.sound) (at.ends told some s a) in
    record {
      state = next.new;
      leads = (subst (λ (e : Entry). Follows (config_of core.config) (length core.journal.entries) s e next.new) (sym c.deletion-2.ensures) next.follows, refl);
      broken = next.broken_is;
      agrees = next.agree;
    }))

pub returns-clause-survives : goal.returns-clause-survives
returns-clause-survives g c = rw (← c.self.view_is) (
    let on = devices g.D.Disk g.T.Keeper in
    let ask = deletes c.args.caller c.args.key c.args.moment in
    let core = c.self.inside in
    let did = c.give_up_row-done in
    let at = did.ensures in
    let old : CoreView g.row.D.Denot g.row.T.Denot = record { disk = core.disk; table = core.table; config = core.config; journal = core.journal; own = core.own; holds = core.holds.items; broken = core.broken } in
    let left : CoreView g.row.D.Denot g.row.T.Denot = left_by old did.new.disk did.new.table did.new.own core.holds.items c.deletion-2.result c.cause_of-cause.result in
    let free : BarredBy old None = subst (λ (k : CoreView g.row.D.Denot g.row.T.Denot). BarredBy k None) (sym c.self.view_is) c.in_default.ensures in
    survives_done on ask old c.note.new.self c.answer_of-said.result c.deletion-2.result (λ done. done) did.result c.len.result (answers did.result c.answer_of-said.result c.answer_of-said.ensures) free c.len.ensures
    did.new.disk did.new.table did.new.own core.holds.items c.cause_of-cause.result c.note.ensures c.cause_of-cause.ensures (ap (λ (e : Entry). e ∷ []) c.deletion-2.ensures)
    (worked_by on ask (config_of core.config) (parts_of old) (parts_of left) did.result (λ told some _. at.crash told some) (λ told some _. at.halfway told some) at.durable at.stays (λ told some _. at.rest told some) at.table (at.keeps c.args.moment refl) at.clean_files at.clean_moments at.clean_rows at.clean_own (λ broke. inl (at.shown broke)) at.unshown at.lasting at.disk_cause at.keeper_cause))

pub returns-in-Some-clause-why : goal.returns-in-Some-clause-why
returns-in-Some-clause-why g c =
    barred_why c.args.self.now c.in-Some.why (WhyNotDeleted (config_of c.args.self.now.config) c.args.key (g.T.Keeper.found c.turn_away.new.self.table)) tt (λ cause. tt) c.in-Some.ensures

pub returns-clause-why : goal.returns-clause-why
returns-clause-why g c = rw (← c.self.view_is, c.note.ensures) (
    let did = c.give_up_row-done in
    said_why (λ done. done) (WhyNotDeleted (config_of c.self.inside.config) c.args.key (g.T.Keeper.found did.new.table)) did.result c.answer_of-said.result
    (answers did.result c.answer_of-said.result c.answer_of-said.ensures) did.ensures.why)

pub returns-in-Some-clause-marked : goal.returns-in-Some-clause-marked
returns-in-Some-clause-marked g c = λ told some s asset tracks row. tt

pub returns-clause-marked : goal.returns-clause-marked
returns-clause-marked g c = rw (← c.self.view_is, c.note.ensures) (λ told some s asset tracks row.
    let core = c.self.inside in
    let none : core.broken ≡ None = search rules in
    on_ok_said (λ (x : Unit {0}). x) _ c.give_up_row-done.result c.answer_of-said.result (answers c.give_up_row-done.result c.answer_of-said.result c.answer_of-said.ensures)
    (c.give_up_row-done.ensures.marked told some s asset (tracks.agrees none) row))
