use Rattle.std.proofs.Common.{◌≡◌, ◌⊎◌, inl, [], ◌∷◌, length, true, None, refl, sym, ◌∙◌, ap, subst}
use Rattle.repo_model.specs.declared.call.Call.TheVariants as call
use Rattle.repo_model.specs.declared.entry.Entry.{Entry}
use Rattle.repo_model.specs.declared.reply.Reply.{Reply}
use Rattle.repo_model.specs.History.{Follows}
use Rattle.repo_model.specs.Plain.{config_of}
use Rattle.repo_core.specs.declared.beginning.Begun.{Begun}
use Rattle.repo_core.specs.Answers.{entry_of, is_denied, stopped}
use Rattle.repo_core.specs.Asks.{begins, Counts, TouchesNone, AltersNone}
use Rattle.repo_core.specs.Barred.{BarredBy}
use Rattle.repo_core.specs.Begun.{begun_in, begun_or_refused}
use Rattle.repo_core.specs.Called.{parts_of}
use Rattle.repo_core.specs.Devices.{devices}
use Rattle.repo_core.specs.Faults.{IsDisk, IsKeeper}
use Rattle.repo_core.specs.Parts.{StandFor}
use Rattle.repo_core.specs.View.{CoreView}
use Rattle.repo_core.specs.Why.{WhyNotBegun}
use Rattle.repo_core.proofs.Answering.{tells_map}
use Rattle.repo_core.proofs.Barrings.{barred_alone}
use Rattle.repo_core.proofs.BeginSteps.{next_begun}
use Rattle.repo_core.proofs.CallsMade.{left_by, called_done, survives_done}
use Rattle.repo_core.proofs.WorkAnswers.{breaks_nothing, if_stopped, never_stopped, not_denied_counts, stopped_answers, stopped_cause}
use Rattle.repo_core.proofs.Works.{worked_quietly}
use Rattle.repo_core.proofs.Whys.{barred_why, said_why, stopped_why}
use Rattle.repo_core.proofs.repository.Core.begin.Goals as goal

pub returns-in-Some-clause-called : goal.returns-in-Some-clause-called
returns-in-Some-clause-called g c =
    (barred_alone (devices g.D.Disk g.T.Keeper) c.args.caller (call.Begin c.args.begin) begun_in TouchesNone AltersNone (Counts (config_of c.args.self.now.config) c.args.begin.key) c.args.self.now c.turn_away.new.self c.in-Some.why c.beginning.result
    c.in-Some.ensures (c.beginning.ensures ∙ ap (λ (r : Reply). record { caller = c.args.caller; call = call.Begin c.args.begin; reply = r }) c.refused.ensures) c.turn_away.ensures.full c.turn_away.ensures.entry).0

pub returns-in-Some-clause-survives : goal.returns-in-Some-clause-survives
returns-in-Some-clause-survives g c =
    (barred_alone (devices g.D.Disk g.T.Keeper) c.args.caller (call.Begin c.args.begin) begun_in TouchesNone AltersNone (Counts (config_of c.args.self.now.config) c.args.begin.key) c.args.self.now c.turn_away.new.self c.in-Some.why c.beginning.result
    c.in-Some.ensures (c.beginning.ensures ∙ ap (λ (r : Reply). record { caller = c.args.caller; call = call.Begin c.args.begin; reply = r }) c.refused.ensures) c.turn_away.ensures.full c.turn_away.ensures.entry).1

pub returns-clause-called : goal.returns-clause-called
returns-clause-called g c = rw (← c.self.view_is) (
    let on = devices g.D.Disk g.T.Keeper in
    let core = c.self.inside in
    let ask = begins {W = g.row.D-Writer.Denot} (config_of core.config) c.args.caller c.args.begin in
    let did = c.begin_upload-done in
    let at = did.ensures in
    let upload : Begun g.row.D-Writer.Denot → _ = λ begun. begun.upload in
    let old : CoreView g.row.D.Denot g.row.T.Denot = record { disk = core.disk; table = core.table; config = core.config; journal = core.journal; own = core.own; holds = core.holds.items; broken = core.broken } in
    let left : CoreView g.row.D.Denot g.row.T.Denot = left_by old did.new.disk did.new.table did.new.own core.holds.items c.beginning-2.result None in
    let free : BarredBy old None = subst (λ (k : CoreView g.row.D.Denot g.row.T.Denot). BarredBy k None) (sym c.self.view_is) c.in_default.ensures in
    let entry_is : c.beginning-2.result ≡ entry_of c.args.caller (call.Begin c.args.begin) begun_in c.begun-reply.result.1 =
    c.beginning-2.ensures ∙ ap (λ (r : Reply). record { caller = c.args.caller; call = call.Begin c.args.begin; reply = r }) c.begun-reply.ensures.reply in
    called_done on ask old c.note.new.self c.begun-reply.result.1 c.beginning-2.result upload (stopped did.result) (length core.journal.entries)
    (stopped_answers upload begun_or_refused (λ begun. refl) (λ why. refl) did.result c.begun-reply.result.1 c.begun-reply.ensures.answer) free refl
    did.new.disk did.new.table did.new.own core.holds.items None c.note.ensures (breaks_nothing (length core.journal.entries) did.result) (ap (λ (e : Entry). e ∷ []) entry_is)
    (worked_quietly on ask (config_of core.config) (parts_of old) (parts_of left) (stopped did.result) (λ s image has. inl has) (λ told some _ s a broke. never_stopped _ did.result broke) (record { files = at.tree; moments = at.any_moment; shown = at.shown })
    (tells_map (λ s t. t ≡ s) (λ s t. (t ≡ s) ⊎ AltersNone s t) (g.T.Keeper.table core.table) (g.T.Keeper.table did.new.table) (λ s t same. inl same) at.rows) (not_denied_counts (Counts (config_of core.config) c.args.begin.key core.own did.new.own) did.result at.counted)
    (tells_map (λ s t. t ≡ s) (λ s t. is_denied (stopped did.result) ≡ true → t ≡ s) (g.T.Keeper.table core.table) (g.T.Keeper.table did.new.table) (λ s t same denied. same) at.rows)
    (if_stopped (did.new.own ≡ core.own) did.result at.clean) (λ broke. never_stopped _ did.result broke) (λ _. at.changes) at.lasting
    (stopped_cause IsDisk _ _ did.result at.disk_cause) (stopped_cause IsKeeper _ _ did.result at.keeper_cause))
    (λ told some _ s a.
    let next = next_begun (config_of core.config) (length core.journal.entries) c.args.caller s c.args.begin (StandFor on (config_of core.config) (parts_of left)) did.result c.begun-reply.result.1 c.begun-reply.ensures.answer (at.ends told some s a) in
    record {
      state = next.0;
      leads = (subst (λ (e : Entry). Follows (config_of core.config) (length core.journal.entries) s e next.0) (sym entry_is) next.1, refl);
      broken = next.2.sound;
      agrees = λ _. next.2;
    }))

pub returns-clause-survives : goal.returns-clause-survives
returns-clause-survives g c = rw (← c.self.view_is) (
    let on = devices g.D.Disk g.T.Keeper in
    let core = c.self.inside in
    let ask = begins {W = g.row.D-Writer.Denot} (config_of core.config) c.args.caller c.args.begin in
    let did = c.begin_upload-done in
    let at = did.ensures in
    let upload : Begun g.row.D-Writer.Denot → _ = λ begun. begun.upload in
    let old : CoreView g.row.D.Denot g.row.T.Denot = record { disk = core.disk; table = core.table; config = core.config; journal = core.journal; own = core.own; holds = core.holds.items; broken = core.broken } in
    let left : CoreView g.row.D.Denot g.row.T.Denot = left_by old did.new.disk did.new.table did.new.own core.holds.items c.beginning-2.result None in
    let free : BarredBy old None = subst (λ (k : CoreView g.row.D.Denot g.row.T.Denot). BarredBy k None) (sym c.self.view_is) c.in_default.ensures in
    let entry_is : c.beginning-2.result ≡ entry_of c.args.caller (call.Begin c.args.begin) begun_in c.begun-reply.result.1 =
    c.beginning-2.ensures ∙ ap (λ (r : Reply). record { caller = c.args.caller; call = call.Begin c.args.begin; reply = r }) c.begun-reply.ensures.reply in
    survives_done on ask old c.note.new.self c.begun-reply.result.1 c.beginning-2.result upload (stopped did.result) (length core.journal.entries)
    (stopped_answers upload begun_or_refused (λ begun. refl) (λ why. refl) did.result c.begun-reply.result.1 c.begun-reply.ensures.answer) free refl
    did.new.disk did.new.table did.new.own core.holds.items None c.note.ensures (breaks_nothing (length core.journal.entries) did.result) (ap (λ (e : Entry). e ∷ []) entry_is)
    (worked_quietly on ask (config_of core.config) (parts_of old) (parts_of left) (stopped did.result) (λ s image has. inl has) (λ told some _ s a broke. never_stopped _ did.result broke) (record { files = at.tree; moments = at.any_moment; shown = at.shown })
    (tells_map (λ s t. t ≡ s) (λ s t. (t ≡ s) ⊎ AltersNone s t) (g.T.Keeper.table core.table) (g.T.Keeper.table did.new.table) (λ s t same. inl same) at.rows) (not_denied_counts (Counts (config_of core.config) c.args.begin.key core.own did.new.own) did.result at.counted)
    (tells_map (λ s t. t ≡ s) (λ s t. is_denied (stopped did.result) ≡ true → t ≡ s) (g.T.Keeper.table core.table) (g.T.Keeper.table did.new.table) (λ s t same denied. same) at.rows)
    (if_stopped (did.new.own ≡ core.own) did.result at.clean) (λ broke. never_stopped _ did.result broke) (λ _. at.changes) at.lasting
    (stopped_cause IsDisk _ _ did.result at.disk_cause) (stopped_cause IsKeeper _ _ did.result at.keeper_cause)))

pub returns-in-Some-clause-why : goal.returns-in-Some-clause-why
returns-in-Some-clause-why g c =
    barred_why c.args.self.now c.in-Some.why
    (WhyNotBegun (config_of c.args.self.now.config) c.args.self.now.own.counts c.args.begin.key (g.T.Keeper.found c.turn_away.new.self.table)) tt (λ cause. tt) c.in-Some.ensures

pub returns-clause-why : goal.returns-clause-why
returns-clause-why g c = rw (← c.self.view_is, c.note.ensures) (
    let core = c.self.inside in
    let did = c.begin_upload-done in
    let upload : Begun g.row.D-Writer.Denot → _ = λ begun. begun.upload in
    let P = WhyNotBegun (config_of core.config) core.own.counts c.args.begin.key (g.T.Keeper.found did.new.table) in
    said_why upload P (stopped did.result) c.begun-reply.result.1
    (stopped_answers upload begun_or_refused (λ begun. refl) (λ why. refl) did.result c.begun-reply.result.1 c.begun-reply.ensures.answer) (stopped_why P did.result did.ensures.why))
