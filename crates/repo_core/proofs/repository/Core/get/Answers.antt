use Rattle.std.proofs.Common.{rules, ◌≡◌, inl, [], ◌∷◌, length, slice_get, IsSome, None, Result, refl, sym, ◌∙◌, ap, subst}
use Rattle.std.proofs.lemmas.Option.{slice_get_within}
use Rattle.disk_model.specs.Disk.{Tree}
use Rattle.blob_files.specs.declared.download.Download.{Download}
use Rattle.repo_model.specs.declared.call.Call.TheVariants as call
use Rattle.repo_model.specs.declared.call.RemoteSaid.TheVariants as remote
use Rattle.repo_model.specs.declared.entry.Entry.{Entry}
use Rattle.repo_model.specs.declared.reply.Refusal.{Refusal}
use Rattle.repo_model.specs.declared.reply.Reply.{Reply}
use Rattle.repo_model.specs.declared.reply.Reply.TheVariants as reply
use Rattle.repo_model.specs.declared.transfer.GotOf.{GotOf}
use Rattle.repo_model.specs.History.{Follows}
use Rattle.repo_model.specs.Plain.{config_of}
use Rattle.repo_core.specs.declared.given.Given.{Given}
use Rattle.repo_core.specs.Answers.{reply_of, entry_of}
use Rattle.repo_core.specs.Asks.{looks_at, KeepsAll, TouchesNone, SetsRow}
use Rattle.repo_core.specs.Called.{parts_of}
use Rattle.repo_core.specs.Devices.{devices}
use Rattle.repo_core.specs.Got.{GotContent}
use Rattle.repo_core.specs.Looking.{got_given, got_of, found_in}
use Rattle.repo_core.specs.Parts.{StandFor}
use Rattle.repo_core.specs.Barred.{BarredBy}
use Rattle.repo_core.specs.View.{CoreView}
use Rattle.repo_core.specs.Why.{WhyNotGiven}
use Rattle.repo_core.proofs.Barrings.{barred_alone}
use Rattle.repo_core.proofs.CallsMade.{left_by, called_done, survives_done}
use Rattle.repo_core.proofs.WorkAnswers.{answers_as}
use Rattle.repo_core.proofs.Works.{worked_quietly}
use Rattle.repo_core.proofs.Givings.{same_contents}
use Rattle.repo_core.proofs.Finishings.{next_done}
use Rattle.repo_core.proofs.Tellings.{reply_same, given_holds, damage_from}
use Rattle.repo_core.proofs.Whys.{barred_why, said_why}
use Rattle.repo_core.proofs.repository.Core.get.Goals as goal

pub returns-in-Some-clause-called : goal.returns-in-Some-clause-called
returns-in-Some-clause-called g c =
    let asked = call.Get c.args.key c.args.look c.args.moment remote.NotAsked in
    (barred_alone (devices g.D.Disk g.T.Keeper) c.args.caller asked found_in TouchesNone (SetsRow c.args.key) KeepsAll c.args.self.now c.turn_away.new.self c.in-Some.why c.look_entry.result
    c.in-Some.ensures (c.look_entry.ensures ∙ ap (λ (r : Reply). record { caller = c.args.caller; call = asked; reply = r }) c.refused.ensures) c.turn_away.ensures.full c.turn_away.ensures.entry).0

pub returns-in-Some-clause-survives : goal.returns-in-Some-clause-survives
returns-in-Some-clause-survives g c =
    let asked = call.Get c.args.key c.args.look c.args.moment remote.NotAsked in
    (barred_alone (devices g.D.Disk g.T.Keeper) c.args.caller asked found_in TouchesNone (SetsRow c.args.key) KeepsAll c.args.self.now c.turn_away.new.self c.in-Some.why c.look_entry.result
    c.in-Some.ensures (c.look_entry.ensures ∙ ap (λ (r : Reply). record { caller = c.args.caller; call = asked; reply = r }) c.refused.ensures) c.turn_away.ensures.full c.turn_away.ensures.entry).1

pub tell-reply-requires : goal.tell-reply-requires
tell-reply-requires g c = slice_get_within c.self.inside.holds.items c.args.caller None (ap (λ (v : CoreView g.row.D.Denot g.row.T.Denot). slice_get v.holds c.args.caller) c.self.view_is ∙ c.requires.caller)

pub returns-clause-called : goal.returns-clause-called
returns-clause-called g c = rw (← c.self.view_is) (
    let on = devices g.D.Disk g.T.Keeper in
    let ask = looks_at {L = Download g.row.D-Reader.Denot} c.args.caller c.args.key c.args.look c.args.moment in
    let asked = call.Get c.args.key c.args.look c.args.moment remote.NotAsked in
    let says : Given g.row.D-Reader.Denot → Reply = λ given. reply.Found given.copy in
    let core = c.self.inside in
    let did = c.give-done in
    let at = did.ensures in
    let old : CoreView g.row.D.Denot g.row.T.Denot = record { disk = core.disk; table = core.table; config = core.config; journal = core.journal; own = core.own; holds = core.holds.items; broken = core.broken } in
    let left : CoreView g.row.D.Denot g.row.T.Denot = left_by old did.new.disk did.new.table core.own c.tell-reply.new.holds.items c.look_entry-2.result c.cause_of-cause.result in
    let free : BarredBy old None = subst (λ (k : CoreView g.row.D.Denot g.row.T.Denot). BarredBy k None) (sym c.self.view_is) c.in_default.ensures in
    let said : reply_of says c.answer_of.result ≡ reply_of found_in c.tell-reply.result.answer
    = reply_same c.answer_of.result ∙ ap (λ (r : Result (GotOf (Download g.row.D-Reader.Denot)) Refusal). reply_of found_in r) (sym c.tell-reply.ensures.answer) in
    let entry_is : c.look_entry-2.result ≡ entry_of c.args.caller asked found_in c.tell-reply.result.answer =
    c.look_entry-2.ensures ∙ ap (λ (r : Reply). record { caller = c.args.caller; call = asked; reply = r }) (c.tell-reply.ensures.reply ∙ said) in
    called_done on ask old c.note.new.self c.tell-reply.result.answer c.look_entry-2.result got_given did.result c.len-number.result
    (answers_as got_given got_of (λ given. refl) (λ why. refl) did.result c.answer_of.result c.tell-reply.result.answer c.answer_of.ensures c.tell-reply.ensures.answer) free c.len-number.ensures
    did.new.disk did.new.table core.own c.tell-reply.new.holds.items c.cause_of-cause.result c.note.ensures c.cause_of-cause.ensures (ap (λ (e : Entry). e ∷ []) entry_is)
    (worked_quietly on ask (config_of core.config) (parts_of old) (parts_of left) did.result (λ s image has. inl has)
    (λ told some _ s a broke. record { files = inl (same_contents (config_of core.config) (g.D.Disk.tree core.disk) s a.files (g.D.Disk.tree did.new.disk) (λ n out. ap (λ (t : Tree). t n) (at.tree told))); rows_are = at.halfway told some core.own s a broke })
    (record { files = λ told n out. ap (λ (t : Tree). t n) (at.tree told); moments = at.any_moment; shown = at.shown }) at.table (λ _. refl) at.clean_rows (λ _. refl) at.changed at.unchanged at.lasting at.disk_cause at.keeper_cause)
    (λ told some _ s a.
    let next = next_done (config_of core.config) (length core.journal.entries) c.args.caller s asked says (StandFor on (config_of core.config) (parts_of left)) did.result
    c.answer_of.result c.cause_of-cause.result c.len-number.result c.answer_of.ensures c.cause_of-cause.ensures c.len-number.ensures refl a.sound (λ t stands. stands.sound) (at.ends told some core.own s a) in
    record {
      state = next.new;
      leads = (
        subst (λ (e : Entry). Follows (config_of core.config) (length core.journal.entries) s e next.new)
            (ap (λ (r : Reply). record { caller = c.args.caller; call = asked; reply = r }) said ∙ sym entry_is) next.follows,
        refl,
      );
      broken = next.broken_is;
      agrees = next.agree;
    }))

pub returns-clause-survives : goal.returns-clause-survives
returns-clause-survives g c = rw (← c.self.view_is) (
    let on = devices g.D.Disk g.T.Keeper in
    let ask = looks_at {L = Download g.row.D-Reader.Denot} c.args.caller c.args.key c.args.look c.args.moment in
    let asked = call.Get c.args.key c.args.look c.args.moment remote.NotAsked in
    let says : Given g.row.D-Reader.Denot → Reply = λ given. reply.Found given.copy in
    let core = c.self.inside in
    let did = c.give-done in
    let at = did.ensures in
    let old : CoreView g.row.D.Denot g.row.T.Denot = record { disk = core.disk; table = core.table; config = core.config; journal = core.journal; own = core.own; holds = core.holds.items; broken = core.broken } in
    let left : CoreView g.row.D.Denot g.row.T.Denot = left_by old did.new.disk did.new.table core.own c.tell-reply.new.holds.items c.look_entry-2.result c.cause_of-cause.result in
    let free : BarredBy old None = subst (λ (k : CoreView g.row.D.Denot g.row.T.Denot). BarredBy k None) (sym c.self.view_is) c.in_default.ensures in
    let said : reply_of says c.answer_of.result ≡ reply_of found_in c.tell-reply.result.answer
    = reply_same c.answer_of.result ∙ ap (λ (r : Result (GotOf (Download g.row.D-Reader.Denot)) Refusal). reply_of found_in r) (sym c.tell-reply.ensures.answer) in
    let entry_is : c.look_entry-2.result ≡ entry_of c.args.caller asked found_in c.tell-reply.result.answer =
    c.look_entry-2.ensures ∙ ap (λ (r : Reply). record { caller = c.args.caller; call = asked; reply = r }) (c.tell-reply.ensures.reply ∙ said) in
    survives_done on ask old c.note.new.self c.tell-reply.result.answer c.look_entry-2.result got_given did.result c.len-number.result
    (answers_as got_given got_of (λ given. refl) (λ why. refl) did.result c.answer_of.result c.tell-reply.result.answer c.answer_of.ensures c.tell-reply.ensures.answer) free c.len-number.ensures
    did.new.disk did.new.table core.own c.tell-reply.new.holds.items c.cause_of-cause.result c.note.ensures c.cause_of-cause.ensures (ap (λ (e : Entry). e ∷ []) entry_is)
    (worked_quietly on ask (config_of core.config) (parts_of old) (parts_of left) did.result (λ s image has. inl has)
    (λ told some _ s a broke. record { files = inl (same_contents (config_of core.config) (g.D.Disk.tree core.disk) s a.files (g.D.Disk.tree did.new.disk) (λ n out. ap (λ (t : Tree). t n) (at.tree told))); rows_are = at.halfway told some core.own s a broke })
    (record { files = λ told n out. ap (λ (t : Tree). t n) (at.tree told); moments = at.any_moment; shown = at.shown }) at.table (λ _. refl) at.clean_rows (λ _. refl) at.changed at.unchanged at.lasting at.disk_cause at.keeper_cause))

pub returns-clause-content : goal.returns-clause-content
returns-clause-content g c = rw (← c.self.view_is) (λ told some s tracks.
    let core = c.self.inside in
    let none : core.broken ≡ None = search rules in
    let still : IsSome (g.T.Keeper.table c.give-done.new.table) = subst (λ (k : CoreView g.row.D.Denot g.row.T.Denot). IsSome (g.T.Keeper.table k.table)) c.note.ensures some in
    rw (c.tell-reply.ensures.answer, c.answer_of.ensures)
    (given_holds (GotContent g.D.Reader.Reader.left) c.give-done.result (c.give-done.ensures.content told still core.own s (tracks.agrees none))))

pub returns-clause-whole : goal.returns-clause-whole
returns-clause-whole g c = rw (← c.self.view_is) (λ told some s tracks size found is.
    let core = c.self.inside in
    let none : core.broken ≡ None = search rules in
    let still : IsSome (g.T.Keeper.table c.give-done.new.table) = subst (λ (k : CoreView g.row.D.Denot g.row.T.Denot). IsSome (g.T.Keeper.table k.table)) c.note.ensures some in
    c.give-done.ensures.whole told still core.own s (tracks.agrees none) size found
    (damage_from c.give-done.result size found (sym (c.tell-reply.ensures.answer ∙ ap got_of c.answer_of.ensures) ∙ is)))

pub returns-in-Some-clause-why : goal.returns-in-Some-clause-why
returns-in-Some-clause-why g c =
    barred_why c.args.self.now c.in-Some.why
    (WhyNotGiven (config_of c.args.self.now.config) c.args.key c.args.look (g.T.Keeper.found c.turn_away.new.self.table) (g.D.Disk.last_look c.turn_away.new.self.disk)) tt (λ cause. tt) c.in-Some.ensures

pub returns-clause-why : goal.returns-clause-why
returns-clause-why g c = rw (← c.self.view_is, c.note.ensures) (
    let did = c.give-done in
    said_why got_given (WhyNotGiven (config_of c.self.inside.config) c.args.key c.args.look (g.T.Keeper.found did.new.table) (g.D.Disk.last_look did.new.disk)) did.result c.tell-reply.result.answer
    (answers_as got_given got_of (λ given. refl) (λ why. refl) did.result c.answer_of.result c.tell-reply.result.answer c.answer_of.ensures c.tell-reply.ensures.answer) did.ensures.why)
