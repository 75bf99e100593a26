-- What the core gave is replied, and what it opened is open.
use Rattle.std.proofs.Common.{Option, inr, refl, sym, ◌∙◌, subst}
use Rattle.blob_files.specs.declared.download.Download.{Download}
use Rattle.repo_model.specs.declared.call.Call.TheVariants as call
use Rattle.repo_model.specs.declared.call.RemoteSaid.TheVariants as remote
use Rattle.repo_core.specs.Asks.{KeepsAll, SetsRow, TouchesNone}
use Rattle.repo_core.specs.Devices.{devices}
use Rattle.repo_core.specs.Looking.{found_in}
use Rattle.repo_session.specs.Answering.{IsFree}
use Rattle.repo_session.proofs.CoreCalls.{asked_plain, none_named, undamaged}
use Rattle.repo_session.proofs.Gives.{found_refuses, found_stores, found_whole, look_gives}
use Rattle.repo_session.proofs.Lookings.{free_after, looked_up}
use Rattle.repo_session.proofs.Replied.{drew}
use Rattle.repo_session.proofs.answering.AnsweringWriterReaderRepository.look.Goals as goal

pub invariant_of-self : goal.invariant_of-self
invariant_of-self g c = record {
  free = subst (λ (f : Option (Download g.row.D-Reader.Denot)). IsFree f c.get-got.new.self.holds) (sym (c.keep.ensures ∙ c.looked-said.ensures.opened))
      (free_after _ c.let_go.new.core.holds c.get-got.new.self.holds c.get-got.result c.let_go.ensures.free c.get-got.ensures.holds);
}

pub returns : goal.returns
returns g c = λ head asked.
    let on = devices g.D.Disk g.T.Keeper in
    let old = c.let_go.new.core in
    let new = c.get-got.new.self in
    let moment = c.draw-moment.result in
    let got = c.get-got.ensures in
    looked_up _ g.D.Reader.Reader.left _ _ old head c.args.key c.args.look moment c.get-got.result c.looked-said.result.0 asked
    (drew _ _ moment c.draw-moment.ensures.value c.draw-moment.ensures.moments c.draw-moment.ensures.next)
    c.let_go.ensures.rests
    (asked_plain on old new (call.Get c.args.key c.args.look moment remote.NotAsked) found_in TouchesNone (SetsRow c.args.key) KeepsAll c.get-got.result tt refl none_named
    (λ told some s tracks. inr (undamaged found_in c.get-got.result found_whole (got.whole told some s tracks))) found_refuses found_stores got.called got.survives)
    (λ told some s contents stands.
    look_gives on g.D.Reader.Reader.left g.D.Reader.Reader.size g.D.Reader.Reader.faults old new c.args.key c.args.look moment s contents stands c.get-got.result got.called told some
    got.opened (got.file told) (got.content told some s stands.tracks))
    got.kind c.looked-said.ensures.reply (c.keep.ensures ∙ c.looked-said.ensures.opened)
