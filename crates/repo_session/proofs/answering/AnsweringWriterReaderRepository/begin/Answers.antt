-- An upload that was begun waits for its content, and one that wasn't is answered.
use Rattle.std.proofs.Common.{Ok, Err, Option, inl, refl, sym, ap, subst, true≢false}
use Rattle.std.specs.Option.{option_map}
use Rattle.repo_model.specs.declared.call.Call.TheVariants as call
use Rattle.repo_core.specs.Asks.{AltersNone, TouchesNone}
use Rattle.repo_model.specs.declared.plain.config.PlainConfig.{PlainConfig}
use Rattle.repo_model.specs.Plain.{config_of}
use Rattle.repo_core.specs.Begun.{begun_in}
use Rattle.repo_core.specs.Devices.{devices}
use Rattle.repo_core.specs.Puts.{MayGo}
use Rattle.repo_core.specs.View.{CoreView}
use Rattle.repo_session.specs.declared.open_upload.OpenUpload.{OpenUpload}
use Rattle.repo_session.proofs.Beginnings.{called_of, upload_begun}
use Rattle.repo_session.proofs.CoreCalls.{asked_plain, none_named}
use Rattle.repo_session.proofs.Denials.{upload_denied, upload_not_asked}
use Rattle.repo_session.proofs.Lookings.{called_behind}
use Rattle.repo_session.proofs.Replied.{drew, each_answered}
use Rattle.repo_session.proofs.answering.AnsweringWriterReaderRepository.begin.Goals as goal

pub returns-in_default : goal.returns-in_default
returns-in_default g c = λ head is put.
    each_answered _ _ _ head _ c.draw.result (drew _ _ c.draw.result c.draw.ensures.value c.draw.ensures.moments c.draw.ensures.next) (upload_not_asked _ _ head c.draw.result put)

pub returns-in-Ok-begin : goal.returns-in-Ok-begin
returns-in-Ok-begin g c = λ head is put.
    let done = c.in-Ok-begin.ensures in
    let called = asked_plain (devices g.D.Disk g.T.Keeper) _ _ (call.Begin _) begun_in TouchesNone AltersNone _ (Ok c.in-Ok-begin.upload) tt refl none_named (λ told some s tracks. inl refl) (λ v. (λ e. cc, λ e. cc)) (λ v made e. cc) done.called done.survives in (
      λ yes. record {
        draws = refl;
        upload = c.in-Ok-begin.upload;
        kept = ap (λ (u : Option (OpenUpload g.row.D-Writer.Denot)). option_map (λ o. o.upload) u) c.keep.ensures;
        begun = upload_begun _ g.D.Writer.Writer.told g.D.Writer.Writer.written _ _ c.args.begin head c.in-Ok-begin.upload is (called_behind _ _ _ _ _ _ _ _ c.stop_open.ensures.rests called) done.begun.target
            (λ t is. subst (λ (k : PlainConfig). MayGo (config_of k) c.args.begin.key t.store) (ap (λ (core : CoreView g.row.D.Denot g.row.T.Denot). core.config) c.stop_open.ensures.rests.same) (done.begun.may_go t is)) done.taken;
      },
      λ no. absurd (true≢false no),
    )

pub returns-in-Err : goal.returns-in-Err
returns-in-Err g c = λ head is put. (
  λ yes. absurd (true≢false (sym yes)),
  λ no.
      let done = c.in-Err.ensures in
      let called = asked_plain (devices g.D.Disk g.T.Keeper) _ _ (call.Begin _) begun_in TouchesNone AltersNone _ (Err c.in-Err.refusal) tt refl none_named (λ told some s tracks. inl refl) (λ v. (λ e. cc, λ e. cc)) (λ v made e. cc) done.called done.survives in
      each_answered _ _ _ head _ c.draw-in-Err.result (drew _ _ c.draw-in-Err.result c.draw-in-Err.ensures.value c.draw-in-Err.ensures.moments c.draw-in-Err.ensures.next)
      (upload_denied _ _ _ head c.in-Err.refusal c.draw-in-Err.result put (called_of _ _ _ c.args.begin head _ is (called_behind _ _ _ _ _ _ _ _ c.stop_open.ensures.rests called))),
)
