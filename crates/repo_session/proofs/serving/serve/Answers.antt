use Rattle.http_front.proofs.EndsMap.{ends_map}
use Rattle.repo_session.specs.Answering.{AnsweringView, session_view}
use Rattle.repo_session.specs.declared.answering.Answering.{Answering}
use Rattle.repo_core.specs.Devices.{Devices, devices}
use Rattle.repo_session.specs.Serving.{HasTurns, HasTurnsPast}
use Rattle.repo_session.specs.Turned.{DownloadFails}
use Rattle.repo_session.proofs.ChainTurns.{chain_turns, past_turns, chain_fails, turns_rest, fails_rest}
use Rattle.repo_session.proofs.TurnsMade.{rests_both}
use Rattle.repo_session.proofs.serving.serve.Goals as goal

pub returns-clause-session : goal.returns-clause-session
returns-clause-session g c = λ moments drawn.
    let on : Devices g.row.D.Denot g.row.T.Denot = devices g.D.Disk g.T.Keeper in
    let view : Answering g.row.D.Denot g.row.T.Denot g.row.D-Writer.Denot g.row.D-Reader.Denot g.row.D-Sealed.Denot g.row.D-Writer.Denot g.row.D-Reader.Denot g.D.Disk g.D.Writer.Writer g.D.Reader.Reader g.T.Keeper → AnsweringView g.row.D.Denot g.row.T.Denot g.row.D-Writer.Denot g.row.D-Reader.Denot = λ a. session_view a.core a.draws a.upload a.found in
    let said = c.run_session-end.ensures.said in
    let last = c.run_session-end.new.repository in
    let core = c.let_go.new.core in
    let rests = rests_both on last.core c.stop_open.new.core core c.stop_open.ensures.rests c.let_go.ensures.rests in (
      said.0,
      ends_map _ (HasTurns on c.args.core core said.0 moments) _ (HasTurnsPast on c.args.core moments) _ (DownloadFails on c.args.core core) said.0 c.run_session-end.result _ _ _ _ _
          (λ requests written chain. turns_rest on c.args.core last.core core said.0 moments requests written rests (chain_turns on view moments 0 requests written _ last said.0 drawn chain))
          (λ requests written count past. past_turns on view moments requests written _ last said.0 count drawn past)
          (λ fails. fails_rest on c.args.core last.core core rests (chain_fails on view moments _ last drawn fails))
          said.1,
    )
