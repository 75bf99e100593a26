-- What a call leads to: a reply, and the state after it. Some calls have no outcome in a state.
use Rattle.std.specs.Prelude.{Option, Some}
use Rattle.repo_model.specs.declared.reply.Refusal.{Refusal}
use Rattle.repo_model.specs.declared.reply.Reply.{Reply}
use Rattle.repo_model.specs.declared.reply.Reply.TheVariants as reply
use Rattle.repo_model.specs.State.{State}

pub record Outcome : Type 0 where
  pub reply : Reply
  pub new : State

abbrev pub answered : State → Reply → Option Outcome
answered new said = Some (record { reply = said; new = new })

-- a refusal changes nothing
abbrev pub refused : State → Refusal → Option Outcome
refused state why = answered state (reply.Refused why)
