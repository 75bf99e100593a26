-- How an upload that came whole is put.
use Rattle.std.specs.Prelude.{◌≡◌, ℕ, true, List, None, Result, Ok, Err}
use Rattle.nx_base.specs.declared.asset.Asset.{Asset}
use Rattle.nx_base.specs.declared.moment.Moment.{Moment}
use Rattle.repo_model.specs.declared.entry.Entry.{Entry}
use Rattle.repo_model.specs.declared.reply.Refusal.{Refusal}
use Rattle.repo_model.specs.declared.reply.Reply.{Reply}
use Rattle.repo_model.specs.declared.reply.Reply.TheVariants as reply
use Rattle.http_heads.specs.declared.head.Head.{Head}
use Rattle.http_requests.specs.Requests.{whole}
use Rattle.http_front.specs.Answers.{has_begun, last_reply}
use Rattle.repo_core.specs.View.{CoreView}
use Rattle.repo_core.specs.Devices.{Devices}
use Rattle.repo_session.specs.Turned.{TurnMade}

-- the reply of a put that was answered so
abbrev pub IsPutReply : Result (Unit {0}) Refusal → Reply → Type 0
IsPutReply (Ok x) said = (asset : Asset) × (said ≡ reply.Stored asset)
IsPutReply (Err why) said = said ≡ reply.Refused why

-- the turn of an upload that came whole, up to its last reply
pub record IsPut {D T : Type 0} (devices : Devices D T) (old new : CoreView D T) (moment : Moment) (head : Head) (content : List ℕ) (result : Result (Unit {0}) Refusal) : Type 0 where
  pub entries : List Entry
  pub made : TurnMade devices old new moment (record { request = whole head content; stop = None; entries = entries })
  pub begun : has_begun entries ≡ true
  pub said : IsPutReply result (last_reply entries)
