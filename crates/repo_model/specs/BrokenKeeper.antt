-- A worked history: the keeper fails at a commit, and from then on each call is answered by that.
use Rattle.std.specs.Prelude.{List, [], ◌∷◌, false, Some, replicate, codes}
use Rattle.nx_base.specs.declared.key.Key.{Key}
use Rattle.nx_base.specs.declared.moment.Moment.{Moment}
use Rattle.nx_base.specs.declared.fill.Fill.TheVariants.{First}
use Rattle.nx_base.specs.declared.policy.Policy.TheVariants.{Redeploy}
use Rattle.nx_base.specs.declared.repo_kind.RepoKind.TheVariants.{Hosted}
use Rattle.repo_model.specs.declared.call.Call.TheVariants as call
use Rattle.repo_model.specs.declared.call.Kind.TheVariants as kind
use Rattle.repo_model.specs.declared.call.Look.TheVariants as look
use Rattle.repo_model.specs.declared.call.RemoteSaid.TheVariants as said
use Rattle.repo_model.specs.declared.entry.Entry.{Entry}
use Rattle.repo_model.specs.declared.reply.Fault.TheVariants as fault
use Rattle.repo_model.specs.declared.reply.Refusal.TheVariants as refusal
use Rattle.repo_model.specs.declared.reply.Reply.TheVariants as reply
use Rattle.repo_model.specs.Config.{Config}
use Rattle.repo_model.specs.State.{empty_state}
use Rattle.repo_model.specs.Writing.{counted}
use Rattle.repo_model.specs.History.{Legal}

-- one hosted repository `files` in the store `default`
abbrev pub one_repository : Config
one_repository = record {
  repos = (codes "files", record { kind = Hosted; store = codes "default"; policy = Redeploy; max_age = Some 1440; not_found = 1440; cleanup = [] }) ∷ [];
  groups = (codes "default", record { members = record { store = codes "default"; read_only = false } ∷ []; fill = First }) ∷ [];
  policies = [];
  compact_age = 0;
}

abbrev pub some_key : Key
some_key = record { repo = codes "files"; path = codes "a/b.txt" }

abbrev pub some_moment : Moment
some_moment = record { now = 1700000000000; random = replicate 10 0 }

-- an upload begins, the keeper fails when it is put, and the next look finds the repository broken by entry 1
abbrev pub broken_journal : List Entry
broken_journal =
    record { caller = 0; call = call.Begin (record { key = some_key; content_type = codes "text/plain"; kind = kind.Put }); reply = reply.Begun (codes "default") }
    ∷ record { caller = 0; call = call.Put some_key (codes "text/plain") 3 (replicate 20 0) some_moment; reply = reply.Refused refusal.KeeperFault }
    ∷ record { caller = 0; call = call.Get some_key look.Get some_moment said.NotAsked; reply = reply.Refused (refusal.Broken (record { fault = fault.Keeper; entry = 1 })) }
    ∷ []

abbrev pub BreaksOnce : Type 0
BreaksOnce = Legal one_repository empty_state broken_journal (record (counted empty_state (codes "default")) { broken = Some (record { fault = fault.Keeper; entry = 1 }) })
