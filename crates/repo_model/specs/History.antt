-- Histories: which lists of entries lead from one state to another.
use Rattle.std.specs.Prelude.{◌≡◌, ◌≢◌, ℕ, ◌+◌, Bool, true, false, IsTrue, not, ◌⊎◌, List, [], ◌∷◌, Option, Some, None}
use Rattle.nx_base.specs.declared.key.Key.{Key}
use Rattle.nx_base.specs.declared.asset.Asset.{Asset}
use Rattle.repo_model.specs.declared.call.Call.{Call}
use Rattle.repo_model.specs.declared.call.Call.TheVariants as call
use Rattle.repo_model.specs.declared.entry.Entry.{Entry}
use Rattle.repo_model.specs.declared.reply.Fault.{Fault}
use Rattle.repo_model.specs.declared.reply.Fault.TheVariants as fault
use Rattle.repo_model.specs.declared.reply.Refusal.TheVariants as refusal
use Rattle.repo_model.specs.declared.reply.Reply.{Reply}
use Rattle.repo_model.specs.declared.reply.Reply.TheVariants as reply
use Rattle.repo_model.specs.Config.{Config}
use Rattle.repo_model.specs.State.{State, row_of}
use Rattle.repo_model.specs.Step.{Step}

-- the answer that says that this failed
abbrev pub refusal_of : Fault → Reply
refusal_of fault.Disk = reply.Refused refusal.DiskFault
refusal_of fault.Keeper = reply.Refused refusal.KeeperFault
refusal_of fault.Memory = reply.Refused refusal.NoMemory

abbrev pub is_begin : Call → Bool
is_begin (call.Begin begin) = true
is_begin (call.Put key content_type size sha1 moment) = false
is_begin (call.Get key look moment remote) = false
is_begin (call.Delete key now) = false
is_begin (call.Clean key policy now) = false
is_begin (call.Remove blob now) = false
is_begin call.Reconcile = false

-- a device or the memory failed. Nothing changes; or, for a call other than Begin, the repository is broken from then on.
pub record Fails (number : ℕ) (state : State) (c : Call) (said : Reply) (new : State) : Type 0 where
  pub what : Fault
  pub says : said ≡ refusal_of what
  pub sound : state.broken ≡ None
  pub leaves : (new ≡ state) ⊎ (IsTrue (not (is_begin c)) × (new ≡ record state { broken = Some (record { fault = what; entry = number }) }))

-- the key whose content a call opens or gives up
abbrev pub content_key : Call → Option Key
content_key (call.Begin begin) = None
content_key (call.Put key content_type size sha1 moment) = None
content_key (call.Get key look moment remote) = Some key
content_key (call.Delete key now) = Some key
content_key (call.Clean key policy now) = Some key
content_key (call.Remove blob now) = None
content_key call.Reconcile = None

-- the key's content isn't what its row says. Nothing changes.
pub record IsDamaged (state : State) (c : Call) (said : Reply) (new : State) : Type 0 where
  pub key : Key
  pub asset : Asset
  pub found : Option ℕ
  pub asked : content_key c ≡ Some key
  pub stands : row_of state key ≡ Some asset
  pub says : said ≡ reply.Refused (refusal.Damaged asset.size found)
  pub differs : found ≢ Some asset.size
  pub sound : state.broken ≡ None
  pub leaves : new ≡ state

-- from the state, the entry with that number may come next
abbrev pub Follows : Config → ℕ → State → Entry → State → Type 0
Follows config number state entry new =
    Step config state entry.call entry.reply new ⊎ (Fails number state entry.call entry.reply new ⊎ IsDamaged state entry.call entry.reply new)

-- the entries, of which the first has that number, lead from the state to the new one
abbrev pub LegalFrom : Config → ℕ → State → List Entry → State → Type 0
LegalFrom config number state [] new = new ≡ state
LegalFrom config number state (entry ∷ entries) new =
    (mid : State) × Follows config number state entry mid × LegalFrom config (number + 1) mid entries new

-- a whole journal
abbrev pub Legal : Config → State → List Entry → State → Type 0
Legal config = LegalFrom config 0
