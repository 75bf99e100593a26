-- When a core stands for a state of the one-thread repository, and what a call of it leads to.
use Rattle.std.specs.Prelude.{◌≡◌, ◌⊎◌, ℕ, Bool, true, false, IsTrue, List, [], ◌∷◌, length, Option, Some, None}
use Rattle.std.specs.FinMap as map
use Rattle.nx_base.specs.Order.{key_cmp}
use Rattle.nx_base.specs.declared.asset.Asset.{Asset}
use Rattle.repo_model.specs.declared.call.Call.{Call}
use Rattle.repo_model.specs.declared.entry.Entry.{Entry}
use Rattle.repo_model.specs.declared.reply.Refusal.{Refusal}
use Rattle.repo_model.specs.declared.reply.Reply.{Reply}
use Rattle.repo_model.specs.Config.{Config}
use Rattle.repo_model.specs.State.{State}
use Rattle.repo_model.specs.Outcome.{answered}
use Rattle.repo_model.specs.Step.{outcome}
use Rattle.repo_model.specs.History.{LegalFrom}
use Rattle.repo_model.specs.Plain.{config_of}
use Rattle.repo_model.specs.Refusals.{class_of, IsOfNoFault, OnRefused, on_refused}
use Rattle.disk_model.specs.Disk.{Tree, Lists}
use Rattle.disk_model.specs.Moments.{Settled}
use Rattle.asset_keeper.specs.Table.{Table}
use Rattle.tree_content.specs.Contents.{HasContents}
use Rattle.repo_core.specs.Stores.{homes_of}
use Rattle.repo_core.specs.Rows.{contents_in, rows_in}
use Rattle.repo_core.specs.Agree.{Agrees}
use Rattle.repo_core.specs.View.{CoreView}

-- The core stands for the state: both are broken by the same cause or by none, and where nothing is broken, everything agrees.
pub record Tracks {D T : Type 0} (tree : D → Tree) (table : T → Option Table) (core : CoreView D T) (s : State) : Type 0 where
  pub broken : s.broken ≡ core.broken
  pub agrees : core.broken ≡ None → Agrees (config_of core.config) (tree core.disk) (rows_in (table core.table)) core.own s

-- these entries, made after those before the call, lead from the state to one that the new core stands for
abbrev pub Moves : {D T : Type 0} → (D → Tree) → (T → Option Table) → CoreView D T → CoreView D T → List Entry → State → Type 0
Moves tree table old new entries s =
    (t : State) × LegalFrom (config_of old.config) (length old.journal.entries) s entries t × Tracks tree table new t

-- a refusal that tells of no fault of a device, and of no want of memory
abbrev pub IsSteadyRefusal : Refusal → Type 0
IsSteadyRefusal why = IsOfNoFault (class_of why)

-- a reply that tells of none
abbrev pub IsSteady : Reply → Type 0
IsSteady = OnRefused IsSteadyRefusal

-- where the reply tells of no fault, the step of the upload in that store answers so
abbrev pub AnswersAt : Config → State → List ℕ → Call → Reply → State → Type 0
AnswersAt config s store c said new = IsSteady said → outcome config s store c ≡ Some (record { reply = said; new = new })

-- this entry, made after those before the call, leads to a state that the new core stands for, and where it tells of no fault, by the step
-- of the upload in that store
abbrev pub MovesAt : {D T : Type 0} → (D → Tree) → (T → Option Table) → CoreView D T → CoreView D T → List ℕ → Entry → State → Type 0
MovesAt tree table old new store entry s =
    (t : State) × LegalFrom (config_of old.config) (length old.journal.entries) s (entry ∷ []) t × Tracks tree table new t
    × AnswersAt (config_of old.config) s store entry.call entry.reply t

-- everything is settled: each name outside `tmp` has its present value alone in its list
abbrev pub IsDurable : {D : Type 0} → (D → Tree) → (D → ℕ) → (D → ℕ → Lists) → D → Type 0
IsDurable tree clock lists disk = Settled (tree disk) (lists disk (clock disk))

-- whether a call did what it was for
abbrev pub is_done : Reply → Bool
is_done = on_refused true (λ why. false)

-- This holds of the state before the call, or of the one after the step by which it is done. The store is that of the upload that it ends.
abbrev pub BeforeOrAfter : Config → State → List ℕ → Call → (State → Type 0) → Type 0
BeforeOrAfter config s store c holds =
    holds s ⊎ ((said : Reply) × (new : State) × (outcome config s store c ≡ answered new said) × IsTrue (is_done said) × holds new)

-- the tree has the contents before or after
abbrev pub ImageBeforeOrAfter : Config → State → List ℕ → Call → Tree → Type 0
ImageBeforeOrAfter config s store c image = BeforeOrAfter config s store c (λ t. HasContents (homes_of config) (contents_in t.rows) image)

-- Where a call is stopped halfway, the tree has the contents before or after, and the rows are those before or after.
pub record IsHalfway (config : Config) (s : State) (store : List ℕ) (c : Call) (tree : Tree) (rows : map.FinMap key_cmp Asset) : Type 0 where
  pub files : ImageBeforeOrAfter config s store c tree
  pub rows_are : BeforeOrAfter config s store c (λ t. rows ≡ t.rows)
