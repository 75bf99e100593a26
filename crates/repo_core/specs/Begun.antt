-- Uploads that are begun.
use Rattle.std.specs.Prelude.{◌≡◌, ℕ, ◌⊎◌, ◌&&◌, [], true, false, is_some, unwrap_or, Some, Result, Ok, Err}
use Rattle.std.specs.Option.{option_map}
use Rattle.nx_base.specs.Fills.{chosen}
use Rattle.nx_base.specs.declared.key.Key.{Key}
use Rattle.nx_base.specs.declared.policy.Policy.{Policy}
use Rattle.nx_base.specs.declared.policy.Policy.TheVariants.{NoRedeploy}
use Rattle.asset_keeper.specs.declared.keep_err.KeepErr.{KeepErr}
use Rattle.repo_model.specs.declared.call.Begin.{Begin}
use Rattle.repo_model.specs.declared.call.Call.TheVariants as call
use Rattle.repo_model.specs.declared.reply.Refusal.{Refusal}
use Rattle.repo_model.specs.declared.reply.Reply.{Reply}
use Rattle.repo_model.specs.declared.reply.Reply.TheVariants as reply
use Rattle.repo_model.specs.Config.{Repo, Config, repo_of, write_store, group_of, is_no_redeploy}
use Rattle.repo_model.specs.State.{State, row_of}
use Rattle.repo_model.specs.Writing.{bars_put, count_of}
use Rattle.repo_model.specs.Step.{Step}
use Rattle.blob_files.specs.declared.upload.Upload.{Upload}
use Rattle.blob_files.specs.declared.upload.Target.{Target}
use Rattle.repo_core.specs.declared.choosing.Chosen.{Chosen}
use Rattle.repo_core.specs.declared.beginning.Begun.{Begun}
use Rattle.repo_core.specs.declared.denial.Denial.{Denial}
use Rattle.repo_core.specs.declared.denial.Denial.TheVariants as denial
use Rattle.repo_core.specs.Faults.{of_keeper, refusal_for}
use Rattle.repo_core.specs.Ends.{Denies}
use Rattle.repo_core.specs.Puts.{MayGo}

-- the store of a new upload of a repository that may be put into, with what is needed to count it
pub record IsChosen (config : Config) (s : State) (begin : Begin) (c : Chosen) : Type 0 where
  pub repo : Repo
  pub named : repo_of config begin.key.repo ≡ Some repo
  pub opened : bars_put repo ≡ false
  pub store_is : chosen (group_of config repo) (count_of s (write_store repo)) ≡ Some c.store
  pub copy_is : c.copy ≡ c.store
  pub group_is : c.group ≡ write_store repo
  pub count_is : c.count ≡ count_of s (write_store repo)
  pub policy_is : c.policy ≡ repo.policy

-- a store is chosen, or the state denies the upload
abbrev pub MayChoose : Config → State → Begin → Result Chosen Denial → Type 0
MayChoose config s begin (Ok c) = IsChosen config s begin c
MayChoose config s begin (Err why) = Denies config s (call.Begin begin) why

-- whether the key has a row that may not be replaced; else the keeper failed
abbrev pub MayReplace : State → Policy → Key → Result (Unit {0}) Denial → Type 0
MayReplace s policy key (Ok x) = (is_no_redeploy policy && is_some (row_of s key)) ≡ false
MayReplace s policy key (Err why) =
    ((failed : KeepErr) × (why ≡ denial.Failed (of_keeper failed)))
    ⊎ ((why ≡ denial.WriteDenied NoRedeploy) × ((is_no_redeploy policy && is_some (row_of s key)) ≡ true))

-- the reply of an upload: its store
abbrev pub begun_in : {W : Type 0} → Upload W → Reply
begun_in upload = reply.Begun (unwrap_or (option_map (λ (t : Target). t.store) upload.target) [])

-- what is told of it, and why it isn't begun
abbrev pub begun_or_refused : {W : Type 0} → Result (Begun W) Denial → Result (Upload W) Refusal
begun_or_refused (Ok begun) = Ok begun.upload
begun_or_refused (Err why) = Err (refusal_for why)

-- a step begins it and leads to a state that agrees, or it is denied, and the state stays
abbrev pub EndsBegin : {W : Type 0} → Config → State → Begin → (State → Type 0) → Result (Begun W) Denial → Type 0
EndsBegin config s begin agrees (Ok begun) = (new : State) × Step config s (call.Begin begin) (begun_in begun.upload) new × agrees new
EndsBegin config s begin agrees (Err why) = Denies config s (call.Begin begin) why × agrees s

-- An upload that has just begun: it is of this begin, the key's repository may write to its store, its writer hasn't failed, and it isn't dead.
pub record IsBegunFor {W : Type 0} (faults : W → ℕ) (config : Config) (begin : Begin) (upload : Upload W) : Type 0 where
  pub target : option_map (λ (t : Target). t.begin) upload.target ≡ Some begin
  pub may_go : (t : Target) → upload.target ≡ Some t → MayGo config begin.key t.store
  pub sound : faults upload.writer ≡ 0
  pub alive : upload.dead ≡ false
