-- The step of the beginning of an upload, by what is found.
use Rattle.std.proofs.Common.{◌≡◌, inl, ℕ, true, false, ◌&&◌, [], Some, None, Result, Ok, Err, is_some, refl, sym, ◌∙◌, ap, subst}
use Rattle.nx_base.specs.Fills.{chosen}
use Rattle.nx_base.specs.declared.policy.Policy.{Policy}
use Rattle.nx_base.specs.declared.policy.Policy.TheVariants.{NoRedeploy, ReadOnly}
use Rattle.repo_model.specs.declared.call.Begin.{Begin}
use Rattle.repo_model.specs.declared.call.Call.TheVariants as call
use Rattle.repo_model.specs.declared.call.Kind.TheVariants as kinds
use Rattle.repo_model.specs.declared.reply.Reply.TheVariants as reply
use Rattle.repo_model.specs.Config.{Repo, Config, repo_of, write_store, group_of, is_no_redeploy}
use Rattle.repo_model.specs.State.{State, row_of}
use Rattle.repo_model.specs.Outcome.{answered}
use Rattle.repo_model.specs.Writing.{bars_put, count_of, counted, keeps_row}
use Rattle.repo_model.specs.Step.{outcome, on_begin, begun}
use Rattle.repo_core.specs.declared.choosing.Chosen.{Chosen}
use Rattle.repo_core.specs.declared.denial.Denial.{Denial}
use Rattle.repo_core.specs.declared.denial.Denial.TheVariants as denial
use Rattle.repo_core.specs.Ends.{Denies}
use Rattle.repo_model.specs.declared.reply.Refusal.{Refusal}
use Rattle.repo_model.specs.History.{Follows}
use Rattle.blob_files.specs.declared.upload.Upload.{Upload}
use Rattle.repo_core.specs.declared.beginning.Begun.{Begun}
use Rattle.repo_core.specs.Answers.{entry_of}
use Rattle.repo_core.specs.Begun.{IsChosen, EndsBegin, begun_in, begun_or_refused}
use Rattle.repo_core.proofs.Steps.{sound_is, denies_by}

module _ (config : Config) (s : State) (begin : Begin) (sound : s.broken ≡ None) (put : begin.kind ≡ kinds.Put) where
  asked : outcome config s [] (call.Begin begin) ≡ on_begin config s begin
  asked = sound_is config s [] (call.Begin begin) sound

  pub not_declared : repo_of config begin.key.repo ≡ None → Denies config s (call.Begin begin) denial.UnknownRepo
  not_declared is = denies_by config s [] (call.Begin begin) denial.UnknownRepo (asked ∙ rw is refl)

  pub barred : (repo : Repo) → repo_of config begin.key.repo ≡ Some repo → bars_put repo ≡ true → Denies config s (call.Begin begin) (denial.WriteDenied ReadOnly)
  barred repo is shut = denies_by config s [] (call.Begin begin) (denial.WriteDenied ReadOnly) (asked ∙ rw (is, put, shut) refl)

  pub none_writable : (repo : Repo) → repo_of config begin.key.repo ≡ Some repo → bars_put repo ≡ false → chosen (group_of config repo) (count_of s (write_store repo)) ≡ None
      → Denies config s (call.Begin begin) denial.NoWritable
  none_writable repo is opened none = denies_by config s [] (call.Begin begin) denial.NoWritable (asked ∙ rw (is, put, opened, none) refl)

  module _ (c : Chosen) (is : IsChosen config s begin c) where
    goes : on_begin config s begin ≡ begun is.repo s begin c.store
    goes = rw (is.named, put, is.opened, is.store_is) refl

    same_policy : (is_no_redeploy c.policy && is_some (row_of s begin.key)) ≡ keeps_row is.repo s begin.key
    same_policy = ap (λ (p : Policy). is_no_redeploy p && is_some (row_of s begin.key)) is.policy_is

    pub kept_row : (is_no_redeploy c.policy && is_some (row_of s begin.key)) ≡ true → Denies config s (call.Begin begin) (denial.WriteDenied NoRedeploy)
    kept_row keeps = denies_by config s [] (call.Begin begin) (denial.WriteDenied NoRedeploy) (asked ∙ goes ∙ rw (put, sym same_policy ∙ keeps) refl)

    pub begins : (is_no_redeploy c.policy && is_some (row_of s begin.key)) ≡ false
        → outcome config s [] (call.Begin begin) ≡ answered (counted s (write_store is.repo)) (reply.Begun c.store)
    begins open_to = asked ∙ goes ∙ rw (put, sym same_policy ∙ open_to) refl

-- the beginning of an upload leads to the next state
pub next_begun : {W : Type 0} (config : Config) (number caller : ℕ) (s : State) (begin : Begin) (agrees : State → Type 0) (done : Result (Begun W) Denial) (answer : Result (Upload W) Refusal)
    → answer ≡ begun_or_refused done → EndsBegin config s begin agrees done
    → (new : State) × Follows config number s (entry_of caller (call.Begin begin) begun_in answer) new × agrees new
next_begun {W} config number caller s begin agrees done answer is ends =
    subst (λ (r : Result (Upload W) Refusal). (new : State) × Follows config number s (entry_of caller (call.Begin begin) begun_in r) new × agrees new) (sym is) (by_work done ends)
  where
    by_work : (d : Result (Begun W) Denial) → EndsBegin config s begin agrees d
        → (new : State) × Follows config number s (entry_of caller (call.Begin begin) begun_in (begun_or_refused d)) new × agrees new
    by_work (Ok value) e = (e.0, inl e.1, e.2)
    by_work (Err why) e = (s, e.0 number caller, e.1)
