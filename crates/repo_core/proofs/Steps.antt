-- The step of a deletion, by what is found; and denials that no step gives.
use Rattle.std.proofs.Common.{◌≡◌, inl, inr, ◌≢◌, true, false, ℕ, List, [], Option, Some, None, refl, ◌∙◌, ap}
use Rattle.nx_base.specs.Given.{given}
use Rattle.nx_base.specs.declared.key.Key.{Key}
use Rattle.nx_base.specs.declared.asset.Asset.{Asset}
use Rattle.nx_base.specs.declared.policy.Policy.TheVariants.{ReadOnly}
use Rattle.repo_model.specs.declared.call.Call.{Call}
use Rattle.repo_model.specs.declared.call.Call.TheVariants as call
use Rattle.repo_model.specs.declared.reply.Fault.{Fault}
use Rattle.repo_model.specs.declared.reply.Fault.TheVariants as fault
use Rattle.repo_model.specs.declared.reply.Cause.{Cause}
use Rattle.repo_model.specs.declared.reply.Refusal.TheVariants as refusal
use Rattle.repo_model.specs.declared.reply.Reply.TheVariants as reply
use Rattle.repo_model.specs.Config.{Repo, Config, repo_of}
use Rattle.repo_model.specs.State.{State, row_of}
use Rattle.repo_model.specs.Outcome.{refused}
use Rattle.repo_model.specs.Writing.{bars_delete}
use Rattle.repo_model.specs.Deleting.{gone}
use Rattle.repo_model.specs.Step.{outcome, sound_outcome, on_delete}
use Rattle.repo_model.specs.History.{refusal_of, content_key}
use Rattle.repo_core.specs.declared.denial.Denial.{Denial}
use Rattle.repo_core.specs.declared.denial.Denial.TheVariants as denial
use Rattle.repo_core.specs.Faults.{refusal_for, refusal_of_fault}
use Rattle.repo_core.specs.Standing.{IsSteadyRefusal}
use Rattle.repo_core.specs.Ends.{Denies, DeniesAt}

-- where nothing is broken, the outcome is that of the call
pub sound_is : (config : Config) (s : State) (store : List ℕ) (c : Call) → s.broken ≡ None → outcome config s store c ≡ sound_outcome config s store c
unfolding outcome
sound_is config s store c sound = ap (λ (b : Option Cause). given b (sound_outcome config s store c) (λ cause. refused s (refusal.Broken cause))) sound

pub denies_by : (config : Config) (s : State) (store : List ℕ) (c : Call) (why : Denial) → outcome config s store c ≡ refused s (refusal_for why) → Denies config s c why
denies_by config s store c why e = λ number caller. inl (store, e)

pub denies_at : (config : Config) (s : State) (store : List ℕ) (c : Call) (why : Denial) → outcome config s store c ≡ refused s (refusal_for why) → DeniesAt config s store c why
denies_at config s store c why e = (denies_by config s store c why e, λ steady. e)

module _ (config : Config) (s : State) (key : Key) (now : ℕ) (sound : s.broken ≡ None) where
  asked : outcome config s [] (call.Delete key now) ≡ on_delete config s key now
  asked = sound_is config s [] (call.Delete key now) sound

  pub unknown : repo_of config key.repo ≡ None → outcome config s [] (call.Delete key now) ≡ refused s refusal.UnknownRepo
  unknown is = asked ∙ rw is refl

  pub closed : (repo : Repo) → repo_of config key.repo ≡ Some repo → bars_delete repo ≡ true → outcome config s [] (call.Delete key now) ≡ refused s (refusal.WriteDenied ReadOnly)
  closed repo is shut = asked ∙ rw (is, shut) refl

  pub absent : (repo : Repo) → repo_of config key.repo ≡ Some repo → bars_delete repo ≡ false → row_of s key ≡ None → outcome config s [] (call.Delete key now) ≡ refused s refusal.NotFound
  absent repo is opened row = asked ∙ rw (is, opened, row) refl

  pub found : (repo : Repo) (asset : Asset) → repo_of config key.repo ≡ Some repo → bars_delete repo ≡ false → row_of s key ≡ Some asset → outcome config s [] (call.Delete key now) ≡ gone s key now asset
  found repo asset is opened row = asked ∙ rw (is, opened, row) refl

says_fault : (what : Fault) → reply.Refused (refusal_of_fault what) ≡ refusal_of what
says_fault fault.Disk = refl
says_fault fault.Keeper = refl
says_fault fault.Memory = refl

-- a fault before anything was seen
pub fault_denies : (config : Config) (s : State) (c : Call) (what : Fault) → s.broken ≡ None → Denies config s c (denial.Failed what)
fault_denies config s c what sound = λ number caller. inr (inl (record { what = what; says = says_fault what; sound = sound; leaves = inl refl }))

unsteady : (what : Fault) → IsSteadyRefusal (refusal_of_fault what) → ⊥
unsteady fault.Disk steady = steady
unsteady fault.Keeper steady = steady
unsteady fault.Memory steady = steady

pub fault_denies_at : (config : Config) (s : State) (store : List ℕ) (c : Call) (what : Fault) → s.broken ≡ None → DeniesAt config s store c (denial.Failed what)
fault_denies_at config s store c what sound = (fault_denies config s c what sound, λ steady. absurd (unsteady what steady))

-- a content that isn't what its row says
pub damage_denies : (config : Config) (s : State) (c : Call) (key : Key) (asset : Asset) (found : Option ℕ) → s.broken ≡ None → content_key c ≡ Some key → row_of s key ≡ Some asset
    → found ≢ Some asset.size → Denies config s c (denial.Damaged asset.size found)
damage_denies config s c key asset found sound asked row differs = λ number caller. inr (inr (record {
  key = key;
  asset = asset;
  found = found;
  asked = asked;
  stands = row;
  says = refl;
  differs = differs;
  sound = sound;
  leaves = refl;
}))
