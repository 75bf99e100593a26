-- What a look came to, as its caller and the journal are told.
use Rattle.std.proofs.Common.{◌≡◌, ℕ, Option, Some, None, Result, Ok, Err, IfOk, OnErr, true, refl, sym, ◌∙◌, ap}
use Rattle.asset_keeper.specs.Table.{Table}
use Rattle.asset_keeper.specs.Told.{Tells}
use Rattle.blob_files.specs.declared.download.Download.{Download}
use Rattle.repo_model.specs.declared.reply.Cause.{Cause}
use Rattle.repo_model.specs.declared.reply.Fault.TheVariants as fault
use Rattle.repo_model.specs.declared.reply.Refusal.{Refusal}
use Rattle.repo_model.specs.declared.reply.Refusal.TheVariants as refusal
use Rattle.repo_model.specs.declared.reply.Reply.TheVariants as reply
use Rattle.repo_model.specs.declared.transfer.GotOf.{GotOf}
use Rattle.nx_base.specs.declared.asset.Asset.{Asset}
use Rattle.repo_core.specs.declared.denial.Denial.TheVariants as denial
use Rattle.repo_core.specs.declared.given.Given.{Given}
use Rattle.repo_core.specs.declared.given.Opened.{Opened}
use Rattle.repo_core.specs.declared.stop.Stop.{Stop}
use Rattle.repo_core.specs.declared.stop.Stop.TheVariants as stop
use Rattle.repo_core.specs.Answers.{reply_of, answer_of, cause_of, is_denied}
use Rattle.repo_core.specs.Looking.{got_in, got_given, got_of, found_in}

some_none : (cause : Cause) → Some cause ≡ None → ⊥
some_none cause e = cc

module _ {R : Type 0} where
  -- the journal's reply is that of the answer
  pub reply_same : (said : Result (Given R) Refusal) → reply_of (λ given. reply.Found given.copy) said ≡ reply_of found_in (got_of said)
  reply_same (Ok given) = ap reply.Found given.copied ∙ shown given.asset given.opened
    where
      shown : (asset : Asset) (o : Option (Opened R)) → reply.Found asset ≡ found_in (got_in asset o)
      shown asset None = refl
      shown asset (Some opened) = refl
  reply_same (Err why) = refl

  -- what holds of what is given holds of the answer
  pub given_holds : (P : GotOf (Download R) → Type 0) (done : Result (Given R) Stop) → IfOk done (λ given. P (got_given given)) → IfOk (got_of (answer_of done)) P
  given_holds P (Ok given) holds = holds
  given_holds P (Err (stop.Denied why)) holds = tt
  given_holds P (Err (stop.Broke what)) holds = tt

  -- damage is told where the work was denied for it
  pub damage_from : (done : Result (Given R) Stop) (size : ℕ) (found : Option ℕ) → got_of (answer_of done) ≡ Err (refusal.Damaged size found) → done ≡ Err (stop.Denied (denial.Damaged size found))
  damage_from (Ok given) size found is = cc
  damage_from (Err (stop.Denied denial.NotFound)) size found is = cc
  damage_from (Err (stop.Denied denial.UnknownRepo)) size found is = cc
  damage_from (Err (stop.Denied (denial.WriteDenied policy))) size found is = cc
  damage_from (Err (stop.Denied denial.NoWritable)) size found is = cc
  damage_from (Err (stop.Denied (denial.IdTaken id))) size found is = cc
  damage_from (Err (stop.Denied denial.StampsUsed)) size found is = cc
  damage_from (Err (stop.Denied (denial.Damaged n o))) size found is = cc
  damage_from (Err (stop.Denied (denial.Failed fault.Disk))) size found is = cc
  damage_from (Err (stop.Denied (denial.Failed fault.Keeper))) size found is = cc
  damage_from (Err (stop.Denied (denial.Failed fault.Memory))) size found is = cc
  damage_from (Err (stop.Broke fault.Disk)) size found is = cc
  damage_from (Err (stop.Broke fault.Keeper)) size found is = cc
  damage_from (Err (stop.Broke fault.Memory)) size found is = cc

  -- a refusal that doesn't break the core leaves the rows
  clean_of : (done : Result (Given R) Stop) (n : ℕ) (broken : Option Cause) (s t : Table) → broken ≡ cause_of n done → (is_denied done ≡ true → t ≡ s) → broken ≡ None → OnErr (got_of (answer_of done)) (t ≡ s)
  clean_of (Ok given) n broken s t is clean none = tt
  clean_of (Err (stop.Denied why)) n broken s t is clean none = clean refl
  clean_of (Err (stop.Broke what)) n broken s t is clean none = absurd (some_none (record { fault = what; entry = n }) (sym is ∙ none))

  pub clean_told : (old new : Option Table) (done : Result (Given R) Stop) (n : ℕ) (broken : Option Cause) → broken ≡ cause_of n done
      → Tells old new (λ s t. is_denied done ≡ true → t ≡ s) → Tells old new (λ s t. broken ≡ None → OnErr (got_of (answer_of done)) (t ≡ s))
  clean_told old None done n broken is tells = tt
  clean_told None (Some t) done n broken is tells = absurd tells
  clean_told (Some s) (Some t) done n broken is tells = clean_of done n broken s t is tells
