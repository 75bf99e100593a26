-- What is known of the work of a put from its answer.
use Rattle.std.proofs.Common.{◌≡◌, ℕ, true, List, Option, Some, None, Result, Ok, Err, OnErr, refl, sym, ◌∙◌, ap, subst}
use Rattle.nx_base.specs.declared.asset.Asset.{Asset}
use Rattle.repo_model.specs.declared.reply.Cause.{Cause}
use Rattle.repo_model.specs.declared.reply.Fault.{Fault}
use Rattle.repo_model.specs.declared.reply.Fault.TheVariants as fault
use Rattle.repo_model.specs.declared.reply.Refusal.{Refusal}
use Rattle.repo_model.specs.declared.reply.Refusal.TheVariants as refusal
use Rattle.repo_model.specs.declared.reply.Reply.TheVariants as reply
use Rattle.asset_keeper.specs.Table.{Table}
use Rattle.asset_keeper.specs.Told.{Tells}
use Rattle.repo_core.specs.declared.denial.Denial.{Denial}
use Rattle.repo_core.specs.declared.denial.Denial.TheVariants as denial
use Rattle.repo_core.specs.declared.stop.Stop.{Stop}
use Rattle.repo_core.specs.declared.stop.Stop.TheVariants as stop
use Rattle.repo_core.specs.declared.putting.Kept.{Kept}
use Rattle.repo_core.specs.Faults.{refusal_for, refusal_of_fault}
use Rattle.repo_core.specs.Answers.{reply_of, answer_of, cause_of, is_denied}
use Rattle.repo_core.specs.Puts.{asset_of}

-- the reply of an answer with the asset is that of the answer with it twice
pub same_reply : (r : Result Kept Refusal) → reply_of {A = Kept} (λ kept. reply.Stored kept.asset) r ≡ reply_of {A = Asset} (λ asset. reply.Stored asset) (asset_of r)
same_reply (Ok kept) = refl
same_reply (Err why) = refl

some_none : {A : Type 0} (a : A) → Some a ≡ None → ⊥
some_none a e = cc

-- where nothing is broken, a refusal is of a denial
pub if_refused : (P : Type 0) (number : ℕ) (done : Result Kept Stop) (said : Result Kept Refusal) (answer : Result Asset Refusal) (broken : Option Cause)
    → answer ≡ asset_of said → said ≡ answer_of done → broken ≡ cause_of number done → broken ≡ None → (is_denied done ≡ true → P) → OnErr answer P
if_refused P number done said answer broken answer_is said_is broken_is none go =
    subst (λ (r : Result Asset Refusal). OnErr r P) (sym (answer_is ∙ ap asset_of said_is)) (by_work done (sym broken_is ∙ none) go)
  where
    by_work : (d : Result Kept Stop) → cause_of number d ≡ None → (is_denied d ≡ true → P) → OnErr (asset_of (answer_of d)) P
    by_work (Ok kept) e f = tt
    by_work (Err (stop.Denied why)) e f = f refl
    by_work (Err (stop.Broke what)) e f = absurd (some_none (record { fault = what; entry = number }) e)

pub tells_map : (P Q : Table → Table → Type 0) (old new : Option Table) → ((s t : Table) → P s t → Q s t) → Tells old new P → Tells old new Q
tells_map P Q old None f tells = tt
tells_map P Q None (Some t) f tells = absurd tells
tells_map P Q (Some s) (Some t) f tells = f s t tells

id_of_fault : (what : Fault) (id : List ℕ) → refusal_of_fault what ≡ refusal.IdTaken id → ⊥
id_of_fault fault.Disk id e = cc
id_of_fault fault.Keeper id e = cc
id_of_fault fault.Memory id e = cc

id_of_denial : (why : Denial) (id : List ℕ) → refusal_for why ≡ refusal.IdTaken id → why ≡ denial.IdTaken id
id_of_denial denial.NotFound id e = cc
id_of_denial denial.UnknownRepo id e = cc
id_of_denial (denial.WriteDenied policy) id e = cc
id_of_denial denial.NoWritable id e = cc
id_of_denial (denial.IdTaken i) id e = cc
id_of_denial denial.StampsUsed id e = cc
id_of_denial (denial.Damaged size found) id e = cc
id_of_denial (denial.Failed what) id e = absurd (id_of_fault what id e)

abbrev no_asset : Refusal → Result Asset Refusal
no_asset why = Err why

-- an id is taken only where the work was denied so
pub if_taken : (done : Result Kept Stop) (said : Result Kept Refusal) (answer : Result Asset Refusal) (id : List ℕ) → answer ≡ asset_of said → said ≡ answer_of done
    → answer ≡ Err (refusal.IdTaken id) → done ≡ Err (stop.Denied (denial.IdTaken id))
if_taken done said answer id answer_is said_is is = by_work done (sym (answer_is ∙ ap asset_of said_is) ∙ is)
  where
    err_same : (a b : Refusal) → no_asset a ≡ no_asset b → a ≡ b
    err_same a b e = cc

    by_work : (d : Result Kept Stop) → asset_of (answer_of d) ≡ Err (refusal.IdTaken id) → d ≡ Err (stop.Denied (denial.IdTaken id))
    by_work (Ok kept) e = cc
    by_work (Err (stop.Denied why)) e = ap (λ (w : Denial). Err (stop.Denied w)) (id_of_denial why id (err_same (refusal_for why) (refusal.IdTaken id) e))
    by_work (Err (stop.Broke what)) e = absurd (id_of_fault what id (err_same (refusal_of_fault what) (refusal.IdTaken id) e))
