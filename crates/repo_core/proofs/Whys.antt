-- Why works are denied or stopped, from what each of their steps says.
use Rattle.std.proofs.Common.{◌≡◌, ◌⊎◌, inl, inr, ℕ, ◌<◌, Bool, true, false, ◌&&◌, List, IsSome, IfErr, OnOk, Option, Some, Result, Ok, Err, refl, sym, ap, subst}
use Rattle.std.specs.FinMap as map
use Rattle.nx_base.specs.Order.{name_cmp}
use Rattle.nx_base.specs.declared.asset.Asset.{Asset}
use Rattle.nx_base.specs.declared.blob_ref.BlobRef.{BlobRef}
use Rattle.nx_base.specs.declared.key.Key.{Key}
use Rattle.nx_base.specs.declared.moment.Moment.{Moment}
use Rattle.nx_base.specs.declared.policy.Policy.TheVariants as policies
use Rattle.disk_model.specs.Disk.{Tree}
use Rattle.disk_model.specs.declared.disk_err.DiskErr.{DiskErr}
use Rattle.disk_model.specs.declared.disk_err.DiskErr.TheVariants as disk
use Rattle.asset_keeper.specs.declared.keep_err.KeepErr.{KeepErr}
use Rattle.asset_keeper.specs.declared.keep_err.KeepErr.TheVariants as keep
use Rattle.repo_model.specs.declared.call.Look.{Look}
use Rattle.repo_model.specs.declared.call.Look.TheVariants as looks
use Rattle.repo_model.specs.declared.reply.Cause.{Cause}
use Rattle.repo_model.specs.declared.reply.Fault.{Fault}
use Rattle.repo_model.specs.declared.reply.Fault.TheVariants as fault
use Rattle.repo_model.specs.declared.reply.Refusal.{Refusal}
use Rattle.repo_model.specs.declared.reply.Refusal.TheVariants as refusal
use Rattle.repo_model.specs.Config.{Config, repo_of}
use Rattle.repo_model.specs.Timestamps.{greatest_time}
use Rattle.repo_core.specs.declared.denial.Denial.{Denial}
use Rattle.repo_core.specs.declared.denial.Denial.TheVariants as denial
use Rattle.repo_core.specs.declared.stop.Stop.{Stop}
use Rattle.repo_core.specs.declared.stop.Stop.TheVariants as stop
use Rattle.repo_core.specs.Answers.{stopped}
use Rattle.repo_core.specs.Barred.{BarredBy}
use Rattle.repo_core.specs.Faults.{of_disk, of_keeper, refusal_of_fault, refusal_for, refusal_of_stop}
use Rattle.repo_core.specs.Looking.{NotOpened, IfDenied}
use Rattle.repo_core.specs.Marks.{NotStaged}
use Rattle.repo_core.specs.Puts.{NotPut, IsNext, next_ref}
use Rattle.repo_core.specs.View.{CoreView}
use Rattle.repo_core.specs.Why.{WhyNotDeleted, WhyNotGiven, WhyNotBegun, WhyNotPut, may_delete, may_put, keeps_rows, store_of}
use Rattle.repo_core.specs.Worked.{IsAnswerOf}

-- what is said of no refusal by which a core takes no call
pub barred_why : {D T : Type 0} (core : CoreView D T) (why : Refusal) (P : Refusal → Type 0) → P refusal.JournalFull → ((cause : Cause) → P (refusal.Broken cause)) → BarredBy core (Some why) → P why
barred_why core why P full broken (inl it) = subst P (sym it.1) full
barred_why core why P full broken (inr it) = subst P (sym it.3) (broken it.1)

-- what holds of the refusal of a work holds of the call's
pub said_why : {X A : Type 0} (says : X → A) (P : Refusal → Type 0) (done : Result X Stop) (result : Result A Refusal) → IsAnswerOf says done result → IfErr done (λ e. P (refusal_of_stop e)) → IfErr result P
said_why {X} {A} says P (Ok value) result is why = subst (λ (r : Result A Refusal). IfErr r P) (sym is) tt
said_why {X} {A} says P (Err (stop.Denied denied)) result is why = subst (λ (r : Result A Refusal). IfErr r P) (sym is) why
said_why {X} {A} says P (Err (stop.Broke what)) result is why = subst (λ (r : Result A Refusal). IfErr r P) (sym is) why

pub stopped_why : {A : Type 0} (P : Refusal → Type 0) (done : Result A Denial) → IfErr done (λ why. P (refusal_for why)) → IfErr (stopped done) (λ e. P (refusal_of_stop e))
stopped_why P (Ok value) why = tt
stopped_why P (Err denied) why = why

-- a deletion of which the keeper was asked
pub asked_delete : (config : Config) (key : Key) (found : Bool) → may_delete config key ≡ true → (r : KeepErr) → WhyNotDeleted config key found (refusal_of_fault (of_keeper r))
asked_delete config key found may keep.Failed = may
asked_delete config key found may keep.NoMemory = may

-- and which found a row
module _ (config : Config) (key : Key) (found : Bool) (may : may_delete config key ≡ true) (there : found ≡ true) where
  pub failed_delete : (what : Fault) → WhyNotDeleted config key found (refusal_of_fault what)
  failed_delete fault.Disk = (may, there)
  failed_delete fault.Keeper = may
  failed_delete fault.Memory = may

  pub unstaged_delete : (told : Type 0) (tree : Tree) (asset : Asset) (why : Denial) → NotStaged told tree asset why → WhyNotDeleted config key found (refusal_for why)
  unstaged_delete told tree asset why (inl it) = subst (λ (w : Denial). WhyNotDeleted config key found (refusal_for w)) (sym it.1) (failed_delete (of_disk it.0))
  unstaged_delete told tree asset why (inr it) = subst (λ (w : Denial). WhyNotDeleted config key found (refusal_for w)) (sym it.0) (may, there, refl)

-- a look of which the keeper was asked
pub asked_get : (config : Config) (key : Key) (look : Look) (found : Bool) (looked : Option ℕ) → IsSome (repo_of config key.repo) → (r : KeepErr)
    → WhyNotGiven config key look found looked (refusal_of_fault (of_keeper r))
asked_get config key look found looked some keep.Failed = some
asked_get config key look found looked some keep.NoMemory = some

-- a look for the bytes, where it found a row
module _ (config : Config) (key : Key) (found : Bool) (looked : Option ℕ) (some : IsSome (repo_of config key.repo)) (there : found ≡ true) where
  pub failed_get : (what : Fault) → WhyNotGiven config key looks.Get found looked (refusal_of_fault what)
  failed_get fault.Disk = (some, there, refl)
  failed_get fault.Keeper = some
  failed_get fault.Memory = some

  unopened : (told : Type 0) (tree : Tree) (asset : Asset) (why : Denial) → NotOpened told tree asset looked why → WhyNotGiven config key looks.Get found looked (refusal_for why)
  unopened told tree asset why (inl it) = subst (λ (w : Denial). WhyNotGiven config key looks.Get found looked (refusal_for w)) (sym it.1) (failed_get (of_disk it.0))
  unopened told tree asset why (inr it) = subst (λ (w : Denial). WhyNotGiven config key looks.Get found looked (refusal_for w)) (sym it.1) (some, there, refl, it.2, it.3)

  pub unserved : {A : Type 0} (told : Type 0) (tree : Tree) (asset : Asset) (done : Result A Stop) → IfDenied done (NotOpened told tree asset looked)
      → IfErr done (λ e. WhyNotGiven config key looks.Get found looked (refusal_of_stop e))
  unserved told tree asset (Ok value) denied = tt
  unserved told tree asset (Err (stop.Denied why)) denied = unopened told tree asset why denied
  unserved told tree asset (Err (stop.Broke what)) denied = failed_get what

-- the beginning of an upload
module _ (config : Config) (counts : map.FinMap name_cmp ℕ) (key : Key) (found : Bool) (may : may_put config key ≡ true) (store : IsSome (store_of config counts key)) where
  pub asked_begin : keeps_rows config key ≡ true → (r : KeepErr) → WhyNotBegun config counts key found (refusal_of_fault (of_keeper r))
  asked_begin keeps keep.Failed = (may, store, keeps)
  asked_begin keeps keep.NoMemory = (may, store)

  pub failed_begin : (keeps_rows config key ≡ true → found ≡ false) → (r : DiskErr) → WhyNotBegun config counts key found (refusal_of_fault (of_disk r))
  failed_begin free disk.Failed = (may, store, free)
  failed_begin free disk.NoMemory = (may, store)

  -- the key has a row that may not be replaced
  pub barred_begin : (why : Denial) → keeps_rows config key ≡ true → ((why ≡ denial.WriteDenied policies.NoRedeploy) × (found ≡ true)) ⊎ ((r : KeepErr) × (why ≡ denial.Failed (of_keeper r)))
      → WhyNotBegun config counts key found (refusal_for why)
  barred_begin why keeps (inl it) = subst (λ (w : Denial). WhyNotBegun config counts key found (refusal_for w)) (sym it.0) (store, keeps, it.1)
  barred_begin why keeps (inr it) = subst (λ (w : Denial). WhyNotBegun config counts key found (refusal_for w)) (sym it.1) (asked_begin keeps it.0)

-- the put of an upload, where no row bars it
module _ (config : Config) (last : ℕ) (key : Key) (moment : Moment) (found : Bool) (looked : Option ℕ) where
  pub asked_put : (r : KeepErr) → WhyNotPut config last key moment found looked (refusal_of_fault (of_keeper r))
  asked_put keep.Failed = tt
  asked_put keep.NoMemory = tt

  pub failed_put : ((keeps_rows config key && found) ≡ false) → last < greatest_time → (what : Fault) → WhyNotPut config last key moment found looked (refusal_of_fault what)
  failed_put free below fault.Disk = (free, below)
  failed_put free below fault.Keeper = tt
  failed_put free below fault.Memory = tt

  pub no_timestamp : (store : List ℕ) (why : Denial) → ((keeps_rows config key && found) ≡ false) → IsNext store last moment (Err why) → WhyNotPut config last key moment found looked (refusal_for why)
  no_timestamp store why free (inl it) = subst (λ (w : Denial). WhyNotPut config last key moment found looked (refusal_for w)) (sym it.0) (free, it.1)
  no_timestamp store why free (inr is) = subst (λ (w : Denial). WhyNotPut config last key moment found looked (refusal_for w)) (sym is) tt

  pub unstaged_put : (told : Type 0) (tree : Tree) (store : List ℕ) (blob : BlobRef) (why : Denial) → ((keeps_rows config key && found) ≡ false) → last < greatest_time → blob ≡ next_ref store last moment
      → ((id : List ℕ) → why ≡ denial.IdTaken id → IsSome looked) → NotPut told tree blob why → WhyNotPut config last key moment found looked (refusal_for why)
  unstaged_put told tree store blob why free below is looks (inl it) =
      subst (λ (w : Denial). WhyNotPut config last key moment found looked (refusal_for w)) (sym it.0) (free, below, ap (λ (b : BlobRef). b.id) is, looks blob.id it.0)
  unstaged_put told tree store blob why free below is looks (inr it) =
      subst (λ (w : Denial). WhyNotPut config last key moment found looked (refusal_for w)) (sym it.1) (failed_put free below (of_disk it.0))

  pub unstaged_puts : {A : Type 0} (told : Type 0) (tree : Tree) (store : List ℕ) (blob : BlobRef) (done : Result A Denial) → ((keeps_rows config key && found) ≡ false) → last < greatest_time → blob ≡ next_ref store last moment
      → ((id : List ℕ) → done ≡ Err (denial.IdTaken id) → IsSome looked) → IfErr done (NotPut told tree blob) → IfErr done (λ why. WhyNotPut config last key moment found looked (refusal_for why))
  unstaged_puts told tree store blob (Ok value) free below is looks denied = tt
  unstaged_puts told tree store blob (Err why) free below is looks denied = unstaged_put told tree store blob why free below is (λ id e. looks id (ap (λ (w : Denial). Err w) e)) denied

-- what holds where a work goes well holds where its call does
pub on_ok_said : {X A : Type 0} (says : X → A) (P : Type 0) (done : Result X Stop) (result : Result A Refusal) → IsAnswerOf says done result → OnOk done P → OnOk result P
on_ok_said {X} {A} says P (Ok value) result is holds = subst (λ (r : Result A Refusal). OnOk r P) (sym is) holds
on_ok_said {X} {A} says P (Err (stop.Denied why)) result is holds = subst (λ (r : Result A Refusal). OnOk r P) (sym is) tt
on_ok_said {X} {A} says P (Err (stop.Broke what)) result is holds = subst (λ (r : Result A Refusal). OnOk r P) (sym is) tt

-- what holds whatever comes holds where it goes well
pub on_ok : {A B : Type 0} (P : Type 0) (result : Result A B) → P → OnOk result P
on_ok P (Ok value) holds = holds
on_ok P (Err why) holds = tt
