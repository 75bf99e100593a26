-- What each step keeps to, case by case.
use Rattle.std.proofs.Common.{◌≡◌, ◌≢◌, ℕ, ◌<◌, ◌≤◌, Bool, true, false, cond, not, ◌&&◌, ◌||◌, List, Option, Some, None, Result, Ok, Err, refl, subst, arith}
use Rattle.std.specs.Prelude.{IfSome, nat_le}
use Rattle.std.specs.FinMap as map
use Rattle.nx_base.specs.Given.{given}
use Rattle.nx_base.specs.Fills.{chosen}
use Rattle.nx_base.specs.Ids.{id_made}
use Rattle.nx_base.specs.Order.{same_name}
use Rattle.nx_base.specs.declared.key.Key.{Key}
use Rattle.nx_base.specs.declared.asset.Asset.{Asset}
use Rattle.nx_base.specs.declared.blob_ref.BlobRef.{BlobRef}
use Rattle.nx_base.specs.declared.moment.Moment.{Moment}
use Rattle.nx_base.specs.declared.policy.Policy.TheVariants.{NoRedeploy, ReadOnly}
use Rattle.repo_model.specs.declared.call.Begin.{Begin}
use Rattle.repo_model.specs.declared.call.Call.{Call}
use Rattle.repo_model.specs.declared.call.Call.TheVariants as call
use Rattle.repo_model.specs.declared.call.Look.{Look}
use Rattle.repo_model.specs.declared.call.Look.TheVariants as look
use Rattle.repo_model.specs.declared.call.RemoteSaid.{RemoteSaid}
use Rattle.repo_model.specs.declared.call.RemoteSaid.TheVariants as said
use Rattle.repo_model.specs.declared.reply.Refusal.{Refusal}
use Rattle.repo_model.specs.declared.reply.Refusal.TheVariants as refusal
use Rattle.repo_model.specs.declared.reply.Reply.{Reply}
use Rattle.repo_model.specs.declared.reply.Reply.TheVariants as reply
use Rattle.repo_model.specs.declared.upload.Upload.{Upload}
use Rattle.repo_model.specs.Config.{Config, Repo, repo_of, write_store, group_of, takes}
use Rattle.repo_model.specs.State.{State, row_of}
use Rattle.repo_model.specs.Outcome.{Outcome, answered, refused}
use Rattle.repo_model.specs.Timestamps.{greatest_time, time_of, next_timestamp}
use Rattle.repo_model.specs.Writing.{is_put, bars_put, bars_delete, keeps_row, count_of, counted}
use Rattle.repo_model.specs.Storing.{Stored, stored, stored_as, with_asset, new_asset, is_taken}
use Rattle.repo_model.specs.Freshness.{fresh, is_settled}
use Rattle.repo_model.specs.Notes.{noted}
use Rattle.repo_model.specs.Serving.{downloaded, served}
use Rattle.repo_model.specs.Deleting.{without_row, gone}
use Rattle.repo_model.specs.Cleaning.{first_match}
use Rattle.repo_model.specs.Removal.{may_go, without_blob}
use Rattle.repo_model.specs.Reconciling.{reconciled}
use Rattle.repo_model.specs.Step.{begun, on_begin, put_reply, on_put, unasked, fetched, on_get, on_delete, on_clean, on_remove, sound_outcome, outcome}
use Rattle.repo_model.specs.Laws.{IsLawful}

given_cases : {A B : Type 0} (P : B → Type 0) (o : Option A) (other : B) (f : A → B) → P other → ((x : A) → P (f x)) → P (given o other f)
given_cases P o other f at_none at_some = elim o as (λ p. P (given p other f)) [ None ↦ at_none | Some x ↦ at_some x ]

if_cases : {B : Type 0} (P : B → Type 0) (b : Bool) (x y : B) → P x → P y → P (cond b x y)
if_cases P b x y at_true at_false = elim b as (λ c. P (cond c x y)) [ true ↦ at_true | false ↦ at_false ]

-- an outcome, if there is one, is lawful
abbrev Lawful : State → Option Outcome → Type 0
Lawful state o = IfSome o (IsLawful state)

refusal_lawful : (state : State) (why : Refusal) → why ≢ refusal.JournalFull → Lawful state (refused state why)
refusal_lawful state why other = record {
  rising = omega arith;
  newest = λ asset e. cc;
  unbroken = refl;
  refusals = λ w e. refl;
  never_full = λ e. other (cc);
}

-- an answer that neither refuses nor stores
answer_lawful : (state new : State) (said : Reply) → state.last ≤ new.last → new.broken ≡ state.broken
    → ((asset : Asset) → said ≢ reply.Stored asset) → ((why : Refusal) → said ≢ reply.Refused why) → Lawful state (answered new said)
answer_lawful state new said rises same stores refuses = record {
  rising = rises;
  newest = λ asset e. absurd (stores asset e);
  unbroken = same;
  refusals = λ why e. absurd (refuses why e);
  never_full = refuses refusal.JournalFull;
}

found_lawful : (state mid : State) (key : Key) (l : Look) (now : ℕ) (asset : Asset) → state.last ≤ mid.last → mid.broken ≡ state.broken → Lawful state (served mid key l now asset)
found_lawful state mid key look.Get now asset rises same =
    let seen = downloaded asset (time_of now) in answer_lawful state (record mid { rows = map.insert mid.rows key seen }) (reply.Found seen) rises same (λ a e. cc) (λ w e. cc)
found_lawful state mid key look.Head now asset rises same = answer_lawful state mid (reply.Found asset) rises same (λ a e. cc) (λ w e. cc)

-- what is stored has the next timestamp
stored_cases : (state : State) (store : List ℕ) (upload : Upload) (moment : Moment) (is_fetched : Bool) (P : Result Stored Refusal → Type 0)
    → ((why : Refusal) → why ≢ refusal.JournalFull → P (Err why))
    → ((done : Stored) → state.last < done.asset.blob.timestamp → done.new.last ≡ done.asset.blob.timestamp → done.new.broken ≡ state.broken → P (Ok done))
    → P (stored state store upload moment is_fetched)
stored_cases state store upload moment is_fetched P refuses stores =
    let timestamp = next_timestamp state.last moment.now in
    let blob : BlobRef = record { store = store; id = id_made timestamp moment.random; timestamp = timestamp } in
    let verified = cond is_fetched (time_of moment.now) timestamp in
    let asset = new_asset upload blob verified in
    let done : Stored = record { asset = asset; new = with_asset state upload.key asset (time_of moment.now) } in
    let above : state.last < next_timestamp state.last moment.now = omega arith in
    if_cases P (nat_le greatest_time state.last) (Err refusal.StampsUsed) (stored_as state upload moment.now blob verified)
    (refuses refusal.StampsUsed (λ e. cc))
    (if_cases P (is_taken state blob) (Err (refusal.IdTaken blob.id)) (Ok done) (refuses (refusal.IdTaken blob.id) (λ e. cc)) (stores done above refl refl))

begun_lawful : (repo : Repo) (state : State) (begin : Begin) (store : List ℕ) → Lawful state (begun repo state begin store)
begun_lawful repo state begin store =
    let new = counted state (write_store repo) in
    if_cases (Lawful state) (is_put begin.kind && keeps_row repo state begin.key) (refused state (refusal.WriteDenied NoRedeploy)) (answered new (reply.Begun store))
    (refusal_lawful state (refusal.WriteDenied NoRedeploy) (λ e. cc)) (answer_lawful state new (reply.Begun store) (omega arith) refl (λ a e. cc) (λ w e. cc))

abbrev chosen_in : Config → State → Begin → Repo → Option Outcome
chosen_in config state begin repo = given (chosen (group_of config repo) (count_of state (write_store repo))) (refused state refusal.NoWritable) (begun repo state begin)

abbrev begun_in : Config → State → Begin → Repo → Option Outcome
begun_in config state begin repo = cond (is_put begin.kind && bars_put repo) (refused state (refusal.WriteDenied ReadOnly)) (chosen_in config state begin repo)

on_begin_lawful : (config : Config) (state : State) (begin : Begin) → Lawful state (on_begin config state begin)
on_begin_lawful config state begin =
    given_cases (Lawful state) (repo_of config begin.key.repo) (refused state refusal.UnknownRepo) (begun_in config state begin)
    (refusal_lawful state refusal.UnknownRepo (λ e. cc)) (λ repo.
    if_cases (Lawful state) (is_put begin.kind && bars_put repo) (refused state (refusal.WriteDenied ReadOnly)) (chosen_in config state begin repo)
    (refusal_lawful state (refusal.WriteDenied ReadOnly) (λ e. cc))
    (given_cases (Lawful state) (chosen (group_of config repo) (count_of state (write_store repo))) (refused state refusal.NoWritable) (begun repo state begin)
    (refusal_lawful state refusal.NoWritable (λ e. cc)) (begun_lawful repo state begin)))

put_lawful : (state : State) (done : Stored) → state.last < done.asset.blob.timestamp → done.new.last ≡ done.asset.blob.timestamp → done.new.broken ≡ state.broken → Lawful state (put_reply state (Ok done))
put_lawful state done above last same = record {
  rising = omega arith;
  newest = λ asset e.
      let is : done.asset ≡ asset = cc in
      (subst (λ (a : Asset). state.last < a.blob.timestamp) is above, subst (λ (a : Asset). done.new.last ≡ a.blob.timestamp) is last);
  unbroken = same;
  refusals = λ why e. cc;
  never_full = λ e. cc;
}

abbrev kept_or_put : State → List ℕ → Upload → Moment → Repo → Option Outcome
kept_or_put state store upload moment repo =
    cond (keeps_row repo state upload.key) (refused state (refusal.WriteDenied NoRedeploy)) (put_reply state (stored state store upload moment false))

on_put_lawful : (config : Config) (state : State) (store : List ℕ) (upload : Upload) (moment : Moment) → Lawful state (on_put config state store upload moment)
on_put_lawful config state store upload moment =
    given_cases (Lawful state) (repo_of config upload.key.repo) None (λ repo. cond (not (takes config repo store)) None (kept_or_put state store upload moment repo)) tt (λ repo.
    if_cases (Lawful state) (not (takes config repo store)) None (kept_or_put state store upload moment repo) tt
    (if_cases (Lawful state) (keeps_row repo state upload.key) (refused state (refusal.WriteDenied NoRedeploy)) (put_reply state (stored state store upload moment false))
    (refusal_lawful state (refusal.WriteDenied NoRedeploy) (λ e. cc))
    (stored_cases state store upload moment false (λ r. Lawful state (put_reply state r)) (refusal_lawful state) (put_lawful state))))

unasked_lawful : (repo : Repo) (state : State) (key : Key) (l : Look) (now : ℕ) → Lawful state (unasked repo state key l now)
unasked_lawful repo state key l now =
    let settled = is_settled repo state key (time_of now) in
    given_cases (Lawful state) (row_of state key) (cond settled (refused state refusal.NotFound) None)
    (λ asset. cond (settled || fresh asset.verified repo.max_age (time_of now)) (served state key l now asset) None)
    (if_cases (Lawful state) settled (refused state refusal.NotFound) None (refusal_lawful state refusal.NotFound (λ e. cc)) tt) (λ asset.
    if_cases (Lawful state) (settled || fresh asset.verified repo.max_age (time_of now)) (served state key l now asset) None
    (found_lawful state state key l now asset (omega arith) refl) tt)

on_get_lawful : (config : Config) (state : State) (store : List ℕ) (key : Key) (l : Look) (moment : Moment) (remote : RemoteSaid) → Lawful state (on_get config state store key l moment remote)
on_get_lawful config state store key l moment said.NotAsked =
    given_cases (Lawful state) (repo_of config key.repo) (refused state refusal.UnknownRepo) (λ repo. unasked repo state key l moment.now)
    (refusal_lawful state refusal.UnknownRepo (λ e. cc)) (λ repo. unasked_lawful repo state key l moment.now)
on_get_lawful config state store key l moment (said.Found content_type size sha1) =
    let upload : Upload = record { key = key; content_type = content_type; size = size; sha1 = sha1 } in
    let done = fetched state key l moment.now (stored state store upload moment true) in
    given_cases (Lawful state) (repo_of config key.repo) None (λ repo. cond (not (takes config repo store)) None done) tt (λ repo.
    if_cases (Lawful state) (not (takes config repo store)) None done tt
    (stored_cases state store upload moment true (λ r. Lawful state (fetched state key l moment.now r)) (refusal_lawful state)
    (λ s above last same. found_lawful state s.new key l moment.now s.asset (omega arith) same)))
on_get_lawful config state store key l moment said.Missing =
    let missing = answered (noted state key (time_of moment.now)) (reply.Refused refusal.NotFound) in
    given_cases (Lawful state) (repo_of config key.repo) (refused state refusal.UnknownRepo) (λ repo. given (row_of state key) missing (served state key l moment.now))
    (refusal_lawful state refusal.UnknownRepo (λ e. cc)) (λ repo.
    given_cases (Lawful state) (row_of state key) missing (served state key l moment.now)
    (record { rising = omega arith; newest = λ asset e. cc; unbroken = refl; refusals = λ why e. refl; never_full = λ e. cc })
    (λ asset. found_lawful state state key l moment.now asset (omega arith) refl))
on_get_lawful config state store key l moment said.Failed =
    given_cases (Lawful state) (repo_of config key.repo) (refused state refusal.UnknownRepo) (λ repo. given (row_of state key) (refused state refusal.RemoteFault) (served state key l moment.now))
    (refusal_lawful state refusal.UnknownRepo (λ e. cc)) (λ repo.
    given_cases (Lawful state) (row_of state key) (refused state refusal.RemoteFault) (served state key l moment.now)
    (refusal_lawful state refusal.RemoteFault (λ e. cc)) (λ asset. found_lawful state state key l moment.now asset (omega arith) refl))

gone_lawful : (state : State) (key : Key) (now : ℕ) (asset : Asset) → Lawful state (gone state key now asset)
gone_lawful state key now asset = answer_lawful state (without_row state key asset (time_of now)) reply.Gone (omega arith) refl (λ a e. cc) (λ w e. cc)

on_delete_lawful : (config : Config) (state : State) (key : Key) (now : ℕ) → Lawful state (on_delete config state key now)
on_delete_lawful config state key now =
    let deleted = given (row_of state key) (refused state refusal.NotFound) (gone state key now) in
    given_cases (Lawful state) (repo_of config key.repo) (refused state refusal.UnknownRepo) (λ repo. cond (bars_delete repo) (refused state (refusal.WriteDenied ReadOnly)) deleted)
    (refusal_lawful state refusal.UnknownRepo (λ e. cc)) (λ repo.
    if_cases (Lawful state) (bars_delete repo) (refused state (refusal.WriteDenied ReadOnly)) deleted
    (refusal_lawful state (refusal.WriteDenied ReadOnly) (λ e. cc))
    (given_cases (Lawful state) (row_of state key) (refused state refusal.NotFound) (gone state key now)
    (refusal_lawful state refusal.NotFound (λ e. cc)) (gone_lawful state key now)))

on_clean_lawful : (config : Config) (state : State) (key : Key) (policy : List ℕ) (now : ℕ) → Lawful state (on_clean config state key policy now)
on_clean_lawful config state key policy now =
    given_cases (Lawful state) (row_of state key) None
    (λ asset. given (first_match config key asset (time_of now)) None (λ first. cond (same_name first policy) (gone state key now asset) None)) tt (λ asset.
    given_cases (Lawful state) (first_match config key asset (time_of now)) None (λ first. cond (same_name first policy) (gone state key now asset) None) tt (λ first.
    if_cases (Lawful state) (same_name first policy) (gone state key now asset) None (gone_lawful state key now asset) tt))

on_remove_lawful : (config : Config) (state : State) (blob : BlobRef) (now : ℕ) → Lawful state (on_remove config state blob now)
on_remove_lawful config state blob now =
    let done = answered (without_blob state blob) reply.Removed in
    given_cases (Lawful state) (map.get state.trash blob) None (λ deletion. cond (may_go config state blob deletion (time_of now)) done None) tt (λ deletion.
    if_cases (Lawful state) (may_go config state blob deletion (time_of now)) done None
    (answer_lawful state (without_blob state blob) reply.Removed (omega arith) refl (λ a e. cc) (λ w e. cc)) tt)

sound_lawful : (config : Config) (state : State) (store : List ℕ) (c : Call) → Lawful state (sound_outcome config state store c)
sound_lawful config state store (call.Begin begin) = on_begin_lawful config state begin
sound_lawful config state store (call.Put key content_type size sha1 moment) =
    on_put_lawful config state store (record { key = key; content_type = content_type; size = size; sha1 = sha1 }) moment
sound_lawful config state store (call.Get key l moment remote) = on_get_lawful config state store key l moment remote
sound_lawful config state store (call.Delete key now) = on_delete_lawful config state key now
sound_lawful config state store (call.Clean key policy now) = on_clean_lawful config state key policy now
sound_lawful config state store (call.Remove blob now) = on_remove_lawful config state blob now
sound_lawful config state store call.Reconcile =
    answer_lawful state (reconciled state) (reply.Reconciled (map.len state.rows)) (omega arith) refl (λ a e. cc) (λ w e. cc)

pub outcome_lawful : (config : Config) (state : State) (store : List ℕ) (c : Call) → Lawful state (outcome config state store c)
unfolding outcome
outcome_lawful config state store c =
    given_cases (Lawful state) state.broken (sound_outcome config state store c) (λ cause. refused state (refusal.Broken cause))
    (sound_lawful config state store c) (λ cause. refusal_lawful state (refusal.Broken cause) (λ e. cc))
