-- What the calls of a session lead to: which blobs the rows then name, and which are found.
use Rattle.std.proofs.Common.{◌≡◌, ◌≢◌, ◌⊎◌, inl, inr, ℕ, ◌<◌, ◌≤◌, Bool, true, false, cond, not, ◌&&◌, ◌||◌, nat_le, IfSome, IsTrue, List, Option, Some, None, Ok, Err, refl, sym, ◌∙◌, ap, subst, arith}
use Rattle.std.specs.FinMap as map
use Rattle.nx_base.specs.Given.{given}
use Rattle.nx_base.specs.Fills.{chosen}
use Rattle.nx_base.specs.Ids.{id_made}
use Rattle.nx_base.specs.declared.key.Key.{Key}
use Rattle.nx_base.specs.declared.asset.Asset.{Asset}
use Rattle.nx_base.specs.declared.blob_ref.BlobRef.{BlobRef}
use Rattle.nx_base.specs.declared.moment.Moment.{Moment}
use Rattle.nx_base.specs.declared.policy.Policy.TheVariants.{NoRedeploy, ReadOnly}
use Rattle.tree_content.proofs.Blobs.{some_is, none_or_some, same_or_other_key}
use Rattle.repo_model.specs.declared.call.Begin.{Begin}
use Rattle.repo_model.specs.declared.call.Call.{Call}
use Rattle.repo_model.specs.declared.call.Call.TheVariants as call
use Rattle.repo_model.specs.declared.call.Look.{Look}
use Rattle.repo_model.specs.declared.call.Look.TheVariants as look
use Rattle.repo_model.specs.declared.call.RemoteSaid.TheVariants as remote
use Rattle.repo_model.specs.declared.entry.Entry.{Entry}
use Rattle.repo_model.specs.declared.reply.Fault.{Fault}
use Rattle.repo_model.specs.declared.reply.Fault.TheVariants as fault
use Rattle.repo_model.specs.declared.reply.Refusal.{Refusal}
use Rattle.repo_model.specs.declared.reply.Refusal.TheVariants as refusal
use Rattle.repo_model.specs.declared.reply.Reply.{Reply}
use Rattle.repo_model.specs.declared.reply.Reply.TheVariants as reply
use Rattle.repo_model.specs.declared.upload.Upload.{Upload}
use Rattle.repo_model.specs.Config.{Config, Repo, repo_of, write_store, group_of, takes}
use Rattle.repo_model.specs.State.{State, row_of}
use Rattle.repo_model.specs.Outcome.{Outcome, answered, refused}
use Rattle.repo_model.specs.Timestamps.{greatest_time, time_of, next_timestamp}
use Rattle.repo_model.specs.Writing.{is_put, bars_put, bars_delete, keeps_row, count_of, counted}
use Rattle.repo_model.specs.Storing.{Stored, stored, stored_as, with_asset, new_asset, is_taken}
use Rattle.repo_model.specs.Freshness.{fresh, is_settled}
use Rattle.repo_model.specs.Serving.{downloaded, served}
use Rattle.repo_model.specs.Deleting.{gone}
use Rattle.repo_model.specs.Step.{begun, on_begin, put_reply, on_put, unasked, on_get, on_delete, sound_outcome, outcome, Step}
use Rattle.repo_model.specs.History.{refusal_of, Fails, IsDamaged, Follows}
use Rattle.repo_model.specs.Laws.{IsLawful}
use Rattle.repo_model.proofs.Lawful.{outcome_lawful}
use Rattle.repo_core.specs.Standing.{IsSteadyRefusal, IsSteady}
use Rattle.repo_core.proofs.Maps.{set_at, set_beside, cut_at, cut_beside}
use Rattle.http_front.specs.Sound.{is_sound, is_sound_refusal}
use Rattle.http_front.specs.Turns.{FollowsAt}
use Rattle.http_front.proofs.OneOutcome.{TellsNoDamage, no_damage}

given_cases : {A B : Type 0} (P : B → Type 0) (o : Option A) (other : B) (f : A → B) → P other → ((x : A) → o ≡ Some x → P (f x)) → P (given o other f)
given_cases {A} P o other f at_none at_some = by o refl
  where
    by : (p : Option A) → o ≡ p → P (given p other f)
    by None e = at_none
    by (Some x) e = at_some x e

if_cases : {B : Type 0} (P : B → Type 0) (b : Bool) (x y : B) → P x → P y → P (cond b x y)
if_cases P b x y at_true at_false = elim b as (λ c. P (cond c x y)) [ true ↦ at_true | false ↦ at_false ]

-- a row of the state names the asset's blob
pub record IsNamed (s : State) (asset : Asset) : Type 0 where
  pub key : Key
  pub old : Asset
  pub row : map.get s.rows key ≡ Some old
  pub same : old.blob ≡ asset.blob

-- or it is that of what was stored
abbrev pub IsNamedOrStored : State → Reply → Asset → Type 0
IsNamedOrStored s said asset = IsNamed s asset ⊎ ((made : Asset) × (said ≡ reply.Stored made) × (made.blob ≡ asset.blob))

-- a reply that tells of no failure, after which each row names a blob that was named before or has been stored; and what was found was named
pub record IsPlain (s : State) (said : Reply) (new : State) : Type 0 where
  pub sound : IsTrue (is_sound said)
  pub rows : (key : Key) (asset : Asset) → map.get new.rows key ≡ Some asset → IsNamedOrStored s said asset
  pub found : (asset : Asset) → said ≡ reply.Found asset → IsNamed s asset

abbrev Plain : State → Option Outcome → Type 0
Plain s o = IfSome o (λ (o : Outcome). IsPlain s o.reply o.new)

its_row : (s : State) (key : Key) (asset : Asset) → map.get s.rows key ≡ Some asset → IsNamed s asset
its_row s key asset row = record { key = key; old = asset; row = row; same = refl }

refusal_plain : (s : State) (why : Refusal) → IsTrue (is_sound_refusal why) → Plain s (refused s why)
refusal_plain s why sound = record { sound = sound; rows = λ key asset row. inl (its_row s key asset row); found = λ asset e. cc }

begun_plain : (repo : Repo) (s : State) (begin : Begin) (store : List ℕ) → Plain s (begun repo s begin store)
begun_plain repo s begin store =
    if_cases (Plain s) (is_put begin.kind && keeps_row repo s begin.key) (refused s (refusal.WriteDenied NoRedeploy)) (answered (counted s (write_store repo)) (reply.Begun store))
    (refusal_plain s (refusal.WriteDenied NoRedeploy) refl)
    (record { sound = refl; rows = λ key asset row. inl (its_row s key asset row); found = λ asset e. cc })

abbrev chosen_in : Config → State → Begin → Repo → Option Outcome
chosen_in config s begin repo = given (chosen (group_of config repo) (count_of s (write_store repo))) (refused s refusal.NoWritable) (begun repo s begin)

on_begin_plain : (config : Config) (s : State) (begin : Begin) → Plain s (on_begin config s begin)
on_begin_plain config s begin =
    given_cases (Plain s) (repo_of config begin.key.repo) (refused s refusal.UnknownRepo)
    (λ repo. cond (is_put begin.kind && bars_put repo) (refused s (refusal.WriteDenied ReadOnly)) (chosen_in config s begin repo))
    (refusal_plain s refusal.UnknownRepo refl) (λ repo named.
    if_cases (Plain s) (is_put begin.kind && bars_put repo) (refused s (refusal.WriteDenied ReadOnly)) (chosen_in config s begin repo)
    (refusal_plain s (refusal.WriteDenied ReadOnly) refl)
    (given_cases (Plain s) (chosen (group_of config repo) (count_of s (write_store repo))) (refused s refusal.NoWritable) (begun repo s begin)
    (refusal_plain s refusal.NoWritable refl) (λ store is. begun_plain repo s begin store)))

-- the rows with a new asset name its blob, and others that they named
put_rows : (s : State) (key k : Key) (new asset : Asset) → map.get (map.insert s.rows key new) k ≡ Some asset → IsNamedOrStored s (reply.Stored new) asset
put_rows s key k new asset row = elim (same_or_other_key k key) [
  | inl at ↦ inr (new, refl, ap (λ (a : Asset). a.blob) (some_is new asset (sym (set_at s.rows key new k at) ∙ row)))
  | inr differ ↦ inl (its_row s k asset (sym (set_beside s.rows key new k differ) ∙ row))
]

stored_plain : (s : State) (store : List ℕ) (upload : Upload) (moment : Moment) → Plain s (put_reply s (stored s store upload moment false))
stored_plain s store upload moment =
    let timestamp = next_timestamp s.last moment.now in
    let blob : BlobRef = record { store = store; id = id_made timestamp moment.random; timestamp = timestamp } in
    let asset = new_asset upload blob timestamp in
    let done : Stored = record { asset = asset; new = with_asset s upload.key asset (time_of moment.now) } in
    if_cases (λ r. Plain s (put_reply s r)) (nat_le greatest_time s.last) (Err refusal.StampsUsed) (stored_as s upload moment.now blob timestamp)
    (refusal_plain s refusal.StampsUsed refl)
    (if_cases (λ r. Plain s (put_reply s r)) (is_taken s blob) (Err (refusal.IdTaken blob.id)) (Ok done)
    (refusal_plain s (refusal.IdTaken blob.id) refl)
    (record { sound = refl; rows = λ k a row. put_rows s upload.key k asset a row; found = λ a e. cc }))

abbrev kept_or_put : State → List ℕ → Upload → Moment → Repo → Option Outcome
kept_or_put s store upload moment repo =
    cond (keeps_row repo s upload.key) (refused s (refusal.WriteDenied NoRedeploy)) (put_reply s (stored s store upload moment false))

on_put_plain : (config : Config) (s : State) (store : List ℕ) (upload : Upload) (moment : Moment) → Plain s (on_put config s store upload moment)
on_put_plain config s store upload moment =
    given_cases (Plain s) (repo_of config upload.key.repo) None (λ repo. cond (not (takes config repo store)) None (kept_or_put s store upload moment repo)) tt (λ repo named.
    if_cases (Plain s) (not (takes config repo store)) None (kept_or_put s store upload moment repo) tt
    (if_cases (Plain s) (keeps_row repo s upload.key) (refused s (refusal.WriteDenied NoRedeploy)) (put_reply s (stored s store upload moment false))
    (refusal_plain s (refusal.WriteDenied NoRedeploy) refl) (stored_plain s store upload moment)))

-- the rows with a download name what they named
seen_rows : (s : State) (key k : Key) (old seen asset : Asset) → map.get s.rows key ≡ Some old → seen.blob ≡ old.blob → map.get (map.insert s.rows key seen) k ≡ Some asset → IsNamed s asset
seen_rows s key k old seen asset there same row = elim (same_or_other_key k key) [
  | inl at ↦ record { key = key; old = old; row = there; same = sym same ∙ ap (λ (a : Asset). a.blob) (some_is seen asset (sym (set_at s.rows key seen k at) ∙ row)) }
  | inr differ ↦ its_row s k asset (sym (set_beside s.rows key seen k differ) ∙ row)
]

reply_asset : (a b : Asset) → reply.Found a ≡ reply.Found b → a ≡ b
reply_asset a b e = cc

served_plain : (s : State) (key : Key) (l : Look) (now : ℕ) (asset : Asset) → map.get s.rows key ≡ Some asset → Plain s (served s key l now asset)
served_plain s key look.Get now asset row = record {
  sound = refl;
  rows = λ k a is. inl (seen_rows s key k asset (downloaded asset (time_of now)) a row refl is);
  found = λ a e. record { key = key; old = asset; row = row; same = ap (λ (x : Asset). x.blob) (reply_asset (downloaded asset (time_of now)) a e) };
}
served_plain s key look.Head now asset row = record {
  sound = refl;
  rows = λ k a is. inl (its_row s k a is);
  found = λ a e. record { key = key; old = asset; row = row; same = ap (λ (x : Asset). x.blob) (reply_asset asset a e) };
}

unasked_plain : (repo : Repo) (s : State) (key : Key) (l : Look) (now : ℕ) → Plain s (unasked repo s key l now)
unasked_plain repo s key l now =
    let settled = is_settled repo s key (time_of now) in
    given_cases (Plain s) (row_of s key) (cond settled (refused s refusal.NotFound) None)
    (λ asset. cond (settled || fresh asset.verified repo.max_age (time_of now)) (served s key l now asset) None)
    (if_cases (Plain s) settled (refused s refusal.NotFound) None (refusal_plain s refusal.NotFound refl) tt) (λ asset row.
    if_cases (Plain s) (settled || fresh asset.verified repo.max_age (time_of now)) (served s key l now asset) None (served_plain s key l now asset row) tt)

on_get_plain : (config : Config) (s : State) (store : List ℕ) (key : Key) (l : Look) (moment : Moment) → Plain s (on_get config s store key l moment remote.NotAsked)
on_get_plain config s store key l moment =
    given_cases (Plain s) (repo_of config key.repo) (refused s refusal.UnknownRepo) (λ repo. unasked repo s key l moment.now)
    (refusal_plain s refusal.UnknownRepo refl) (λ repo named. unasked_plain repo s key l moment.now)

cut_rows : (s : State) (key k : Key) (asset : Asset) → map.get (map.remove s.rows key) k ≡ Some asset → IsNamed s asset
cut_rows s key k asset row = elim (same_or_other_key k key) [
  | inl at ↦ absurd (none_or_some asset (sym (cut_at s.rows key k at) ∙ row))
  | inr differ ↦ its_row s k asset (sym (cut_beside s.rows key k differ) ∙ row)
]

gone_plain : (s : State) (key : Key) (now : ℕ) (asset : Asset) → Plain s (gone s key now asset)
gone_plain s key now asset = record { sound = refl; rows = λ k a row. inl (cut_rows s key k a row); found = λ a e. cc }

on_delete_plain : (config : Config) (s : State) (key : Key) (now : ℕ) → Plain s (on_delete config s key now)
on_delete_plain config s key now =
    let deleted = given (row_of s key) (refused s refusal.NotFound) (gone s key now) in
    given_cases (Plain s) (repo_of config key.repo) (refused s refusal.UnknownRepo) (λ repo. cond (bars_delete repo) (refused s (refusal.WriteDenied ReadOnly)) deleted)
    (refusal_plain s refusal.UnknownRepo refl) (λ repo named.
    if_cases (Plain s) (bars_delete repo) (refused s (refusal.WriteDenied ReadOnly)) deleted
    (refusal_plain s (refusal.WriteDenied ReadOnly) refl)
    (given_cases (Plain s) (row_of s key) (refused s refusal.NotFound) (gone s key now)
    (refusal_plain s refusal.NotFound refl) (λ asset row. gone_plain s key now asset)))

-- the calls that a session makes
abbrev pub IsAsked : Call → Type 0
IsAsked (call.Begin begin) = Unit {0}
IsAsked (call.Put key content_type size sha1 moment) = Unit {0}
IsAsked (call.Get key l moment remote.NotAsked) = Unit {0}
IsAsked (call.Get key l moment (remote.Found content_type size sha1)) = ⊥
IsAsked (call.Get key l moment remote.Missing) = ⊥
IsAsked (call.Get key l moment remote.Failed) = ⊥
IsAsked (call.Delete key now) = Unit {0}
IsAsked (call.Clean key policy now) = ⊥
IsAsked (call.Remove blob now) = ⊥
IsAsked call.Reconcile = ⊥

sound_plain : (config : Config) (s : State) (store : List ℕ) (c : Call) → IsAsked c → Plain s (sound_outcome config s store c)
sound_plain config s store (call.Begin begin) asked = on_begin_plain config s begin
sound_plain config s store (call.Put key content_type size sha1 moment) asked =
    on_put_plain config s store (record { key = key; content_type = content_type; size = size; sha1 = sha1 }) moment
sound_plain config s store (call.Get key l moment remote.NotAsked) asked = on_get_plain config s store key l moment
sound_plain config s store (call.Get key l moment (remote.Found content_type size sha1)) asked = absurd asked
sound_plain config s store (call.Get key l moment remote.Missing) asked = absurd asked
sound_plain config s store (call.Get key l moment remote.Failed) asked = absurd asked
sound_plain config s store (call.Delete key now) asked = on_delete_plain config s key now
sound_plain config s store (call.Clean key policy now) asked = absurd asked
sound_plain config s store (call.Remove blob now) asked = absurd asked
sound_plain config s store call.Reconcile asked = absurd asked

outcome_plain : (config : Config) (s : State) (store : List ℕ) (c : Call) → IsAsked c → Plain s (outcome config s store c)
unfolding outcome
outcome_plain config s store c asked =
    given_cases (Plain s) s.broken (sound_outcome config s store c) (λ cause. refused s (refusal.Broken cause))
    (sound_plain config s store c asked) (λ cause is. refusal_plain s (refusal.Broken cause) refl)

pub step_plain : (config : Config) (s : State) (c : Call) (said : Reply) (new : State) → IsAsked c → Step config s c said new → IsPlain s said new
step_plain config s c said new asked step =
    subst (λ (o : Option Outcome). IfSome o (λ (o : Outcome). IsPlain s o.reply o.new)) step.1 (outcome_plain config s step.0 c asked)

-- What an entry makes of the rows and of the last timestamp.
pub record Leads (s : State) (said : Reply) (new : State) : Type 0 where
  pub rising : s.last ≤ new.last
  pub newest : (asset : Asset) → said ≡ reply.Stored asset → (s.last < asset.blob.timestamp) × (new.last ≡ asset.blob.timestamp)
  pub rows : (key : Key) (asset : Asset) → map.get new.rows key ≡ Some asset → IsNamedOrStored s said asset
  pub found : (asset : Asset) → said ≡ reply.Found asset → IsNamed s asset

by_step : (config : Config) (s : State) (e : Entry) (new : State) → IsAsked e.call → Step config s e.call e.reply new → Leads s e.reply new
by_step config s e new asked step =
    let lawful : IsLawful s (record { reply = e.reply; new = new }) =
    subst (λ (o : Option Outcome). IfSome o (IsLawful s)) step.1 (outcome_lawful config s step.0 e.call) in
    let plain = step_plain config s e.call e.reply new asked step in
    record { rising = lawful.rising; newest = lawful.newest; rows = plain.rows; found = plain.found }

fault_stores : (what : Fault) (asset : Asset) → refusal_of what ≢ reply.Stored asset
fault_stores fault.Disk asset e = cc
fault_stores fault.Keeper asset e = cc
fault_stores fault.Memory asset e = cc

fault_finds : (what : Fault) (asset : Asset) → refusal_of what ≢ reply.Found asset
fault_finds fault.Disk asset e = cc
fault_finds fault.Keeper asset e = cc
fault_finds fault.Memory asset e = cc

-- nothing was stored or found, and last timestamp and rows stay
nothing_leads : (s : State) (said : Reply) (new : State) → new.last ≡ s.last → new.rows ≡ s.rows
    → ((asset : Asset) → said ≢ reply.Stored asset) → ((asset : Asset) → said ≢ reply.Found asset) → Leads s said new
nothing_leads s said new last rows stores finds = record {
  rising = omega (arith, last);
  newest = λ asset is. absurd (stores asset is);
  rows = λ key asset row. inl (its_row s key asset (ap (λ (m : map.FinMap _ Asset). map.get m key) (sym rows) ∙ row));
  found = λ asset is. absurd (finds asset is);
}

by_fault : (number : ℕ) (s : State) (e : Entry) (new : State) → Fails number s e.call e.reply new → Leads s e.reply new
by_fault number s e new fails =
    let last : new.last ≡ s.last = elim fails.leaves [ inl same ↦ ap (λ (t : State). t.last) same | inr broke ↦ ap (λ (t : State). t.last) broke.1 ] in
    let rows : new.rows ≡ s.rows = elim fails.leaves [ inl same ↦ ap (λ (t : State). t.rows) same | inr broke ↦ ap (λ (t : State). t.rows) broke.1 ] in
    nothing_leads s e.reply new last rows (λ asset is. fault_stores fails.what asset (sym fails.says ∙ is)) (λ asset is. fault_finds fails.what asset (sym fails.says ∙ is))

by_damage : (s : State) (e : Entry) (new : State) → IsDamaged s e.call e.reply new → Leads s e.reply new
by_damage s e new damage =
    let says = damage.says in
    nothing_leads s e.reply new (ap (λ (t : State). t.last) damage.leaves) (ap (λ (t : State). t.rows) damage.leaves)
    (λ asset is. cc (sym says ∙ is)) (λ asset is. cc (sym says ∙ is))

pub leads_of : (config : Config) (number : ℕ) (s : State) (e : Entry) (new : State) → IsAsked e.call → Follows config number s e new → Leads s e.reply new
leads_of config number s e new asked (inl step) = by_step config s e new asked step
leads_of config number s e new asked (inr (inl fails)) = by_fault number s e new fails
leads_of config number s e new asked (inr (inr damage)) = by_damage s e new damage

-- a refusal that tells of no failure is steady
sound_steady : (why : Refusal) → IsTrue (is_sound_refusal why) → IsSteadyRefusal why
sound_steady refusal.NotFound sound = tt
sound_steady refusal.UnknownRepo sound = tt
sound_steady (refusal.WriteDenied policy) sound = tt
sound_steady refusal.NoWritable sound = tt
sound_steady (refusal.IdTaken id) sound = tt
sound_steady refusal.StampsUsed sound = tt
sound_steady refusal.RemoteFault sound = tt
sound_steady (refusal.Damaged size found) sound = tt
sound_steady refusal.DiskFault sound = cc
sound_steady refusal.KeeperFault sound = cc
sound_steady (refusal.Broken cause) sound = tt
sound_steady refusal.JournalFull sound = tt
sound_steady refusal.NoMemory sound = cc

reply_steady : (said : Reply) → IsTrue (is_sound said) → IsSteady said
reply_steady (reply.Begun store) sound = tt
reply_steady (reply.Stored asset) sound = tt
reply_steady (reply.Found asset) sound = tt
reply_steady reply.Gone sound = tt
reply_steady reply.Removed sound = tt
reply_steady (reply.Reconciled kept) sound = tt
reply_steady (reply.Refused why) sound = sound_steady why sound

-- no step tells of a fault, so one that may come next comes by the step at a store, if that says it of replies that tell of none
pub follows_store : (config : Config) (number : ℕ) (s : State) (e : Entry) (new : State) (store : List ℕ) → IsAsked e.call → TellsNoDamage e.call e.reply → Follows config number s e new
    → (IsSteady e.reply → outcome config s store e.call ≡ Some (record { reply = e.reply; new = new })) → FollowsAt config number s store e new
follows_store config number s e new store asked whole (inl step) at = inl (at (reply_steady e.reply (step_plain config s e.call e.reply new asked step).sound))
follows_store config number s e new store asked whole (inr (inl fails)) at = inr fails
follows_store config number s e new store asked whole (inr (inr damage)) at = absurd (no_damage s e.call e.reply new whole damage)
