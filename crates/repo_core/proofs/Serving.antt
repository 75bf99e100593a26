-- How the giving out of a content ends.
use Rattle.std.proofs.Common.{◌≡◌, inl, inr, ℕ, List, [], Option, Some, None, IsSome, Result, Ok, Err, IfOk, OnOk, IsErrOf, true, refl, sym, ◌∙◌, ap, subst}
use Rattle.std.specs.FinMap as map
use Rattle.nx_base.specs.declared.key.Key.{Key}
use Rattle.nx_base.specs.declared.asset.Asset.{Asset}
use Rattle.nx_base.specs.declared.moment.Moment.{Moment}
use Rattle.asset_keeper.specs.Table.{Table}
use Rattle.asset_keeper.specs.Told.{Tells}
use Rattle.disk_model.specs.Disk.{Tree, Same}
use Rattle.repo_model.specs.declared.call.Call.TheVariants as call
use Rattle.repo_model.specs.declared.call.Look.TheVariants as look
use Rattle.repo_model.specs.declared.call.RemoteSaid.TheVariants as remote
use Rattle.repo_model.specs.declared.reply.Reply.TheVariants as reply
use Rattle.repo_model.specs.Config.{Config}
use Rattle.repo_model.specs.State.{State, row_of}
use Rattle.repo_model.specs.Timestamps.{time_of}
use Rattle.repo_model.specs.Serving.{downloaded, served}
use Rattle.repo_model.specs.Step.{outcome}
use Rattle.tree_content.specs.Blobs.{bytes_name}
use Rattle.repo_core.specs.declared.denial.Denial.{Denial}
use Rattle.repo_core.specs.declared.denial.Denial.TheVariants as denial
use Rattle.repo_core.specs.declared.given.Given.{Given}
use Rattle.repo_core.specs.declared.given.Opened.{Opened}
use Rattle.repo_core.specs.declared.own.Own.{Own}
use Rattle.repo_core.specs.declared.stop.Stop.{Stop}
use Rattle.repo_core.specs.declared.stop.Stop.TheVariants as stop
use Rattle.repo_core.specs.Faults.{of_disk}
use Rattle.repo_core.specs.Rows.{rows_in}
use Rattle.repo_core.specs.Agree.{FilesAgree, Agrees}
use Rattle.repo_core.specs.Answers.{is_denied}
use Rattle.repo_core.specs.Ends.{Denies, Ends}
use Rattle.repo_core.specs.Got.{GotFile, GotContent}
use Rattle.repo_core.specs.Looking.{NotOpened, IfDenied, got_in, got_given}
use Rattle.repo_core.proofs.Givings.{agrees_same}
use Rattle.repo_core.proofs.Steps.{fault_denies, damage_denies}
use Rattle.repo_core.proofs.Tables.{told_of, still_told, rows_same}
use Rattle.repo_core.proofs.Lookings.{rows_noted, agrees_seen, file_content, never_other}

-- two calls of a keeper after which the rows are the same
rows_kept : (before mid after : Option Table) → IsSome after → Tells before mid (λ s t. t ≡ s) → Tells mid after (λ s t. true ≡ true → t ≡ s) → rows_in after ≡ rows_in before
rows_kept before mid after some first second =
    let w = told_of (λ s t. true ≡ true → t ≡ s) mid after some second in
    let mid_some = still_told (λ s t. true ≡ true → t ≡ s) mid after some second in
    ap rows_in w.is ∙ ap (λ (t : Table). t.rows) (w.holds refl) ∙ sym (ap rows_in w.was) ∙ rows_same before mid mid_some first

not_opened_denies : (config : Config) (s : State) (told : Type 0) (tree : Tree) (key : Key) (asset : Asset) (moment : Moment) (looked : Option ℕ) (why : Denial) → s.broken ≡ None → row_of s key ≡ Some asset
    → NotOpened told tree asset looked why → Denies config s (call.Get key look.Get moment remote.NotAsked) why
not_opened_denies config s told tree key asset moment looked why sound row (inl failed) =
    let c = call.Get key look.Get moment remote.NotAsked in
    subst (λ (d : Denial). Denies config s c d) (sym failed.1) (fault_denies config s c (of_disk failed.0) sound)
not_opened_denies config s told tree key asset moment looked why sound row (inr other) =
    let c = call.Get key look.Get moment remote.NotAsked in
    subst (λ (d : Denial). Denies config s c d) (sym other.1) (damage_denies config s c key asset other.0 sound refl row other.3)

module _ {R : Type 0} (config : Config) (told : Type 0) (tree new : Tree) (before mid after : Option Table) (own : Own) (s : State) (key : Key) (asset : Asset) (moment : Moment) (looked : Option ℕ)
    (a : Agrees config tree (rows_in before) own s) (row : row_of s key ≡ Some asset) (same : Same tree new) (some : IsSome after) (kept : Tells before mid (λ s t. t ≡ s)) where
  -- a download is a step, and what denies it leaves the state
  pub ends_served : outcome config s [] (call.Get key look.Get moment remote.NotAsked) ≡ served s key look.Get moment.now asset → (result : Result (Given R) Stop)
      → IfOk result (λ given. given.asset ≡ (downloaded asset (time_of moment.now))) → IfDenied result (NotOpened told tree asset looked)
      → Tells mid after (λ s t. OnOk result (map.get s.rows key ≡ Some asset → t.rows ≡ map.insert s.rows key (downloaded asset (time_of moment.now)))) → Tells mid after (λ s t. is_denied result ≡ true → t ≡ s)
      → Ends config s (call.Get key look.Get moment remote.NotAsked) (λ given. reply.Found given.copy) (Agrees config new (rows_in after) own) result
  ends_served step (Ok given) shown denied noted clean =
      let rows = rows_noted before mid after key asset (downloaded asset (time_of moment.now)) s.rows some kept noted a.rows_are row in (
        record s { rows = map.insert s.rows key (downloaded asset (time_of moment.now)) },
        ([], step ∙ ap (λ (x : Asset). Some (record { reply = reply.Found x; new = record s { rows = map.insert s.rows key (downloaded asset (time_of moment.now)) } })) (sym (given.copied ∙ shown))),
        agrees_seen config tree new (rows_in before) (rows_in after) own s key asset (downloaded asset (time_of moment.now)) a same row refl rows,
      )
  ends_served step (Err (stop.Denied why)) shown denied noted clean = (
    not_opened_denies config s told tree key asset moment looked why a.sound row denied,
    agrees_same config tree new (rows_in before) (rows_in after) own own s same (rows_kept before mid after some kept clean) refl a,
  )
  ends_served step (Err (stop.Broke what)) shown denied noted clean = tt

  -- no content that agrees is damaged
  pub never_damaged : told → (result : Result (Given R) Stop) → IfDenied result (NotOpened told tree asset looked) → (size : ℕ) (found : Option ℕ) → IsErrOf result (stop.Denied (denial.Damaged size found)) → ⊥
  never_damaged here (Ok given) denied size found is = cc
  never_damaged here (Err (stop.Denied why)) (inl failed) size found is = let fault : why ≡ denial.Failed (of_disk failed.0) = failed.1 in cc
  never_damaged here (Err (stop.Denied why)) (inr other) size found is = never_other config tree s a.files key asset row other.0 other.3 (other.4 here)
  never_damaged here (Err (stop.Broke what)) denied size found is = cc

-- the bytes of a file that agrees are those of the content
module _ {R : Type 0} (left : R → List ℕ) (config : Config) (tree : Tree) (s : State) (a : FilesAgree config tree s) (key : Key) (asset : Asset) (at : ℕ) (row : row_of s key ≡ Some asset) where
  its_content : (shown : Asset) (o : Option (Opened R)) → shown ≡ downloaded asset at → GotFile left tree (got_in shown o) → GotContent left (got_in shown o)
  its_content shown None is file = tt
  its_content shown (Some o) is file =
      let blob : asset.blob ≡ shown.blob = sym (ap (λ (x : Asset). x.blob) is) in
      let w = file_content config tree s a key asset row (left o.download.reader) (ap (λ (b : _). tree (bytes_name b)) blob ∙ file) in
      record { sized = w.sized ∙ sym (ap (λ (x : Asset). x.size) is); digested = w.digested ∙ sym (ap (λ (x : Asset). x.sha1) is) }

  pub served_content : (result : Result (Given R) Stop) → IfOk result (λ given. given.asset ≡ downloaded asset at) → IfOk result (λ given. GotFile left tree (got_given given)) → IfOk result (λ given. GotContent left (got_given given))
  served_content (Ok given) is file = its_content given.asset given.opened is file
  served_content (Err why) is file = tt
