-- Names with which a call has nothing to do keep their files, and a table is changed at most once.
use Rattle.std.proofs.Common.{◌≡◌, ◌⊎◌, inl, inr, ⊎_elim, ℕ, List, Option, Some, None, Result, Ok, Err, refl, sym, ◌∙◌, ap, subst}
use Rattle.disk_model.specs.Disk.{Lists, Same, Rest}
use Rattle.disk_model.specs.Moments.{During, MayPut}
use Rattle.disk_model.proofs.Chain.{and_then, weaker}
use Rattle.nx_base.specs.Given.{given}
use Rattle.nx_base.specs.declared.asset.Asset.{Asset}
use Rattle.nx_base.specs.declared.key.Key.{Key}
use Rattle.asset_keeper.specs.declared.change.Change.{Change}
use Rattle.asset_keeper.specs.declared.change.Change.TheVariants as change
use Rattle.asset_keeper.specs.declared.keep_err.KeepErr.{KeepErr}
use Rattle.asset_keeper.specs.Table.{Table, changed}
use Rattle.asset_keeper.specs.Told.{Tells, LeavesChange}
use Rattle.tree_content.specs.Blobs.{bytes_at, props_at}
use Rattle.tree_content.specs.Files.{RestOfPlace, Creates}
use Rattle.repo_core.specs.Asks.{Sets, SetsRow}
use Rattle.repo_core.specs.Devices.{Devices}
use Rattle.repo_core.specs.Looking.{IsChangeTo}
use Rattle.repo_core.specs.Parts.{KeepsBut, KeepsRest, IsQuiet}
use Rattle.repo_core.proofs.Runs.{nothing_ran, at_end}

module _ {D T : Type 0} (on : Devices D T) (touches : List ℕ → Type 0) where
  -- where nothing can be seen of a run
  pub rest_quiet : on.told → (old new : D) → IsQuiet on old new → KeepsRest on touches old new
  rest_quiet told old new quiet =
      let start = on.lists old (on.clock old) in
      record {
        files = λ n out other. quiet.files told n out;
        moments = weaker on.clock on.lists (Same start) (KeepsBut touches start) old new (λ l same n out other. same n out) (quiet.moments told);
      }

  -- where no call was made
  pub rest_still : on.told → (disk : D) → KeepsRest on touches disk disk
  rest_still told disk = rest_quiet told disk disk (record { files = λ told n out. refl; moments = λ told. nothing_ran on.clock on.lists disk; shown = refl })

  -- a run, and then another
  pub rest_then : (old mid new : D) → KeepsRest on touches old mid → KeepsRest on touches mid new → KeepsRest on touches old new
  rest_then old mid new first second =
      let P : Lists → Type 0 = KeepsBut touches (on.lists old (on.clock old)) in
      let Q : Lists → Type 0 = KeepsBut touches (on.lists mid (on.clock mid)) in
      let here : P (on.lists mid (on.clock mid)) = at_end on.clock on.lists old mid P first.moments in
      record {
        files = λ n out other. second.files n out other ∙ first.files n out other;
        moments = and_then on.clock on.lists P old mid new first.moments
            (weaker on.clock on.lists Q P mid new (λ l keeps n out other. keeps n out other ∙ here n out other) second.moments);
      }

  -- a value was put under a name of its own
  pub rest_put : (name : List ℕ) (value : Option (List ℕ)) (old new : D) → touches name → Rest name (on.tree old) (on.tree new)
      → During on.clock on.lists old new (MayPut name value (on.lists old (on.clock old))) → KeepsRest on touches old new
  rest_put name value old new its rest run =
      let start = on.lists old (on.clock old) in
      record {
        files = λ n out other. rest n out (λ e. other (subst touches (sym e) its));
        moments = weaker on.clock on.lists (MayPut name value start) (KeepsBut touches start) old new (λ l put n out other. put.rest n out (λ e. other (subst touches (sym e) its))) run;
      }

  -- the files of a blob of its own were made
  pub rest_created : (place bytes text : List ℕ) (old new : D) → touches (bytes_at place) → touches (props_at place) → RestOfPlace place (on.tree old) (on.tree new)
      → During on.clock on.lists old new (Creates place bytes text (on.lists old (on.clock old))) → KeepsRest on touches old new
  rest_created place bytes text old new its_bytes its_props rest run =
      let start = on.lists old (on.clock old) in
      record {
        files = λ n out other. rest n out (λ e. other (subst touches (sym e) its_bytes)) (λ e. other (subst touches (sym e) its_props));
        moments = weaker on.clock on.lists (Creates place bytes text start) (KeepsBut touches start) old new
            (λ l creates n out other. creates.others n out (λ e. other (subst touches (sym e) its_bytes)) (λ e. other (subst touches (sym e) its_props))) run;
      }

-- a table stays
pub tells_still : (P : Table → Table → Type 0) → ((t : Table) → P t t) → (table : Option Table) → Tells table table P
tells_still P holds None = tt
tells_still P holds (Some t) = holds t

-- a change leaves the table as it was, or with it
pub leaves_one : (c : Change) (s t : Table) (result : Result (Unit {0}) KeepErr) → LeavesChange s t c result → (t ≡ s) ⊎ (t ≡ changed s c)
leaves_one c s t (Ok x) leaves = inr leaves.0
leaves_one c s t (Err why) leaves = ⊎_elim (λ same. inl same) (λ made. inr made.1) leaves.1

-- a table that stayed, and then was changed so or stayed
pub same_then_changed : (c d : Change) (s t u : Table) → c ≡ d → t ≡ s → (u ≡ t) ⊎ (u ≡ changed t c) → (u ≡ s) ⊎ (u ≡ changed s d)
same_then_changed c d s t u is first (inl second) = inl (second ∙ first)
same_then_changed c d s t u is first (inr second) = inr (second ∙ ap (λ (x : Table). changed x c) first ∙ ap (λ (x : Change). changed s x) is)

-- or in which that row was set
pub same_then_set : (key : Key) (s t u : Table) → t ≡ s → (u ≡ t) ⊎ SetsRow key t u → (u ≡ s) ⊎ SetsRow key s u
same_then_set key s t u first (inl second) = inl (second ∙ first)
same_then_set key s t u first (inr second) = inr (second.0, second.1 ∙ ap (λ (x : Table). changed x (change.Set (record { key = key; asset = second.0 }))) first)

-- a change that notes a download sets the key's row
pub noted_row : (key : Key) (old new : Asset) (s t : Table) (c : Option Change) → IsChangeTo key old new c → (t ≡ s) ⊎ (t ≡ given c s (changed s)) → (t ≡ s) ⊎ SetsRow key s t
noted_row key old new s t None is (inl same) = inl same
noted_row key old new s t None is (inr same) = inl same
noted_row key old new s t (Some c) is (inl same) = inl same
noted_row key old new s t (Some c) is (inr made) = inr (new, made ∙ ap (λ (x : Change). changed s x) is)

-- a table that stayed, and then got the change that sets the key's row, or stayed
pub same_then_sets : (key : Key) (c : Change) (s t u : Table) → Sets key c → t ≡ s → (u ≡ t) ⊎ (u ≡ changed t c) → (u ≡ s) ⊎ SetsRow key s u
same_then_sets key c s t u sets first second =
    ⊎_elim (λ same. inl same) (λ made. inr (sets.0, made)) (same_then_changed c (change.Set (record { key = key; asset = sets.0 })) s t u sets.1 first second)
