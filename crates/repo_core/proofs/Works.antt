-- What the work of a call keeps, from what each work promises clause by clause.
use Rattle.std.proofs.Common.{◌≡◌, ◌⊎◌, inr, ℕ, true, false, IsSome, Result}
use Rattle.nx_io.specs.Causes.{HasCauseWhere, Rose}
use Rattle.repo_model.specs.Config.{Config}
use Rattle.repo_model.specs.State.{State}
use Rattle.disk_model.specs.Disk.{Tree, Lists, Same}
use Rattle.disk_model.specs.Moments.{During, Settled, EachImage}
use Rattle.disk_model.proofs.Chain.{weaker}
use Rattle.disk_model.proofs.Images.{same_image, settled_same}
use Rattle.asset_keeper.specs.Told.{Tells, Lasts}
use Rattle.tree_content.specs.Contents.{HasContents}
use Rattle.repo_core.specs.declared.stop.Stop.{Stop}
use Rattle.repo_core.specs.Agree.{FilesAgree}
use Rattle.repo_core.specs.Answers.{is_denied, is_broke}
use Rattle.repo_core.specs.Asks.{Ask}
use Rattle.repo_core.specs.Devices.{Devices}
use Rattle.repo_core.specs.Faults.{IsDisk, IsKeeper, StoppedBy}
use Rattle.repo_core.specs.Parts.{Parts, StandFor, KeepsRest, IsQuiet, HasShown}
use Rattle.repo_core.specs.Rows.{contents_in, rows_in}
use Rattle.repo_core.specs.Standing.{IsDurable}
use Rattle.repo_core.specs.Stays.{BytesStay}
use Rattle.repo_core.specs.Stores.{homes_of}
use Rattle.repo_core.specs.Worked.{Worked}
use Rattle.repo_core.proofs.Answering.{tells_map}
use Rattle.repo_core.proofs.Givings.{same_contents}
use Rattle.repo_core.proofs.Rests.{rest_quiet}
use Rattle.repo_core.proofs.Runs.{at_end}
use Rattle.repo_core.proofs.Stays.{stay_same}
use Rattle.repo_core.proofs.Tables.{still_told}

-- while nothing can be seen, each image has what holds of the contents before
pub crash_before : (config : Config) (tree : Tree) (s : State) → FilesAgree config tree s → {D : Type 0} (clock : D → ℕ) (lists : D → ℕ → Lists) (old new : D) (Leaves : Tree → Type 0)
    → ((image : Tree) → HasContents (homes_of config) (contents_in s.rows) image → Leaves image) → Settled tree (lists old (clock old))
    → During clock lists old new (Same (lists old (clock old))) → During clock lists old new (EachImage Leaves)
crash_before config tree s a clock lists old new Leaves before settled run =
    let start = lists old (clock old) in
    weaker clock lists (Same start) (EachImage Leaves) old new
    (λ l same image is. before image (same_contents config tree s a image (same_image tree start l settled same image is))) run

-- where nothing can be seen of it, a disk on which everything is settled stays so
pub durable_quiet : {D T : Type 0} (on : Devices D T) (old new : D) → IsQuiet on old new → on.told → IsDurable on.tree on.clock on.lists old → IsDurable on.tree on.clock on.lists new
durable_quiet on old new quiet told settled =
    settled_same (on.tree old) (on.tree new) (on.lists old (on.clock old)) (on.lists new (on.clock new)) settled (quiet.files told)
    (at_end on.clock on.lists old new (Same (on.lists old (on.clock old))) (quiet.moments told))

-- and each blob keeps its content
pub stays_quiet : {D T : Type 0} (on : Devices D T) (old new : D) → IsQuiet on old new → on.told → BytesStay (on.tree old) (on.tree new)
stays_quiet on old new quiet told = stay_same (on.tree old) (on.tree new) (quiet.files told)

-- what works promise clause by clause
pub worked_by : {D T X A : Type 0} (on : Devices D T) (ask : Ask D A) (config : Config) (old new : Parts D T) (done : Result X Stop)
    → (on.told → IsSome (on.table new.table) → ask.premise → (s : State) → StandFor on config old s → IsDurable on.tree on.clock on.lists old.disk
    → During on.clock on.lists old.disk new.disk (EachImage (ask.leaves config s)))
    → (on.told → IsSome (on.table new.table) → ask.premise → (s : State) → StandFor on config old s → is_broke done ≡ true → ask.halfway config s (on.tree new.disk) (rows_in (on.table new.table)))
    → (on.told → is_broke done ≡ false → IsDurable on.tree on.clock on.lists old.disk → IsDurable on.tree on.clock on.lists new.disk)
    → (on.told → BytesStay (on.tree old.disk) (on.tree new.disk))
    → (on.told → IsSome (on.table new.table) → ask.premise → (s : State) → StandFor on config old s → KeepsRest on (ask.touches s) old.disk new.disk)
    → Tells (on.table old.table) (on.table new.table) (λ s t. (t ≡ s) ⊎ ask.alters s t)
    → (is_denied done ≡ false → ask.keeps old.own new.own)
    → (on.told → is_denied done ≡ true → Same (on.tree old.disk) (on.tree new.disk))
    → (on.told → is_denied done ≡ true → During on.clock on.lists old.disk new.disk (Same (on.lists old.disk (on.clock old.disk))))
    → Tells (on.table old.table) (on.table new.table) (λ s t. is_denied done ≡ true → t ≡ s)
    → (is_denied done ≡ true → new.own ≡ old.own)
    → (is_broke done ≡ true → HasShown on old new)
    → (is_denied done ≡ true → (on.shown new.disk ≡ on.shown old.disk) × (on.changes new.table ≡ on.changes old.table))
    → Lasts on.lasts (on.table old.table) (on.table new.table)
    → HasCauseWhere (StoppedBy IsDisk) (on.disk_faults old.disk) (on.disk_faults new.disk) done
    → HasCauseWhere (StoppedBy IsKeeper) (on.keeper_faults old.table) (on.keeper_faults new.table) done
    → Worked on ask config old new done
worked_by on ask config old new done crash halfway durable stays rest table keeps files moments rows own behind unshown lasting disk keeper = record {
  crash = crash;
  halfway = halfway;
  durable = durable;
  stays = stays;
  rest = rest;
  table = table;
  own = keeps;
  clean = λ denied. record {
    unseen = record {
      quiet = record { files = λ told. files told denied; moments = λ told. moments told denied; shown = (unshown denied).0 };
      rows = tells_map (λ s t. is_denied done ≡ true → t ≡ s) (λ s t. t ≡ s) (on.table old.table) (on.table new.table) (λ s t same. same denied) rows;
      changes = (unshown denied).1;
    };
    own = own denied;
  };
  behind = behind;
  lasting = lasting;
  tells = λ some. still_told (λ s t. is_denied done ≡ true → t ≡ s) (on.table old.table) (on.table new.table) some rows;
  disk_cause = disk;
  keeper_cause = keeper;
}

-- of a work of which nothing can be seen in the files
pub worked_quietly : {D T X A : Type 0} (on : Devices D T) (ask : Ask D A) (config : Config) (old new : Parts D T) (done : Result X Stop)
    → ((s : State) (image : Tree) → HasContents (homes_of config) (contents_in s.rows) image → ask.leaves config s image)
    → (on.told → IsSome (on.table new.table) → ask.premise → (s : State) → StandFor on config old s → is_broke done ≡ true → ask.halfway config s (on.tree new.disk) (rows_in (on.table new.table)))
    → IsQuiet on old.disk new.disk
    → Tells (on.table old.table) (on.table new.table) (λ s t. (t ≡ s) ⊎ ask.alters s t)
    → (is_denied done ≡ false → ask.keeps old.own new.own)
    → Tells (on.table old.table) (on.table new.table) (λ s t. is_denied done ≡ true → t ≡ s) → (is_denied done ≡ true → new.own ≡ old.own)
    → (is_broke done ≡ true → Rose (on.changes old.table) (on.changes new.table)) → (is_denied done ≡ true → on.changes new.table ≡ on.changes old.table)
    → Lasts on.lasts (on.table old.table) (on.table new.table)
    → HasCauseWhere (StoppedBy IsDisk) (on.disk_faults old.disk) (on.disk_faults new.disk) done
    → HasCauseWhere (StoppedBy IsKeeper) (on.keeper_faults old.table) (on.keeper_faults new.table) done
    → Worked on ask config old new done
worked_quietly on ask config old new done before halfway quiet table keeps rows own behind unchanged lasting disk keeper =
    worked_by on ask config old new done
    (λ told some _ s a settled. crash_before config (on.tree old.disk) s a.files on.clock on.lists old.disk new.disk (ask.leaves config s) (before s) settled (quiet.moments told))
    halfway
    (λ told _ settled. durable_quiet on old.disk new.disk quiet told settled)
    (λ told. stays_quiet on old.disk new.disk quiet told)
    (λ told some _ s a. rest_quiet on (ask.touches s) told old.disk new.disk quiet) table keeps
    (λ told _. quiet.files told) (λ told _. quiet.moments told) rows own (λ broke. inr (behind broke)) (λ denied. (quiet.shown, unchanged denied)) lasting disk keeper
