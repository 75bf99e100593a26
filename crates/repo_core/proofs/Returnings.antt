-- What it makes of a core that its disk takes a part back.
use Rattle.std.proofs.Common.{◌≡◌, ℕ, List, Option, refl}
use Rattle.disk_model.specs.Disk.{TakesBack}
use Rattle.repo_model.specs.Plain.{config_of}
use Rattle.repo_core.specs.declared.hold.Hold.{Hold}
use Rattle.repo_core.specs.Devices.{Devices}
use Rattle.repo_core.specs.Parts.{IsQuiet}
use Rattle.repo_core.specs.Returned.{GaveBack}
use Rattle.repo_core.specs.Rows.{rows_in}
use Rattle.repo_core.specs.View.{CoreView}
use Rattle.repo_core.proofs.Givings.{agrees_same}
use Rattle.repo_core.proofs.Works.{durable_quiet}

pub gave_back : {D T : Type 0} (on : Devices D T) (old : CoreView D T) (disk : D) (holds : List (Option Hold)) (faults : ℕ) → IsQuiet on old.disk disk → TakesBack (on.disk_faults old.disk) (on.disk_faults disk) faults
    → on.last_look disk ≡ on.last_look old.disk → GaveBack on old (record old { disk = disk; holds = holds }) faults
gave_back on old disk holds faults quiet cause look = record {
  rest = refl;
  quiet = quiet;
  durable = durable_quiet on old.disk disk quiet;
  cause = cause;
  look = look;
  stands = λ told s tracks. record {
    broken = tracks.broken;
    agrees = λ none.
        let rows = rows_in (on.table old.table) in
        agrees_same (config_of old.config) (on.tree old.disk) (on.tree disk) rows rows old.own old.own s (quiet.files told) refl refl (tracks.agrees none);
  };
}
