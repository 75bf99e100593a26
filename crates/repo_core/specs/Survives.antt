-- What a crash inside a call, or a refusal, leaves of a core.
use Rattle.std.specs.Prelude.{◌≡◌, ◌⊎◌, Some, None, IsSome, Result, OnOk, OnErr}
use Rattle.repo_model.specs.declared.reply.Cause.{Cause}
use Rattle.repo_model.specs.declared.reply.Refusal.{Refusal}
use Rattle.repo_model.specs.State.{State}
use Rattle.repo_model.specs.Plain.{config_of}
use Rattle.disk_model.specs.Moments.{During, EachImage}
use Rattle.asset_keeper.specs.Told.{Tells}
use Rattle.repo_core.specs.Asks.{Ask}
use Rattle.repo_core.specs.Devices.{Devices}
use Rattle.repo_core.specs.Called.{parts_of}
use Rattle.repo_core.specs.Parts.{KeepsRest, AreUntouched}
use Rattle.repo_core.specs.Rows.{rows_in}
use Rattle.repo_core.specs.Standing.{Tracks, IsDurable}
use Rattle.repo_core.specs.Stays.{BytesStay}
use Rattle.repo_core.specs.View.{CoreView}

pub record Survives {D T A : Type 0} (on : Devices D T) (ask : Ask D A) (old new : CoreView D T) (result : Result A Refusal) : Type 0 where
  -- At every moment each image that a crash may leave has contents that the call allows.
  pub crash : on.told → IsSome (on.table new.table) → ask.premise → (s : State) → Tracks on.tree on.table old s → old.broken ≡ None → IsDurable on.tree on.clock on.lists old.disk
      → During on.clock on.lists old.disk new.disk (EachImage (ask.leaves (config_of old.config) s))
  -- A disk on which everything is settled is settled again, unless the core broke.
  pub durable : on.told → new.broken ≡ None → IsDurable on.tree on.clock on.lists old.disk → IsDurable on.tree on.clock on.lists new.disk
  -- The content of each blob that stood stays.
  pub stays : on.told → new.broken ≡ None → BytesStay (on.tree old.disk) (on.tree new.disk)
  -- Names with which it has nothing to do keep their files, at every moment, also where it breaks the core.
  pub rest : on.told → IsSome (on.table new.table) → ask.premise → (s : State) → Tracks on.tree on.table old s → old.broken ≡ None → KeepsRest on (ask.touches s) old.disk new.disk
  -- The table is as it was, or as the call's one change of it leaves it: other rows and the generation stay, also where it breaks the core.
  pub table : Tells (on.table old.table) (on.table new.table) (λ s t. (t ≡ s) ⊎ ask.alters s t)
  -- What the core keeps itself is as it was, or as the call's step makes it, and where the call did what it was for, as the step makes it.
  pub own : (new.own ≡ old.own) ⊎ ask.keeps old.own new.own
  pub own_done : OnOk result (ask.keeps old.own new.own)
  -- A refusal that doesn't break the core leaves everything.
  pub clean : new.broken ≡ None → OnErr result (AreUntouched on (parts_of old) (parts_of new))
  -- Where it breaks the core, the tree has contents that the call allows, as each image has by then, and so are the rows, also of a folder
  -- that wasn't settled.
  pub halfway : on.told → IsSome (on.table new.table) → ask.premise → (s : State) → Tracks on.tree on.table old s → old.broken ≡ None
      → (cause : Cause) → new.broken ≡ Some cause → ask.halfway (config_of old.config) s (on.tree new.disk) (rows_in (on.table new.table))
  -- A core that was broken stays so, and files, at every moment, rows and its own parts stay with it.
  pub stuck : (cause : Cause) → old.broken ≡ Some cause → (new.broken ≡ Some cause) × AreUntouched on (parts_of old) (parts_of new)
