-- What contracts see of a core.
use Rattle.std.specs.Prelude.{List, Option}
use Rattle.repo_model.specs.declared.reply.Cause.{Cause}
use Rattle.repo_model.specs.declared.plain.config.PlainConfig.{PlainConfig}
use Rattle.repo_model.specs.Journal.{JournalView}
use Rattle.repo_core.specs.declared.own.Own.{Own}
use Rattle.repo_core.specs.declared.hold.Hold.{Hold}

-- The devices themselves, and the core's own parts. `holds` has for each caller the blob that it reads, if it reads one.
pub record CoreView (D T : Type 0) : Type 0 where
  pub disk : D
  pub table : T
  pub config : PlainConfig
  pub journal : JournalView
  pub own : Own
  pub holds : List (Option Hold)
  pub broken : Option Cause
