-- How an asset is given out.
use Rattle.std.specs.Prelude.{ℕ, max, Option, Some, unwrap_or}
use Rattle.std.specs.FinMap as map
use Rattle.nx_base.specs.declared.key.Key.{Key}
use Rattle.nx_base.specs.declared.asset.Asset.{Asset}
use Rattle.repo_model.specs.declared.call.Look.{Look}
use Rattle.repo_model.specs.declared.call.Look.TheVariants as look
use Rattle.repo_model.specs.declared.reply.Reply.TheVariants as reply
use Rattle.repo_model.specs.Outcome.{Outcome, answered}
use Rattle.repo_model.specs.Timestamps.{time_of}
use Rattle.repo_model.specs.State.{State}

-- the asset with that download. The time of the last one never falls.
abbrev pub downloaded : Asset → ℕ → Asset
downloaded asset now = record asset { downloaded = Some (max (unwrap_or asset.downloaded 0) now) }

-- a GET is a download, and a HEAD isn't
abbrev pub served : State → Key → Look → ℕ → Asset → Option Outcome
served state key look.Get now asset =
    let seen = downloaded asset (time_of now) in answered (record state { rows = map.insert state.rows key seen }) (reply.Found seen)
served state key look.Head now asset = answered state (reply.Found asset)
